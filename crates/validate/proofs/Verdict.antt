-- What the result of the record check says, both ways: the answer determines the case, and each case says what holds of the record.
use mathlib.Core.List.{List, [], ◌∷◌}
use mathlib.Core.Logic.{◌↔◌}
use mathlib.Core.Path.{◌≡◌, refl, sym, ap, ◌∙◌}
use Prim.Native.Nat.{ℕ}
use native.Mathlib.Omega.{arith}
use lib.ListN.{length, get_or}
use Rattle.std.specs.Prelude.{Option, Some, None, Result, Ok, Err}
use Rattle.causes.specs.declared.Refusal.{Refusal}
use Rattle.causes.specs.declared.Refusal.TheVariants as R
use Rattle.causes.specs.Refusal.{cause_number}
use Rattle.causes.proofs.Refusals.{some_number}
use Rattle.record_shape.specs.Record.{SoundRecord, DeepestLevel}
use Rattle.record_shape.specs.Check.{cause_of, check_of}
use Rattle.record_shape.proofs.Check.{sound_iff, unsound_iff, refused_iff}
use Rattle.validate.specs.Validity.{soundness, verdict_of}

apart : {A : Type 0} → ◌≡◌ {A = ℕ} 0 1 → A
apart e = absurd (omega arith)

-- the refusal of a number; no refusal has the number 0 or 11
abbrev at_number : ℕ → Refusal
at_number k =
    get_or (R.Fault ∷ R.LengthUnfit ∷ R.TooMany ∷ R.LimitOver ∷ R.SliceShort ∷ R.LinkOutside ∷ R.BoxRefused ∷ R.NotOneTree ∷ R.TooDeep
    ∷ R.RayRefused ∷ R.Fault ∷ R.Fault ∷ R.LossesUnfit ∷ R.IndexOver ∷ R.SpansUnfit ∷ []) k R.Fault

number_back : (f : Refusal) → at_number (cause_number f) ≡ f
number_back R.LengthUnfit = refl
number_back R.TooMany = refl
number_back R.LimitOver = refl
number_back R.SliceShort = refl
number_back R.LinkOutside = refl
number_back R.BoxRefused = refl
number_back R.NotOneTree = refl
number_back R.TooDeep = refl
number_back R.RayRefused = refl
number_back R.Fault = refl
number_back R.LossesUnfit = refl
number_back R.IndexOver = refl
number_back R.SpansUnfit = refl

same_refusal : (f g : Refusal) → cause_number f ≡ cause_number g → f ≡ g
same_refusal f g e = sym (number_back f) ∙ ap at_number e ∙ number_back g

-- different cases are different answers
pub answer_one : (a b : Result (Option ℕ) Refusal) → verdict_of a ≡ verdict_of b → a ≡ b
unfolding verdict_of soundness
answer_one (Ok (Some l)) (Ok (Some k)) e = let z : l ≡ k = cc in ap (λ (x : ℕ). Ok (Some x)) z
answer_one (Ok (Some l)) (Ok None) e = apart (cc)
answer_one (Ok (Some l)) (Err g) e = apart (cc)
answer_one (Ok None) (Ok (Some k)) e = apart (cc)
answer_one (Ok None) (Ok None) e = refl
answer_one (Ok None) (Err g) e = apart (cc)
answer_one (Err f) (Ok (Some k)) e = apart (cc)
answer_one (Err f) (Ok None) e = apart (cc)
answer_one (Err f) (Err g) e = ap Err (same_refusal f g (cc))

module _ (bytes : List ℕ) (n words : ℕ) (r : Result (Option ℕ) Refusal) (h : verdict_of r ≡ check_of bytes n words) where
  -- sound with deepest level d exactly if no cause holds, the record is sound and d is its deepest level
  pub result_sound : (d : ℕ) → (r ≡ Ok (Some d)) ↔ ((cause_of (length bytes) n words ≡ 0) × SoundRecord bytes n × DeepestLevel bytes n d)
  unfolding verdict_of soundness
  result_sound d = (λ e. (sound_iff bytes n words d).0 (cc), λ s. answer_one r (Ok (Some d)) (h ∙ (sound_iff bytes n words d).1 s))

  -- unsound exactly if no cause holds and the record is not sound
  pub result_unsound : (r ≡ Ok None) ↔ ((cause_of (length bytes) n words ≡ 0) × (SoundRecord bytes n → ⊥))
  unfolding verdict_of soundness
  result_unsound = (λ e. (unsound_iff bytes n words).0 (cc), λ s. answer_one r (Ok None) (h ∙ (unsound_iff bytes n words).1 s))

  -- refused for f exactly if f is the first cause that holds
  pub result_refused : (f : Refusal) → (r ≡ Err f) ↔ (cause_of (length bytes) n words ≡ cause_number f)
  unfolding verdict_of
  result_refused f = (
    λ e. ((refused_iff bytes n words (cause_number f)).0 (sym h ∙ ap verdict_of e)).0,
    λ s. answer_one r (Err f) (h ∙ (refused_iff bytes n words (cause_number f)).1 (s, (let p = some_number f in omega (arith, p)))),
  )
