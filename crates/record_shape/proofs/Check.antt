-- The record check's answer, both ways: which answer it is says what holds, and what holds says which answer it is.
use mathlib.Core.Bool.{Bool, true, false}
use mathlib.Core.List.{List, [], ◌∷◌, ◌++◌}
use mathlib.Core.Logic.{◌↔◌}
use mathlib.Core.Path.{◌≡◌, refl, ap, ◌∙◌, subst}
use Prim.Native.Nat.{ℕ, zero, suc, ◌+◌, ◌/◌, ◌<◌, ◌≤◌}
use native.Mathlib.Omega.{arith}
use lib.Dec.{leb}
use lib.ListN.{length, replicate, drop}
use Rattle.lists.proofs.Tells.{Tells, passes, fails, told, tells_true, tells_false, leb_tells}
use Rattle.causes.specs.Causes.{Condition, ◌unless◌}
use Rattle.causes.specs.Sizes.{record_conditions, record_cause}
use Rattle.causes.proofs.Causes.{first_here, passed_none, sorted, none_passed, append_first, append_later, passed_append, passed_parts}
use Rattle.causes.proofs.Sizes.{Fit, record_passed, record_fit}
use Rattle.soundness.proofs.Once.{empty_sound, empty_unsound}
use Rattle.record_shape.specs.Record.{node_count, nodes_at, shape_in, shape_at, RuleAt, SoundRecord, DeepestLevel}
use Rattle.record_shape.specs.Test.{sound_nodes, deepest_nodes}
use Rattle.record_shape.specs.Check.{Verdict, sound, unsound, refused, cause_of, soundness_of, check_of, words_after, check_conditions}
use Rattle.record_shape.proofs.Record.{record_tells, record_deepest, deepest_one}

-- ---- the first cause
module _ (long n words : ℕ) where
  -- behind the sizes
  abbrev enough : List Condition
  enough = 4 unless leb (long / 80 + n) words ∷ []

  -- causes 1 and 2
  pub cause_sizes : (record_cause long n ≡ 0 → ⊥) → cause_of long n words ≡ record_cause long n
  unfolding check_conditions
  cause_sizes h = append_first (record_conditions long n) enough h

  module _ (fit : Fit long n) where
    pub cause_short : words < long / 80 + n → cause_of long n words ≡ 4
    unfolding check_conditions
    cause_short h =
        append_later (record_conditions long n) enough (record_passed long n fit)
        ∙ first_here [] (tells_false (leb_tells (long / 80 + n) words) (λ l. omega arith))

    pub cause_none : long / 80 + n ≤ words → cause_of long n words ≡ 0
    unfolding check_conditions
    cause_none h =
        passed_none (check_conditions long n words)
        (passed_append (record_conditions long n) enough (record_passed long n fit) (tells_true (leb_tells (long / 80 + n) words) h, tt))

  -- where none holds all sizes fit
  pub record Fits : Type 0 where
    pub sizes : Fit long n
    pub room : long / 80 + n ≤ words

  pub fits : cause_of long n words ≡ 0 → Fits
  unfolding check_conditions record_conditions sorted
  fits e =
      let p = passed_parts (record_conditions long n) enough (none_passed 0 (check_conditions long n words) tt e) in
      record { sizes = record_fit long n p.0; room = told (leb_tells (long / 80 + n) words) p.1.0 }

-- ---- answers

pub answers_sound : (bytes : List ℕ) (n : ℕ) → SoundRecord bytes n → (d : ℕ) → DeepestLevel bytes n d → soundness_of bytes n ≡ sound d
unfolding soundness_of
answers_sound bytes n s d e = go (sound_nodes (nodes_at bytes) n) (record_tells (nodes_at bytes) n)
  where
    go : (b : Bool) → Tells (SoundRecord bytes n) b → elim b [ true ↦ sound (deepest_nodes (nodes_at bytes) n) | false ↦ unsound ] ≡ sound d
    go true (passes p) = ap sound (deepest_one (nodes_at bytes) n d s e)
    go false (fails p) = absurd (p s)

pub answers_unsound : (bytes : List ℕ) (n : ℕ) → (SoundRecord bytes n → ⊥) → soundness_of bytes n ≡ unsound
unfolding soundness_of
answers_unsound bytes n s = go (sound_nodes (nodes_at bytes) n) (record_tells (nodes_at bytes) n)
  where
    go : (b : Bool) → Tells (SoundRecord bytes n) b → elim b [ true ↦ sound (deepest_nodes (nodes_at bytes) n) | false ↦ unsound ] ≡ unsound
    go true (passes p) = absurd (s p)
    go false (fails p) = refl

module _ (bytes : List ℕ) (n words : ℕ) where
  -- at a cause the answer is its number
  pub check_refuses : 0 < cause_of (length bytes) n words → check_of bytes n words ≡ refused (cause_of (length bytes) n words)
  unfolding check_of
  check_refuses h = go (cause_of (length bytes) n words) h
    where
      go : (c : ℕ) → 0 < c → elim c [ zero ↦ soundness_of bytes n | suc d ↦ refused (suc d) ] ≡ refused c
      go zero l = absurd (omega arith)
      go (suc c) l = refl

  pub check_answers : cause_of (length bytes) n words ≡ 0 → check_of bytes n words ≡ soundness_of bytes n
  unfolding check_of
  check_answers h = ap (λ (c : ℕ). elim c [ zero ↦ soundness_of bytes n | suc d ↦ refused (suc d) ]) h

  -- where no cause holds a sound record is answered with its deepest level,
  pub check_sound : cause_of (length bytes) n words ≡ 0 → SoundRecord bytes n → (d : ℕ) → DeepestLevel bytes n d → check_of bytes n words ≡ sound d
  check_sound h s d e = check_answers h ∙ answers_sound bytes n s d e

  -- and any other is unsound
  pub check_unsound : cause_of (length bytes) n words ≡ 0 → (SoundRecord bytes n → ⊥) → check_of bytes n words ≡ unsound
  check_unsound h s = check_answers h ∙ answers_unsound bytes n s

  -- the answer and all that holds with it
  data Says : Verdict → Type 0 where
    says_sound : (d : ℕ) → cause_of (length bytes) n words ≡ 0 → SoundRecord bytes n → DeepestLevel bytes n d → Says (sound d)
    says_unsound : cause_of (length bytes) n words ≡ 0 → (SoundRecord bytes n → ⊥) → Says unsound
    says_refused : (c : ℕ) → cause_of (length bytes) n words ≡ c → 0 < c → Says (refused c)

  check_says : Says (check_of bytes n words)
  unfolding check_of soundness_of
  check_says = go (cause_of (length bytes) n words) refl (sound_nodes (nodes_at bytes) n) (record_tells (nodes_at bytes) n)
    where
      go : (c : ℕ) → cause_of (length bytes) n words ≡ c → (b : Bool) → Tells (SoundRecord bytes n) b
          → Says (elim c [ zero ↦ elim b [ true ↦ sound (deepest_nodes (nodes_at bytes) n) | false ↦ unsound ] | suc d ↦ refused (suc d) ])
      go zero e true (passes p) = says_sound (deepest_nodes (nodes_at bytes) n) e p (record_deepest (nodes_at bytes) n p)
      go zero e false (fails p) = says_unsound e p
      go (suc c) e b t = says_refused (suc c) e (omega arith)

  -- The answer is sound with level d exactly if no cause holds, the record is sound and d is its deepest level;
  pub sound_iff : (d : ℕ) → (check_of bytes n words ≡ sound d)
      ↔ ((cause_of (length bytes) n words ≡ 0) × SoundRecord bytes n × DeepestLevel bytes n d)
  sound_iff d = (go (check_of bytes n words) check_says, λ h. check_sound h.0 h.1 d h.2)
    where
      go : (a : Verdict) → Says a → a ≡ sound d → (cause_of (length bytes) n words ≡ 0) × SoundRecord bytes n × DeepestLevel bytes n d
      go a (says_sound l c s h) e = let z : l ≡ d = cc in (c, s, subst (λ (x : ℕ). DeepestLevel bytes n x) z h)
      go a (says_unsound c s) e = let z : ◌≡◌ {A = ℕ} 0 1 = cc in absurd (omega arith)
      go a (says_refused k c l) e = let z : ◌≡◌ {A = ℕ} 0 1 = cc in absurd (omega arith)

  -- it is unsound exactly if no cause holds and the record is not sound;
  pub unsound_iff : (check_of bytes n words ≡ unsound) ↔ ((cause_of (length bytes) n words ≡ 0) × (SoundRecord bytes n → ⊥))
  unsound_iff = (go (check_of bytes n words) check_says, λ h. check_unsound h.0 h.1)
    where
      go : (a : Verdict) → Says a → a ≡ unsound → (cause_of (length bytes) n words ≡ 0) × (SoundRecord bytes n → ⊥)
      go a (says_sound l c s h) e = let z : ◌≡◌ {A = ℕ} 0 1 = cc in absurd (omega arith)
      go a (says_unsound c s) e = (c, s)
      go a (says_refused k c l) e = let z : ◌≡◌ {A = ℕ} 0 1 = cc in absurd (omega arith)

  -- and it is refused with number c exactly if c is the first cause that holds.
  pub refused_iff : (c : ℕ) → (check_of bytes n words ≡ refused c) ↔ ((cause_of (length bytes) n words ≡ c) × (0 < c))
  refused_iff c = (go (check_of bytes n words) check_says, λ h. let z = h.0 in let p = h.1 in check_refuses (omega arith) ∙ ap refused z)
    where
      go : (a : Verdict) → Says a → a ≡ refused c → (cause_of (length bytes) n words ≡ c) × (0 < c)
      go a (says_sound l k s h) e = let z : ◌≡◌ {A = ℕ} 0 1 = cc in absurd (omega arith)
      go a (says_unsound k s) e = let z : ◌≡◌ {A = ℕ} 0 1 = cc in absurd (omega arith)
      go a (says_refused k d l) e = let z : k ≡ c = cc in (d ∙ z, omega arith)

-- ---- a record without nodes is sound with level 0 for no positions, and unsound for any other number
pub none_sound : (words : ℕ) → check_of [] 0 words ≡ sound 0
unfolding shape_in
none_sound words =
    let s : SoundRecord [] 0 × DeepestLevel [] 0 0 = empty_sound (shape_at [] 0) (RuleAt [] 0) refl refl in
    check_sound [] 0 words (cause_none 0 0 words (record { whole = refl; few = omega arith; small = omega arith }) (omega arith)) s.0 0 s.1

pub none_unsound : (n words : ℕ) → 0 < n → n ≤ 65536 → n ≤ words → check_of [] n words ≡ unsound
unfolding shape_in
none_unsound n words z l w =
    check_unsound [] n words
    (cause_none 0 n words (record { whole = refl; few = l; small = omega arith }) (omega arith)) (empty_unsound (shape_at [] n) (RuleAt [] n) refl z)

-- ---- the working words

module _ (bytes : List ℕ) (n : ℕ) (words : List ℕ) where
  -- a refusal leaves them,
  pub words_kept : 0 < cause_of (length bytes) n (length words) → words_after bytes n words ≡ words
  unfolding words_after
  words_kept h = go (cause_of (length bytes) n (length words)) h
    where
      go : (c : ℕ) → 0 < c → elim c [ zero ↦ replicate (node_count bytes + n) 0 ++ drop (node_count bytes + n) words | suc d ↦ words ] ≡ words
      go zero l = absurd (omega arith)
      go (suc c) l = refl

  -- and any other answer leaves zeros where they were needed
  pub words_zero : cause_of (length bytes) n (length words) ≡ 0 → words_after bytes n words
      ≡ replicate (node_count bytes + n) 0 ++ drop (node_count bytes + n) words
  unfolding words_after
  words_zero h = ap (λ (c : ℕ). elim c [ zero ↦ replicate (node_count bytes + n) 0 ++ drop (node_count bytes + n) words | suc d ↦ words ]) h
