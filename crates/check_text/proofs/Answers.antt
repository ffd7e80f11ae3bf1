-- The text of each case, and the answer to the input.
use mathlib.Core.Bool.{Bool, true, false}
use mathlib.Core.List.{List}
use mathlib.Core.Path.{◌≡◌, refl, sym, ap, ◌∙◌}
use Prim.Native.Nat.{ℕ, zero, suc, ◌+◌, ◌-◌, ◌<◌, ◌≤◌}
use native.Mathlib.Omega.{arith}
use lib.Dec.{ltb}
use lib.ListN.{length, take, drop, length-append, length-drop}
use lib.Seq.{take-length, length-take-le}
use Rattle.lists.specs.Splice.{splice}
use Rattle.lists.proofs.Tells.{Tells, passes, fails, ltb_tells}
use Rattle.causes.specs.Sizes.{record_cause}
use Rattle.causes.proofs.Sizes.{none_record}
use Rattle.words.specs.Le.{le_at}
use Rattle.show.specs.Show.{refusal_text}
use Rattle.record_shape.specs.Check.{refused, cause_of, soundness_of, check_of}
use Rattle.record_shape.proofs.Check.{cause_sizes, cause_none}
use Rattle.std.specs.Prelude.{Result, Option}
use Rattle.causes.specs.declared.Refusal.{Refusal}
use Rattle.validate.specs.Validity.{verdict_of}
use Rattle.check_text.specs.CheckText.{all_words, answer_text, answer_at, check_text}

-- what was written is the text, and r is its length
abbrev pub Wrote : List ℕ → List ℕ → ℕ → List ℕ → Type 0
Wrote s text r t = (r ≡ length text) × (t ≡ splice s 0 text)

-- input that ends within the word
pub wrote_short : (input : List ℕ) (r : ℕ) (s t : List ℕ) → length input < 4 → Wrote s (refusal_text 1) r t → Wrote s (check_text input) r t
unfolding check_text answer_at answer_text
wrote_short input r s t l h = go (ltb (length input) 4) (ltb_tells (length input) 4)
  where
    go : (b : Bool) → Tells (length input < 4) b → Wrote s
        (answer_text (elim b [ true ↦ refused 1 | false ↦ check_of (drop 4 input) (le_at 4 input 0) all_words ])) r t
    go true (passes p) = h
    go false (fails p) = absurd (p l)

-- the words are enough, so that how many there are does not matter
enough : (long n words : ℕ) → all_words ≤ words → cause_of long n words ≡ cause_of long n all_words
enough long n words h = go (record_cause long n) refl
  where
    go : (c : ℕ) → record_cause long n ≡ c → cause_of long n words ≡ cause_of long n all_words
    go zero e = let f = none_record long n e in cause_none long n words f (omega arith) ∙ sym (cause_none long n all_words f (omega arith))
    go (suc c) e =
        let some : record_cause long n ≡ 0 → ⊥ = λ z. omega (arith, e, z) in
        cause_sizes long n words some ∙ sym (cause_sizes long n all_words some)

-- the input behind the word
behind : (input : List ℕ) → take (length input - 4) (drop 4 input) ≡ drop 4 input
behind input = rw (← length-drop 4 input) (take-length (drop 4 input))

pub wrote_checked : (input : List ℕ) (n words r : ℕ) (s t : List ℕ) (v : Result (Option ℕ) Refusal)
    → 4 ≤ length input → n ≡ le_at 4 input 0 → all_words ≤ words
    → verdict_of v ≡ check_of (take (length input - 4) (drop 4 input)) n words → Wrote s (answer_text (verdict_of v)) r t
    → Wrote s (check_text input) r t
unfolding check_text answer_at check_of
wrote_checked input n words r s t v l e w a h = go (ltb (length input) 4) (ltb_tells (length input) 4)
  where
    same : verdict_of v ≡ check_of (drop 4 input) (le_at 4 input 0) all_words
    same =
        a ∙ ap (λ (b : List ℕ). check_of b n words) (behind input)
        ∙ ap (λ (c : ℕ). elim c [ zero ↦ soundness_of (drop 4 input) n | suc d ↦ refused (suc d) ]) (enough (length (drop 4 input)) n words w)
        ∙ ap (λ (x : ℕ). check_of (drop 4 input) x all_words) e

    go : (b : Bool) → Tells (length input < 4) b → Wrote s
        (answer_text (elim b [ true ↦ refused 1 | false ↦ check_of (drop 4 input) (le_at 4 input 0) all_words ])) r t
    go true (passes p) = absurd (omega arith)
    go false (fails p) = rw (← same) h

-- a text written into a buffer of the same length fits
pub text_fits : (s t text : List ℕ) (r : ℕ) → length t ≡ length s → r ≡ length text → t ≡ splice s 0 text → r ≤ length t
unfolding splice
text_fits s t text r l e w =
    let a : length t ≡ length text + (length s - (0 + length text)) = rw w (simp (length-append, length-drop) (omega arith)) in
    omega arith

-- a number no longer than a list counts its first elements
pub counts : (n : ℕ) (s : List ℕ) → n ≤ length s → (n ≤ length s) × (n ≡ length (take n s))
counts n s l = (l, sym (length-take-le n s l))
