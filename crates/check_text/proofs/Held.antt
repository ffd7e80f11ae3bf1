-- Input of any length is answered by what is kept of it: past the longest that a record can have the length alone decides.
use mathlib.Core.Bool.{Bool, true, false}
use mathlib.Core.List.{List, [], ◌∷◌, ◌++◌}
use mathlib.Core.Path.{◌≡◌, refl, sym, ap, ◌∙◌}
use Prim.Native.Nat.{ℕ, ◌+◌, ◌-◌, ◌%◌, ◌<◌, ◌≤◌}
use native.Mathlib.Nat.{add-zero, add_assoc}
use native.Mathlib.Omega.{arith}
use lib.Dec.{eqb, leb, ltb}
use lib.ListN.{length, take, drop, length-append, length-drop}
use lib.Seq.{take_all, take-take, take-append-le, length-take-le}
use Rattle.lists.proofs.Tells.{Tells, passes, fails, eqb_tells, leb_tells, ltb_tells}
use Rattle.lists.specs.Sums.{sum_over}
use Rattle.causes.specs.Sizes.{record_cause}
use Rattle.causes.proofs.Sizes.{record_unfit, record_over}
use Rattle.words.specs.Le.{le_at}
use Rattle.record_shape.specs.Check.{refused, cause_of, check_of}
use Rattle.record_shape.proofs.Check.{cause_sizes, check_refuses}
use Rattle.check_text.specs.CheckText.{all_words, answer_at, check_text}
use Rattle.check_text.specs.Held.{longest, held_length, held_after, StandsFor, over_cause}

-- ---- lengths

-- which of the two a length is held as
data HeldAs (long : ℕ) : ℕ → Type 0 where
  whole : long ≤ longest → HeldAs long long
  over : longest < long → HeldAs long (longest + 1 + (long - (longest + 1)) % 80)

held_as_lem : (long : ℕ) → HeldAs long (held_length long)
unfolding held_length
held_as_lem long = go (leb long longest) (leb_tells long longest)
  where
    go : (b : Bool) → Tells (long ≤ longest) b → HeldAs long (elim b [ true ↦ long | false ↦ longest + 1 + (long - (longest + 1)) % 80 ])
    go true (passes p) = whole p
    go false (fails p) = over (omega (arith, p))

pub held_whole : (long : ℕ) → long ≤ longest → held_length long ≡ long
held_whole long l = go (held_length long) (held_as_lem long)
  where
    go : (h : ℕ) → HeldAs long h → h ≡ long
    go h (whole p) = refl
    go h (over p) = absurd (omega arith)

pub held_over : (long : ℕ) → longest < long → held_length long ≡ longest + 1 + (long - (longest + 1)) % 80
held_over long l = go (held_length long) (held_as_lem long)
  where
    go : (h : ℕ) → HeldAs long h → h ≡ longest + 1 + (long - (longest + 1)) % 80
    go h (whole p) = absurd (omega arith)
    go h (over p) = refl

pub held_fits : (long : ℕ) → held_length long ≤ longest + 80
held_fits long = go (held_length long) (held_as_lem long)
  where
    go : (h : ℕ) → HeldAs long h → h ≤ longest + 80
    go h (whole p) = omega arith
    go h (over p) = omega arith

-- more bytes may be added to the length held
pub held_more : (long more : ℕ) → held_length (held_length long + more) ≡ held_length (long + more)
held_more long more = go (held_length long) (held_as_lem long)
  where
    go : (h : ℕ) → HeldAs long h → held_length (h + more) ≡ held_length (long + more)
    go h (whole p) = refl
    go h (over p) =
        let a : held_length (h + more) ≡ longest + 1 + (h + more - (longest + 1)) % 80 = held_over (h + more) (omega arith) in
        let b : held_length (long + more) ≡ longest + 1 + (long + more - (longest + 1)) % 80 = held_over (long + more) (omega arith) in
        omega arith

-- after reads the length held is the one that stands for the length of all that was read
pub held_after_lem : (long : ℕ) (counts : List ℕ) → held_after (held_length long) counts ≡ held_length (long + sum_over (λ more. more) counts)
unfolding held_after sum_over
held_after_lem long [] = rw add-zero
held_after_lem long (more ∷ rest) = rw (held_more, ← add_assoc) (held_after_lem (long + more) rest)

-- where the first bytes fill the room, the part of it that has the length held after reads of all the rest stands for the whole input
pub reads_hold : (first rest counts : List ℕ) → length first ≡ longest + 80 → sum_over (λ more. more) counts ≡ length rest
    → StandsFor (first ++ rest) (take (held_after (longest + 80) counts) first)
unfolding held_length
reads_hold first rest counts room read =
    let long : length (first ++ rest) ≡ longest + 80 + sum_over (λ more. more) counts = simp length-append (omega arith) in
    let held : held_after (longest + 80) counts ≡ held_length (length (first ++ rest)) = rw long (held_after_lem (longest + 80) counts) in
    let over = held_over (length (first ++ rest)) (omega arith) in
    record {
      long = length-take-le (held_after (longest + 80) counts) first (omega arith) ∙ held;
      bytes = take-take longest (held_after (longest + 80) counts) first (omega arith) ∙ sym (take-append-le longest first rest (omega arith));
    }

-- the same for one count of all the rest
pub read_holds : (first rest : List ℕ) (held : ℕ) → length first ≡ longest + 80 → held ≡ held_length (longest + 80 + length rest)
    → StandsFor (first ++ rest) (take held first)
unfolding held_after sum_over
read_holds first rest held room e = rw e (reads_hold first rest (length rest ∷ []) room (add-zero (length rest)))

-- where the room is full, its length is held
pub held_room : held_length (longest + 80) ≡ longest + 80
held_room = held_over (longest + 80) (omega arith)

-- input that the room takes whole stands for itself
pub all_holds : (input : List ℕ) → length input ≤ longest + 80 → StandsFor input input
all_holds input l = record { long = go (held_length (length input)) (held_as_lem (length input)); bytes = refl }
  where
    go : (h : ℕ) → HeldAs (length input) h → length input ≡ h
    go h (whole p) = refl
    go h (over p) = omega arith

-- ---- answers

over_cause_lem : (input : List ℕ) (n : ℕ) → longest < length input → over_cause (length input) ≡ record_cause (length (drop 4 input)) n
unfolding over_cause
over_cause_lem input n l = go (eqb ((length input - 4) % 80) 0) (eqb_tells ((length input - 4) % 80) 0)
  where
    go : (b : Bool) → Tells ((length input - 4) % 80 ≡ 0) b → elim b [ false ↦ 1 | true ↦ 2 ] ≡ record_cause (length (drop 4 input)) n
    go true (passes p) = sym (record_over _ n (simp length-drop p) (λ h. omega (arith, h.1, length-drop 4 input)))
    go false (fails p) = sym (record_unfit _ n (simp length-drop p))

over_some : (long : ℕ) → 0 < over_cause long
unfolding over_cause
over_some long = go (eqb ((long - 4) % 80) 0)
  where
    go : (b : Bool) → 0 < elim b as (λ (x : Bool). ℕ) [ false ↦ 1 | true ↦ 2 ]
    go true = omega arith
    go false = omega arith

same_over : (a b : ℕ) → (a - 4) % 80 ≡ (b - 4) % 80 → over_cause a ≡ over_cause b
unfolding over_cause
same_over a b e = rw (e, over_cause)

-- input longer than the longest is refused by its length alone
pub over_long : (input : List ℕ) → longest < length input → answer_at input ≡ refused (over_cause (length input))
unfolding answer_at
over_long input l = go (ltb (length input) 4) (ltb_tells (length input) 4)
  where
    n : ℕ
    n = le_at 4 input 0

    same : over_cause (length input) ≡ cause_of (length (drop 4 input)) n all_words
    same =
        let e = over_cause_lem input n l in
        e ∙ sym (cause_sizes (length (drop 4 input)) n all_words (λ z. omega (arith, over_some (length input), e, z)))

    go : (b : Bool) → Tells (length input < 4) b
        → elim b [ true ↦ refused 1 | false ↦ check_of (drop 4 input) n all_words ] ≡ refused (over_cause (length input))
    go true (passes p) = absurd (omega arith)
    go false (fails p) = rw same (check_refuses (drop 4 input) n all_words (omega (arith, over_some (length input), same)))

-- whatever the input's length, what stands for it has its answer,
pub held_answer : (input held : List ℕ) → StandsFor input held → answer_at held ≡ answer_at input
held_answer input held h = go (length input) refl (held_length (length input)) (held_as_lem (length input)) h.long
  where
    go : (long : ℕ) → length input ≡ long → (k : ℕ) → HeldAs long k → length held ≡ k → answer_at held ≡ answer_at input
    go long e k (whole p) g = ap answer_at (sym (take_all longest held (omega arith)) ∙ h.bytes ∙ take_all longest input (omega arith))
    go long e k (over p) g =
        over_long held (omega arith) ∙ ap refused (same_over (length held) (length input) (omega arith)) ∙ sym (over_long input (omega arith))

-- and its line
pub held_line : (input held : List ℕ) → StandsFor input held → check_text held ≡ check_text input
unfolding check_text
held_line input held h = rw (held_answer input held h)

-- so what is printed after reads past the room is the line of all that was read
pub read_line : (first rest counts : List ℕ) → length first ≡ longest + 80 → sum_over (λ more. more) counts ≡ length rest
    → check_text (take (held_after (longest + 80) counts) first) ≡ check_text (first ++ rest)
read_line first rest counts room read = held_line (first ++ rest) _ (reads_hold first rest counts room read)
