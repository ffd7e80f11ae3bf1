-- Marks made zero for one tree and then for another are zero for the greater.
use mathlib.Core.List.{List, [], ◌∷◌, ◌++◌}
use mathlib.Core.Path.{◌≡◌, refl, sym, ap, ◌∙◌}
use Prim.Native.Nat.{ℕ, zero, suc, ◌<◌, ◌≤◌}
use native.Mathlib.Decide.{dec_lt}
use native.Mathlib.Nat.{zero-add}
use native.Mathlib.Omega.{arith}
use lib.ListN.{length, drop, replicate, length-replicate}
use Rattle.lists.specs.Splice.{splice}
use Rattle.bvh2_check.specs.Marking.{mark_count}
use Rattle.join.specs.Join.{marks_needed}

-- the first k made zero
abbrev zeroed : ℕ → List ℕ → List ℕ
zeroed k s = replicate k 0 ++ drop k s

zeroed_spliced : (k : ℕ) (s : List ℕ) → zeroed k s ≡ splice s 0 (replicate k 0)
unfolding splice
zeroed_spliced k s = rw (length-replicate {A = ℕ} k 0, zero-add k) refl

-- a second time, more of them or fewer
more_zeroed : (a b : ℕ) (s : List ℕ) → a ≤ b → a ≤ length s → zeroed b (zeroed a s) ≡ zeroed b s
more_zeroed zero b s h k = refl
more_zeroed (suc a) zero s h k = absurd (omega arith)
more_zeroed (suc a) (suc b) [] h k = absurd (omega arith)
more_zeroed (suc a) (suc b) (x ∷ s) h k = ap (λ (l : List ℕ). 0 ∷ l) (more_zeroed a b s (omega arith) (omega arith))

fewer_zeroed : (a b : ℕ) (s : List ℕ) → b ≤ a → a ≤ length s → zeroed b (zeroed a s) ≡ zeroed a s
fewer_zeroed a zero s h k = refl
fewer_zeroed zero (suc b) s h k = absurd (omega arith)
fewer_zeroed (suc a) (suc b) [] h k = absurd (omega arith)
fewer_zeroed (suc a) (suc b) (x ∷ s) h k = ap (λ (l : List ℕ). 0 ∷ l) (fewer_zeroed a b s (omega arith) (omega arith))

pub both_zeroed : (n m : ℕ) (s t u : List ℕ) → marks_needed n m ≤ length s → t ≡ zeroed (mark_count n) s → u ≡ zeroed (mark_count m) t
    → u ≡ splice s 0 (replicate (marks_needed n m) 0)
both_zeroed n m s t u h e f = f ∙ ap (zeroed (mark_count m)) e ∙ go (dec_lt n m) ∙ zeroed_spliced (marks_needed n m) s
  where
    go : Dec (n < m) → zeroed (mark_count m) (zeroed (mark_count n) s) ≡ zeroed (marks_needed n m) s
    go (yes l) =
        let i : marks_needed n m ≡ mark_count m = omega arith in
        more_zeroed (mark_count n) (mark_count m) s (omega arith) (omega arith) ∙ ap (λ (k : ℕ). zeroed k s) (sym i)
    go (no l) =
        let i : marks_needed n m ≡ mark_count n = omega arith in
        fewer_zeroed (mark_count n) (mark_count m) s (omega arith) (omega arith) ∙ ap (λ (k : ℕ). zeroed k s) (sym i)
