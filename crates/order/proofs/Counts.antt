-- How many numbers below a bound pass a test: a sum of ones.
use mathlib.Core.Path.{◌≡◌, refl, ap, ◌∙◌}
use mathlib.Core.Bool.{Bool, true, false}
use Prim.Native.Nat.{ℕ, suc, ◌+◌, ◌≤◌, ◌<◌}
use native.Mathlib.Numerals.{add-one}
use native.Mathlib.Omega.{arith}
use Rattle.lists.specs.Counts.{same}
use Rattle.lists.specs.Sums.{sum}
use Rattle.lists.proofs.Counts.{Same, equal, apart, same?, same_self, same_apart}
use Rattle.lists.proofs.Sums.{sum_cong, sum_ones, sum-add, sum_term, sum-some, sum_only}

abbrev one : Bool → ℕ
one true = 1
one false = 0

unfoldable pub count_below : (ℕ → Bool) → ℕ → ℕ
count_below f n = sum (λ i. one (f i)) n

pub count-all : (f : ℕ → Bool) (n : ℕ) → ((i : ℕ) → i < n → f i ≡ true) → count_below f n ≡ n
unfolding count_below
count-all f n h = sum_ones (λ i. one (f i)) n (λ i l. ap one (h i l))

-- one that passes
pub count-some : (f : ℕ → Bool) (n : ℕ) → 0 < count_below f n → (i : ℕ) × (i < n) × (f i ≡ true)
unfolding count_below
count-some f n h = let w = sum-some (λ i. one (f i)) n h in (w.0, w.1, passes (f w.0) w.2)
  where
    passes : (t : Bool) → 0 < one t → t ≡ true
    passes true l = refl
    passes false l = absurd (omega arith)

pub count_none : (f : ℕ → Bool) (n : ℕ) → count_below f n ≡ 0 → (i : ℕ) → i < n → f i ≡ false
unfolding count_below
count_none f n h i l = fails (f i) (sum_term (λ i. one (f i)) n i l)
  where
    fails : (t : Bool) → one t ≤ sum (λ i. one (f i)) n → t ≡ false
    fails true m = absurd (omega arith)
    fails false m = refl

-- a test that fails at one more number
pub count_less : (f g : ℕ → Bool) (n k : ℕ) → k < n → f k ≡ true → g k ≡ false → ((i : ℕ) → (i ≡ k → ⊥) → f i ≡ g i) → count_below f n
    ≡ suc (count_below g n)
unfolding count_below
count_less f g n k l p q h =
    sum_cong (λ i. one (f i)) (λ i. one (g i) + same i k) n (λ i m. more i (same? i k))
    ∙ sum-add (λ i. one (g i)) (λ i. same i k) n
    ∙ ap (λ (z : ℕ). sum (λ i. one (g i)) n + z) (sum_only (λ i. same i k) n k l (λ i m d. same_apart i k d) ∙ same_self k)
    ∙ add-one (sum (λ i. one (g i)) n)
  where
    more : (i : ℕ) → Same i k → one (f i) ≡ one (g i) + same i k
    more i (equal e d) = rw (e, p, q) (omega (arith, same_self k))
    more i (apart e d) = rw (h i e) (omega (arith, d))
