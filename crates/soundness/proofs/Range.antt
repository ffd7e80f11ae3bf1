-- The laws of ranges.
use mathlib.Core.Logic.{◌⊎◌, inl, inr}
use mathlib.Core.Path.{◌≡◌, sym, ◌∙◌}
use Prim.Native.Nat.{ℕ, zero, suc, ◌+◌, ◌≤◌, ◌<◌}
use native.Mathlib.Decide.{dec_le, dec_lt}
use native.Mathlib.Omega.{arith}
use Rattle.lists.specs.Counts.{same, count, upto}
use Rattle.lists.proofs.Counts.{Same, equal, apart, same?}
use Rattle.soundness.specs.Range.{in_range}

pub in_range_lem : (x a n : ℕ) → a ≤ x → x < a + n → in_range x a n ≡ 1
unfolding in_range
in_range_lem x a n h k = omega arith

pub before_range : (x a n : ℕ) → x < a → in_range x a n ≡ 0
unfolding in_range
before_range x a n h = omega arith

pub after_range : (x a n : ℕ) → a + n ≤ x → in_range x a n ≡ 0
unfolding in_range
after_range x a n h = omega arith

pub range_most : (x a n : ℕ) → in_range x a n ≤ 1
unfolding in_range
range_most x a n = omega arith

pub range_none : (x a : ℕ) → in_range x a 0 ≡ 0
unfolding in_range
range_none x a = omega arith

-- x stands in the range, or it does not
pub range_cases : (x a n : ℕ) → (in_range x a n ≡ 0) ⊎ ((a ≤ x) × (x < a + n))
range_cases x a n = go (dec_le a x) (dec_lt x (a + n))
  where
    go : Dec (a ≤ x) → Dec (x < a + n) → (in_range x a n ≡ 0) ⊎ ((a ≤ x) × (x < a + n))
    go (yes h) (yes k) = inr (h, k)
    go (yes h) (no k) = inl (after_range x a n (omega arith))
    go (no h) d = inl (before_range x a n (omega arith))

-- a number counted in a range stands there
pub range_stands : (x a n : ℕ) → 0 < in_range x a n → (a ≤ x) × (x < a + n)
range_stands x a n h = go (range_cases x a n)
  where
    go : (in_range x a n ≡ 0) ⊎ ((a ≤ x) × (x < a + n)) → (a ≤ x) × (x < a + n)
    go (inl e) = absurd (omega arith)
    go (inr k) = k

-- two ranges that meet make one
pub range_split : (x a m n : ℕ) → in_range x a (m + n) ≡ in_range x a m + in_range x (a + m) n
range_split x a m n = go (dec_lt x a) (dec_lt x (a + m)) (dec_lt x (a + (m + n)))
  where
    go : Dec (x < a) → Dec (x < a + m) → Dec (x < a + (m + n)) → in_range x a (m + n) ≡ in_range x a m + in_range x (a + m) n
    go (yes h) d e = omega (arith, before_range x a (m + n) h, before_range x a m h, before_range x (a + m) n (omega arith))
    go (no h) (yes k) e =
        omega (arith, in_range_lem x a (m + n) (omega arith) (omega arith), in_range_lem x a m (omega arith) k, before_range x (a + m) n k)
    go (no h) (no k) (yes l) = omega (
      arith,
      in_range_lem x a (m + n) (omega arith) l,
      after_range x a m (omega arith),
      in_range_lem x (a + m) n
          (omega arith) (omega arith),
    )
    go (no h) (no k) (no l) = omega (
      arith,
      after_range x a (m + n) (omega arith),
      after_range x a m (omega arith),
      after_range x (a + m) n
          (omega arith),
    )

pub range_first : (x a n : ℕ) → in_range x a (suc n) ≡ in_range x a 1 + in_range x (suc a) n
range_first x a n =
    let e : 1 + n ≡ suc n = omega arith in
    let f : a + 1 ≡ suc a = omega arith in
    rw (e, f) at (range_split x a 1 n)

-- ---- ranges as lists

other_range : (x y : ℕ) → (x ≡ y → ⊥) → in_range x y 1 ≡ 0
unfolding in_range
other_range x y n = omega arith

pub same_range : (x y : ℕ) → same x y ≡ in_range x y 1
same_range x y = go (same? x y)
  where
    go : Same x y → same x y ≡ in_range x y 1
    go (equal e i) = i ∙ sym (in_range_lem x y 1 (omega arith) (omega arith))
    go (apart e i) = i ∙ sym (other_range x y e)

pub count_range : (x a n : ℕ) → count x (upto a n) ≡ in_range x a n
unfolding count upto
count_range x a zero = sym (range_none x a)
count_range x a (suc n) = omega (arith, same_range x a, count_range x (suc a) n, range_first x a n)
