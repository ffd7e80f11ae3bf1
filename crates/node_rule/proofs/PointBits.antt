-- The bits of a coordinate, the sign aside, do not exceed those of 2 ^ 40 exactly if the float is within ±2 ^ 40.
-- A float with exponent field x and digits t is (2 ^ 23 + t) * 2 ^ (x - 1) of the least values, 2 ^ 40 is 2 ^ 189 of them.
use mathlib.Core.Path.{◌≡◌, refl, sym, subst}
use mathlib.Core.Bool.{Bool, true, false, cond}
use mathlib.Core.Logic.{⊎_elim}
use Prim.Native.Nat.{ℕ, zero, suc, ◌+◌, ◌*◌, ◌/◌, ◌%◌, ◌^◌, ◌≤◌, ◌<◌}
use native.Mathlib.Nat.{le_refl, le_of_lt, mul-le-mul_right, mul-one, pow-succ'}
use native.Mathlib.Omega.{arith}
use lib.Dec.{T, eqb, leb, eqb→eq, lit<}
use lib.IntN.{pos}
use lib.Pow.{pow_pos, pow_mono}
use lib.Ieee.{Float, nan, inf, fin, binary32, up, down, le, odd, of_fields, of_bits}
use lib.Ieee.Exact.{HasValue, odd_sign}
use lib.Ieee.Fits.{down_pos, and_i, and_l, and_r}
use lib.Ieee.Order.{transfer}
use Rattle.float.specs.Compare.{in_bounds}
use Rattle.float.specs.Magnitude.{AtMost}
use Rattle.float.proofs.Magnitude.{atmost_of_tests, atmost_tests}
use Rattle.words.proofs.Upto.{lt_or_ge}
use Rattle.node_rule.specs.Rule.{point_ok}
use Rattle.node_rule.proofs.Answers.{tells, agree, leb_tells}

-- ---- a float's size against a bound
size_to : (v : Float) (s : Bool) (a c k : ℕ) → 0 < c → HasValue v s a c → AtMost v k 1 → a ≤ k * c
size_to nan s a c k p h l = absurd h
size_to (inf t) s a c k p h l = absurd h
size_to (fin t m e) s a c k p h l =
    rw mul-one at (transfer a k c 1 (m * up e) k (down e) 1 (down_pos e) (lit< tt) (sym h.1) refl l)

size_from : (v : Float) (s : Bool) (a c k : ℕ) → 0 < c → HasValue v s a c → a ≤ k * c → AtMost v k 1
size_from nan s a c k p h l = h
size_from (inf t) s a c k p h l = h
size_from (fin t m e) s a c k p h l =
    transfer (m * up e) k (down e) 1 a k c 1 p (lit< tt) h.1 refl (rw mul-one l)

-- ---- (2 ^ 23 + t) * P against 2 ^ 23 * Q
below_bound : (t P Q : ℕ) → t < 8388608 → 2 * P ≤ Q → (8388608 + t) * P ≤ 8388608 * Q
below_bound t P Q h l = omega (arith, mul-le-mul_right P (le_of_lt h))

past_bound : (t P Q : ℕ) → 0 < Q → 2 * Q ≤ P → (8388608 + t) * P ≤ 8388608 * Q → ⊥
past_bound t P Q p l h = omega arith

past_digits : (t Q : ℕ) → 0 < Q → 0 < t → (8388608 + t) * Q ≤ 8388608 * Q → ⊥
past_digits t Q p l h = omega (arith, mul-le-mul_right Q l)

-- ---- the fields of a pattern against those of 2 ^ 40: 167 and 0
normal_to : (x t : ℕ) → t < 8388608 → (8388608 + t) * 2 ^ x ≤ 8388608 * 2 ^ 166 → suc x * 8388608 + t ≤ 1400897536
normal_to x t u h = ⊎_elim (λ l. under x t l u) (λ l. ⊎_elim (λ k. at x t l k h)
    (λ k. absurd (past_bound t (2 ^ x) (2 ^ 166) (pow_pos 166) (pow_mono {i = 167} {j = x} k) h)) (lt_or_ge x 167)) (lt_or_ge x 166)
  where
    under : (x t : ℕ) → x < 166 → t < 8388608 → suc x * 8388608 + t ≤ 1400897536
    under x t l u = omega arith

    at : (x t : ℕ) → 166 ≤ x → x < 167 → (8388608 + t) * 2 ^ x ≤ 8388608 * 2 ^ 166 → suc x * 8388608 + t ≤ 1400897536
    at x zero l k h = omega (arith, l, k)
    at x (suc t) l k h =
        let e : x ≡ 166 = omega (arith, l, k) in
        absurd (past_digits (suc t) (2 ^ 166) (pow_pos 166) (omega arith) (subst (λ (y : ℕ). (8388608 + suc t) * 2 ^ y ≤ 8388608 * 2 ^ 166) e h))

normal_from : (x t : ℕ) → t < 8388608 → suc x * 8388608 + t ≤ 1400897536 → (8388608 + t) * 2 ^ x ≤ 8388608 * 2 ^ 166
normal_from x t u h = ⊎_elim (λ l. below_bound t (2 ^ x) (2 ^ 166) u (rw pow-succ' at (pow_mono {i = suc x} {j = 166} l)))
    (λ l. at x t (omega arith) (omega arith)) (lt_or_ge x 166)
  where
    at : (x t : ℕ) → x ≡ 166 → t ≡ 0 → (8388608 + t) * 2 ^ x ≤ 8388608 * 2 ^ 166
    at x t e f = rw (e, f) (le_refl (8388608 * 2 ^ 166))

small_from : (t Q : ℕ) → t < 8388608 → 0 < Q → t ≤ 8388608 * Q
small_from t Q h p = omega arith

no_number : (s b : Bool) → AtMost (cond b (inf s) nan) (2 ^ 40) 1 → ⊥
no_number s true h = h
no_number s false h = h

module _ (s : Bool) (x t : ℕ) (digits : t < 8388608) where
  -- 2 ^ 40 * 2 ^ 149 is 2 ^ 23 * 2 ^ 166
  fields_to : AtMost (of_fields binary32 s x t) (2 ^ 40) 1 → x * 8388608 + t ≤ 1400897536
  unfolding of_fields
  fields_to = go x
    where
      at : (x : ℕ) (b : Bool) → AtMost (cond b (cond (eqb t 0) (inf s) nan) (odd 24 s (8388608 + t) x 149)) (2 ^ 40) 1
          → suc x * 8388608 + t ≤ 1400897536
      at x true h = absurd (no_number s (eqb t 0) h)
      at x false h = normal_to x t digits (size_to (odd 24 s (8388608 + t) x 149) s ((8388608 + t) * 2 ^ x) (2 ^ 149) (2 ^ 40) (pow_pos 149)
          (odd_sign 24 s (8388608 + t) x 149) h)

      go : (x : ℕ) → AtMost (of_fields binary32 s x t) (2 ^ 40) 1 → x * 8388608 + t ≤ 1400897536
      go zero h = omega arith
      go (suc x) h = at x (eqb (suc x) 255) h

  fields_from : x * 8388608 + t ≤ 1400897536 → AtMost (of_fields binary32 s x t) (2 ^ 40) 1
  unfolding of_fields
  fields_from = go x
    where
      at : (x : ℕ) (b : Bool) → (T b → suc x ≡ 255) → suc x * 8388608 + t ≤ 1400897536
          → AtMost (cond b (cond (eqb t 0) (inf s) nan) (odd 24 s (8388608 + t) x 149)) (2 ^ 40) 1
      at x true e h = let f = e tt in absurd (omega arith)
      at x false e h = size_from (odd 24 s (8388608 + t) x 149) s ((8388608 + t) * 2 ^ x) (2 ^ 149) (2 ^ 40) (pow_pos 149)
          (odd_sign 24 s (8388608 + t) x 149) (normal_from x t digits h)

      go : (x : ℕ) → x * 8388608 + t ≤ 1400897536 → AtMost (of_fields binary32 s x t) (2 ^ 40) 1
      go zero h = size_from (odd 24 s t 0 149) s (t * 2 ^ 0) (2 ^ 149) (2 ^ 40) (pow_pos 149) (odd_sign 24 s t 0 149)
          (rw mul-one (small_from t (2 ^ 166) digits (pow_pos 166)))
      go (suc x) h = at x (eqb (suc x) 255) (eqb→eq (suc x) 255) h

-- ---- the test
bounds_to : (v : Float) → T (in_bounds v) → AtMost v (2 ^ 40) 1
unfolding in_bounds
bounds_to v h = atmost_of_tests v 1 (pos 40) (and_l (le (fin true 1 (pos 40)) v) (le v (fin false 1 (pos 40))) h)
    (and_r (le (fin true 1 (pos 40)) v) (le v (fin false 1 (pos 40))) h)

bounds_from : (v : Float) → AtMost v (2 ^ 40) 1 → T (in_bounds v)
unfolding in_bounds
bounds_from v h = let t = atmost_tests v 1 (pos 40) h in and_i (le (fin true 1 (pos 40)) v) (le v (fin false 1 (pos 40))) t.0 t.1

pub point_bits : (b : ℕ) → leb (b % 2147483648) 1400897536 ≡ point_ok b
unfolding point_ok of_bits
point_bits b =
    agree (b % 2147483648 ≤ 1400897536) (leb (b % 2147483648) 1400897536) (in_bounds (of_bits binary32 b)) (leb_tells (b % 2147483648) 1400897536)
    (tells (b % 2147483648 ≤ 1400897536) (in_bounds (of_bits binary32 b))
    (λ h. whole b (fields_to (leb 2147483648 b) (b % 2147483648 / 8388608) (b % 8388608) (digits b) (bounds_to (of_bits binary32 b) h)))
    (λ h. bounds_from (of_bits binary32 b) (fields_from (leb 2147483648 b) (b % 2147483648 / 8388608) (b % 8388608) (digits b) (parts b h))))
  where
    digits : (b : ℕ) → b % 8388608 < 8388608
    digits b = omega arith

    whole : (b : ℕ) → b % 2147483648 / 8388608 * 8388608 + b % 8388608 ≤ 1400897536 → b % 2147483648 ≤ 1400897536
    whole b h = omega arith

    parts : (b : ℕ) → b % 2147483648 ≤ 1400897536 → b % 2147483648 / 8388608 * 8388608 + b % 8388608 ≤ 1400897536
    parts b h = omega arith
