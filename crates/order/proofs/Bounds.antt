-- Direction costs of accepted boxes are finite and far below the greatest f32.
use mathlib.Core.Path.{◌≡◌}
use mathlib.Core.Bool.{Bool, true, false, cond}
use Prim.Native.Nat.{ℕ, ◌+◌, ◌*◌, ◌/◌, ◌%◌, ◌^◌, ◌≤◌, ◌<◌}
use native.Mathlib.Nat.{lt_of_le_of_lt, mul-pos, mul-lt-mul_of_pos_right}
use native.Mathlib.Omega.{arith}
use lib.Dec.{eqb, lit<, lit≤}
use lib.IntN.{pos}
use lib.Ieee.{Float, nan, inf, fin, binary32, of_bits, add, sub, mul, lt, up, down}
use lib.Ieee.Fits.{down_pos}
use borrow.Author.Tests.{lt-ltb}
use Rattle.float.specs.Magnitude.{Within}
use Rattle.float.proofs.Magnitude.{add_within, sub_within, mul_within, atmost_le}
use Rattle.ray.proofs.Bounds.{Bounded}
use Rattle.aabb.specs.declared.Aabb.{Aabb}
use Rattle.aabb.specs.Aabb.{center_of}
use Rattle.aabb.proofs.Bounds.{Accepted, center_bounded}
use Rattle.order.specs.Assign.{greatest_finite}
use Rattle.order.specs.Order.{sign_of, direction_of, dot_of, direction_cost}

sign_within : (bit : ℕ) → Within 0 (sign_of bit)
unfolding sign_of
sign_within bit = go (eqb bit 0)
  where
    go : (t : Bool) → Within 0 (cond t (fin false 1 (pos 0)) (fin true 1 (pos 0)))
    go true = lit≤ tt
    go false = lit≤ tt

-- one part of a cost: the difference of two centres' components, with a sign
part_within : (bit : ℕ) (x y : Float) → Within 40 x → Within 40 y → Within 41 (mul binary32 (sign_of bit) (sub binary32 x y))
part_within bit x y p q = mul_within binary32 0 41 (sign_of bit) (sub binary32 x y) (lit≤ tt) (sign_within bit)
    (sub_within binary32 40 x y (lit< tt) p q)

sum_within : (x y z : Float) → Within 41 x → Within 41 y → Within 41 z → Within 43 (add binary32 (add binary32 x y) z)
sum_within x y z p q r =
    add_within binary32 42 (add binary32 x y) z (lit< tt) (add_within binary32 41 x y (lit< tt) p q)
    (atmost_le z (2 ^ 41) 1 (2 ^ 42) 1 (lit< tt) (lit≤ tt) r)

-- at most 2 ^ 43 in size
pub cost_within : (parent child : Aabb) → Accepted parent → Accepted child → (s : ℕ) → Within 43 (direction_cost (center_of parent) child s)
unfolding direction_cost dot_of direction_of
cost_within parent child a b s =
    let p = center_of parent in
    let q = center_of child in
    let m : Bounded p = center_bounded parent a in
    let n : Bounded q = center_bounded child b in
    sum_within (mul binary32 (sign_of (s / 4 % 2)) (sub binary32 q.x p.x)) (mul binary32 (sign_of (s / 2 % 2)) (sub binary32 q.y p.y))
    (mul binary32 (sign_of (s % 2)) (sub binary32 q.z p.z))
    (part_within (s / 4 % 2) q.x p.x n.x m.x) (part_within (s / 2 % 2) q.y p.y n.y m.y)
    (part_within (s % 2) q.z p.z n.z m.z)

-- ---- such a value is below the greatest f32
under : (a d k n : ℕ) → a * 1 ≤ k * d → k < n → 0 < d → a * 1 < n * d
under a d k n h l p = lt_of_le_of_lt h (mul-lt-mul_of_pos_right l p)

positive : (a d n : ℕ) → 0 < n → 0 < d → 0 < a + n * d
positive a d n l p = more a (n * d) (mul-pos l p)
  where
    more : (x y : ℕ) → 0 < y → 0 < x + y
    more x y q = omega arith

pub within_below : (x : Float) → Within 43 x → lt x greatest_finite ≡ true
unfolding lt of_bits
within_below nan h = absurd h
within_below (inf s) h = absurd h
within_below (fin false m e) h =
    lt-ltb (m * up e * 1) (16777215 * 2 ^ 104 * down e) (under (m * up e) (down e) (2 ^ 43) (16777215 * 2 ^ 104) h (lit< tt) (down_pos e))
within_below (fin true m e) h =
    lt-ltb 0 (m * up e * 1 + 16777215 * 2 ^ 104 * down e) (positive (m * up e * 1) (down e) (16777215 * 2 ^ 104) (lit< tt) (down_pos e))
