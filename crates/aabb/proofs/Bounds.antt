-- What holds of accepted boxes: half areas are finite, not negative and at most 2 ^ 84; centres lie within the bound on coordinates.
use mathlib.Core.Path.{refl}
use mathlib.Core.Bool.{false, ◌&&◌}
use Prim.Native.Nat.{◌+◌, ◌*◌, ◌^◌}
use lib.Dec.{T, lit<, lit≤}
use lib.IntN.{negsuc}
use lib.Ieee.{Float, fin, binary32, add, sub, mul, le}
use lib.Ieee.Fits.{and_l, and_r}
use Rattle.float.specs.Magnitude.{Upto, Held, Within}
use Rattle.float.proofs.Held.{held-pow, held_up}
use Rattle.float.proofs.Magnitude.{sub-upto, add-upto, mul-upto, upto_le, add_within, mul_atmost, atmost_le}
use Rattle.ray.specs.Ray.{bounded_vec}
use Rattle.ray.proofs.Bounds.{Bounded, bounded}
use Rattle.aabb.specs.declared.Aabb.{Aabb}
use Rattle.aabb.specs.Aabb.{half_area, center_of, in_order, accepted_box}

pub record Accepted (b : Aabb) : Type 0 where
  pub low : Bounded b.min
  pub high : Bounded b.max
  pub x : T (le b.min.x b.max.x)
  pub y : T (le b.min.y b.max.y)
  pub z : T (le b.min.z b.max.z)

pub accepted : (b : Aabb) → T (accepted_box b) → Accepted b
unfolding accepted_box in_order
accepted b t =
    let x = le b.min.x b.max.x in
    let y = le b.min.y b.max.y in
    let z = le b.min.z b.max.z in
    let corners = bounded_vec b.min && bounded_vec b.max in
    let ends : T corners = and_l corners (x && y && z) t in
    let order : T (x && y && z) = and_r corners (x && y && z) t in
    let first : T (x && y) = and_l (x && y) z order in record {
      low = bounded b.min (and_l (bounded_vec b.min) (bounded_vec b.max) ends);
      high = bounded b.max (and_r (bounded_vec b.min) (bounded_vec b.max) ends);
      x = and_l x y first;
      y = and_r x y first;
      z = and_r (x && y) z order;
    }

-- ---- extents and half areas
pub extent_upto : (u v : Float) → Within 40 u → Within 40 v → T (le u v) → Upto (sub binary32 v u) (2 ^ 41) 1
extent_upto u v p q h = sub-upto binary32 v u (2 ^ 40) (2 ^ 40) 1 (lit< tt) (held-pow binary32 41 (lit≤ tt)) q p h

of_extents : (x y z : Float) → Upto x (2 ^ 41) 1 → Upto y (2 ^ 41) 1 → Upto z (2 ^ 41) 1
    → Upto (add binary32 (mul binary32 (add binary32 x y) z) (mul binary32 x y)) (2 ^ 84) 1
of_extents x y z p q r =
    let s : Upto (add binary32 x y) (2 ^ 42) 1 = add-upto binary32 x y (2 ^ 41) (2 ^ 41) 1 (lit< tt) (held-pow binary32 42 (lit≤ tt)) p q in
    let t : Upto (mul binary32 (add binary32 x y) z) (2 ^ 83) 1 =
    mul-upto binary32 (add binary32 x y) z (2 ^ 42) 1 (2 ^ 41) 1 (lit< tt) (lit< tt) (held-pow binary32 83 (lit≤ tt)) s r in
    let u : Upto (mul binary32 x y) (2 ^ 82) 1 = mul-upto binary32 x y (2 ^ 41) 1 (2 ^ 41) 1 (lit< tt) (lit< tt) (held-pow binary32 82 (lit≤ tt)) p
    q in
    upto_le (add binary32 (mul binary32 (add binary32 x y) z) (mul binary32 x y)) (2 ^ 83 + 2 ^ 82) 1 (2 ^ 84) 1 (lit< tt) (lit≤ tt)
    (add-upto binary32 (mul binary32 (add binary32 x y) z) (mul binary32 x y) (2 ^ 83) (2 ^ 82) 1 (lit< tt)
    (held_up binary32 3 82 (lit< tt) (lit≤ tt)) t u)

-- finite, not negative as a number (it can be -0), and at most 2 ^ 84
pub half_area_bound : (b : Aabb) → Accepted b → Upto (half_area b) (2 ^ 84) 1
unfolding half_area
half_area_bound b s =
    of_extents (sub binary32 b.max.x b.min.x) (sub binary32 b.max.y b.min.y) (sub binary32 b.max.z b.min.z)
    (extent_upto b.min.x b.max.x s.low.x s.high.x s.x)
    (extent_upto b.min.y b.max.y s.low.y s.high.y s.y)
    (extent_upto b.min.z b.max.z s.low.z s.high.z s.z)

-- ---- centres
abbrev half : Float
half = fin false 1 (negsuc 0)

middle_within : (u v : Float) → Within 40 u → Within 40 v → Within 40 (mul binary32 (add binary32 u v) half)
middle_within u v p q =
    atmost_le (mul binary32 (add binary32 u v) half) (2 ^ 41 * 1) (1 * 2) (2 ^ 40) 1 (lit< tt) (lit≤ tt)
    (mul_atmost binary32 (add binary32 u v) half (2 ^ 41) 1 1 2 (lit< tt) (lit< tt) halved (add_within binary32 40 u v (lit< tt) p q) (lit≤ tt))
  where
    halved : Held binary32 (2 ^ 41 * 1) (1 * 2)
    halved = record { q = 1; j = 40 + 149; few = lit< tt; under = lit< tt; is = refl }

pub center_bounded : (b : Aabb) → Accepted b → Bounded (center_of b)
unfolding center_of
center_bounded b s = record {
  x = middle_within b.max.x b.min.x s.high.x s.low.x;
  y = middle_within b.max.y b.min.y s.high.y s.low.y;
  z = middle_within b.max.z b.min.z s.high.z s.low.z;
}
