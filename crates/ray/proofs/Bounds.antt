-- What holds of rays within the bounds: an octant is below 8, a safe inverse at most 2 ^ 23 in size, an accepted ray's components finite.
use mathlib.Core.Path.{◌≡◌, refl, sym, ◌∙◌, subst}
use mathlib.Core.Bool.{Bool, true, false, not, ◌&&◌, cond}
use Prim.Native.Nat.{ℕ, ◌^◌, ◌≤◌, ◌<◌}
use native.Mathlib.Omega.{arith}
use lib.IntN.{pos, negsuc}
use lib.Dec.{T, lit<, lit≤}
use lib.Ieee.{Float, nan, fin, binary32, div, le, is_nan}
use lib.Ieee.Bits.{is_true}
use lib.Ieee.Fits.{and_l, and_r}
use Rattle.float.specs.Compare.{is_minus_zero, in_bounds}
use Rattle.float.specs.Magnitude.{Within}
use Rattle.float.specs.Sign.{sign_bit}
use Rattle.float.proofs.Held.{held-pow}
use Rattle.float.proofs.Sign.{div_sign}
use Rattle.float.proofs.Magnitude.{div_atmost, atmost_of_tests, atleast_of_test, atmost_no_nan}
use Rattle.float.proofs.Unsigned.{below_zero_sign}
use Rattle.ray.specs.declared.Vec3.{Vec3}
use Rattle.ray.specs.declared.Ray.{Ray}
use Rattle.ray.specs.Ray.{tiny, safe_inverse, below_zero, octant_of, reaching, bounded_vec, accepted_ray}

pub weight_le : (b : Bool) (w : ℕ) → cond b w 0 ≤ w
weight_le true w = omega arith
weight_le false w = omega arith

pub octant_lt : (d : Vec3) → octant_of d < 8
unfolding octant_of
octant_lt d = omega arith

-- ---- coordinates
pub in_bounds_within : (x : Float) → T (in_bounds x) → Within 40 x
unfolding in_bounds
in_bounds_within x t =
    let lo = le (fin true 1 (pos 40)) x in
    let hi = le x (fin false 1 (pos 40)) in
    atmost_of_tests x 1 (pos 40) (and_l lo hi t) (and_r lo hi t)

-- a vector whose components are finite and at most 2 ^ 40 in size
pub record Bounded (v : Vec3) : Type 0 where
  pub x : Within 40 v.x
  pub y : Within 40 v.y
  pub z : Within 40 v.z

pub bounded : (v : Vec3) → T (bounded_vec v) → Bounded v
unfolding bounded_vec
bounded v t =
    let xy = and_l (in_bounds v.x && in_bounds v.y) (in_bounds v.z) t in record {
      x = in_bounds_within v.x (and_l (in_bounds v.x) (in_bounds v.y) xy);
      y = in_bounds_within v.y (and_r (in_bounds v.x) (in_bounds v.y) xy);
      z = in_bounds_within v.z (and_r (in_bounds v.x && in_bounds v.y) (in_bounds v.z) t);
    }

-- so they are numbers
pub no_nans : (v : Vec3) → Bounded v → T (not (is_nan v.x)) × T (not (is_nan v.y)) × T (not (is_nan v.z))
no_nans v h = (atmost_no_nan v.x (2 ^ 40) 1 h.x, atmost_no_nan v.y (2 ^ 40) 1 h.y, atmost_no_nan v.z (2 ^ 40) 1 h.z)

-- ---- inverses
pub safe_inverse_within : (v : Float) → T (not (is_nan v)) → Within 23 (safe_inverse v)
unfolding safe_inverse
safe_inverse_within v p = go (tiny v) refl
  where
    go : (t : Bool) → tiny v ≡ t → Within 23 (cond t (fin (sign_bit v) 1 (pos 23)) (div binary32 (fin false 1 (pos 0)) v))
    go true h = lit≤ tt
    go false h =
        div_atmost binary32 (fin false 1 (pos 0)) v 1 1 1 (2 ^ 23) (lit< tt) (lit< tt) (held-pow binary32 23 (lit≤ tt)) (lit≤ tt)
        (atleast_of_test v 1 (negsuc 22) p h)

-- it has the sign of what it is the inverse of
pub inverse_sign : (v : Float) → T (not (is_nan v)) → sign_bit (safe_inverse v) ≡ sign_bit v
unfolding safe_inverse
inverse_sign v p = go (tiny v)
  where
    go : (t : Bool) → sign_bit (cond t (fin (sign_bit v) 1 (pos 23)) (div binary32 (fin false 1 (pos 0)) v)) ≡ sign_bit v
    go true = refl
    go false = div_sign binary32 0 (pos 0) v p

-- so the inverse of a number that is no -0 has the sign bit exactly if the number is below zero
pub inverse_below : (v : Float) → T (not (is_nan v)) → is_minus_zero v ≡ false → below_zero v ≡ sign_bit (safe_inverse v)
inverse_below v p h = below_zero_sign v p h ∙ sym (inverse_sign v p)

-- ---- accepted rays
pub record Accepted (r : Ray) : Type 0 where
  pub origin : Bounded r.origin
  pub direction : Bounded r.direction
  pub tmin : T (not (is_nan r.tmin))
  pub tmax : T (not (is_nan r.tmax))

pub accepted : (r : Ray) → T (accepted_ray r) → Accepted r
unfolding accepted_ray
accepted r t =
    let bounds = bounded_vec r.origin && bounded_vec r.direction in
    let start = and_l (bounds && not (is_nan r.tmin)) (not (is_nan r.tmax)) t in
    let both = and_l bounds (not (is_nan r.tmin)) start in record {
      origin = bounded r.origin (and_l (bounded_vec r.origin) (bounded_vec r.direction) both);
      direction = bounded r.direction (and_r (bounded_vec r.origin) (bounded_vec r.direction) both);
      tmin = and_r bounds (not (is_nan r.tmin)) start;
      tmax = and_r (bounds && not (is_nan r.tmin)) (not (is_nan r.tmax)) t;
    }

-- another reach that is no NaN leaves it accepted
pub reaching_accepted : (r : Ray) (t : Float) → accepted_ray r ≡ true → T (not (is_nan t)) → accepted_ray (reaching t r) ≡ true
unfolding accepted_ray
reaching_accepted r t h n =
    let start = bounded_vec r.origin && bounded_vec r.direction && not (is_nan r.tmin) in
    rw (is_true start (and_l start (not (is_nan r.tmax)) (subst T (sym h) tt)), is_true (not (is_nan t)) n)

-- with a NaN as its start a ray is not accepted
pub nan_start_refused : (r : Ray) → r.tmin ≡ nan → accepted_ray r ≡ false
unfolding accepted_ray is_nan
nan_start_refused r e = rw e (go (bounded_vec r.origin && bounded_vec r.direction) (not (is_nan r.tmax)))
  where
    go : (a b : Bool) → a && false && b ≡ false
    go true b = refl
    go false b = refl

-- the inverse of a bounded component
pub inverse_within : (v : Float) → Within 40 v → Within 23 (safe_inverse v)
inverse_within v h = safe_inverse_within v (atmost_no_nan v (2 ^ 40) 1 h)
