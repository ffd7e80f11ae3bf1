-- On a node that meets the rule, for an accepted ray with the inverse of its direction, no value of the slot test is a NaN; only tmax and the near
-- limit may be infinite, as the ray has them, and through them the least far and the largest near value.
use mathlib.Core.Path.{◌≡◌, sym, subst}
use mathlib.Core.Bool.{Bool, true, false, not, cond}
use Prim.Native.Nat.{ℕ, ◌*◌, ◌%◌, ◌^◌, ◌≤◌, ◌<◌}
use native.Mathlib.Nat.{mul-le-mul_right}
use native.Mathlib.Omega.{arith}
use lib.Dec.{T, le→leb, lit<, lit≤}
use lib.IntN.{pos}
use lib.Pow.{pow_mono}
use lib.Ieee.{Float, binary32, of_bits, of_int, lt, is_nan}
use Rattle.float.specs.Compare.{min_of, max_of, in_bounds}
use Rattle.float.specs.Magnitude.{Within}
use Rattle.float.specs.PowerOfTwo.{scale_of}
use Rattle.float.proofs.Held.{held-pow}
use Rattle.float.proofs.Magnitude.{atmost_le, atmost_no_nan, add_within, sub_within, mul_within}
use Rattle.float.proofs.Rounding.{round_atmost}
use Rattle.ray.specs.declared.Ray.{Ray}
use Rattle.ray.specs.Ray.{safe_inverse, below_zero}
use Rattle.ray.proofs.Bounds.{Accepted, in_bounds_within, inverse_within}
use Rattle.node.specs.declared.Slot.{Slot}
use Rattle.node.specs.declared.Node.{Node}
use Rattle.node_rule.specs.Rule.{point_ok, Exponent, Head}
use Rattle.node_rule.proofs.PointBits.{point_bits}
use Rattle.node_slot.specs.Slot.{near_limit, adjusted_inverse, adjusted_origin, plane_at, near_byte, far_byte, near_x, near_y, near_z, far_x, far_y}
use Rattle.node_slot.specs.Slot.{far_z}
use Rattle.node_slot.specs.Slot.{near_of, far_of}
use Rattle.node_hits.proofs.Limit.{limit_number}

-- the inverse is the direction's
pub record Inverted (r : Ray) : Type 0 where
  pub x : r.inverse.x ≡ safe_inverse r.direction.x
  pub y : r.inverse.y ≡ safe_inverse r.direction.y
  pub z : r.inverse.z ≡ safe_inverse r.direction.z

-- a slot's six numbers are bytes
pub record SlotBytes (t : Slot) : Type 0 where
  pub min_x : t.min_x < 256
  pub min_y : t.min_y < 256
  pub min_z : t.min_z < 256
  pub max_x : t.max_x < 256
  pub max_y : t.max_y < 256
  pub max_z : t.max_z < 256

-- ---- one axis
-- the values of an axis: the node's p and e, two bytes, the ray's direction, origin and inverse
pub record AxisTerms (p e lo hi : ℕ) (direction origin inverse : Float) : Type 0 where
  pub scale : Within 40 (scale_of e)
  pub step : Within 63 (adjusted_inverse e inverse)
  pub start : Within 64 (adjusted_origin p origin inverse)
  pub near : Within 72 (plane_at (near_byte direction lo hi) (adjusted_inverse e inverse) (adjusted_origin p origin inverse))
  pub far : Within 72 (plane_at (far_byte direction lo hi) (adjusted_inverse e inverse) (adjusted_origin p origin inverse))

scale_within : (e : ℕ) → Exponent e → Within 40 (scale_of e)
unfolding scale_of point_ok
scale_within e h =
    in_bounds_within (of_bits binary32 (e * 8388608))
    (subst T (point_bits (e * 8388608)) (le→leb (e * 8388608 % 2147483648) 1400897536 (omega arith)))

pub byte_within : (q : ℕ) → q < 256 → Within 8 (of_int binary32 (pos q))
unfolding of_int
byte_within q h = round_atmost binary32 false q 1 (2 ^ 8) 1 (lit< tt) (lit< tt) (held-pow binary32 8 (lit≤ tt)) (omega arith)

wider : (j k : ℕ) (x : Float) → j ≤ k → Within j x → Within k x
wider j k x h w = atmost_le x (2 ^ j) 1 (2 ^ k) 1 (lit< tt) (mul-le-mul_right 1 (pow_mono h)) w

plane_within : (q : ℕ) (i o : Float) → q < 256 → Within 63 i → Within 64 o → Within 72 (plane_at q i o)
unfolding plane_at
plane_within q i o h w v =
    add_within binary32 71 _ o (lit< tt) (mul_within binary32 8 63 (of_int binary32 (pos q)) i (lit≤ tt) (byte_within q h) w)
    (wider 64 71 o (lit≤ tt) v)

either_byte : (b : Bool) (lo hi : ℕ) → lo < 256 → hi < 256 → cond b hi lo < 256
either_byte true lo hi h k = k
either_byte false lo hi h k = h

pub axis_terms : (p e lo hi : ℕ) (direction origin inverse : Float) → T (in_bounds (of_bits binary32 p)) → Exponent e → lo < 256 → hi < 256
    → Within 40 direction → Within 40 origin → inverse ≡ safe_inverse direction → AxisTerms p e lo hi direction origin inverse
unfolding adjusted_inverse adjusted_origin
axis_terms p e lo hi direction origin inverse hp he hl hh hd ho hi' =
    let i : Within 23 inverse = subst (λ (x : Float). Within 23 x) (sym hi') (inverse_within direction hd) in
    let w : Within 63 (adjusted_inverse e inverse) = mul_within binary32 40 23 (scale_of e) inverse (lit≤ tt) (scale_within e he) i in
    let v : Within 64 (adjusted_origin p origin inverse) = mul_within binary32 41 23 _ inverse (lit≤ tt)
    (sub_within binary32 40 (of_bits binary32 p) origin (lit< tt) (in_bounds_within (of_bits binary32 p) hp) ho) i in
    record {
      scale = scale_within e he;
      step = w;
      start = v;
      near = plane_within (near_byte direction lo hi) _ _ (either_byte (below_zero direction) lo hi hl hh) w v;
      far = plane_within (far_byte direction lo hi) _ _ (either_byte (below_zero direction) hi lo hh hl) w v;
    }

-- ---- the three axes, and the largest near and the least far value
pub record Terms (v : Node) (t : Slot) (r : Ray) : Type 0 where
  pub x : AxisTerms v.px v.ex t.min_x t.max_x r.direction.x r.origin.x r.inverse.x
  pub y : AxisTerms v.py v.ey t.min_y t.max_y r.direction.y r.origin.y r.inverse.y
  pub z : AxisTerms v.pz v.ez t.min_z t.max_z r.direction.z r.origin.z r.inverse.z
  pub limit : T (not (is_nan (near_limit r)))
  pub tmax : T (not (is_nan r.tmax))
  pub near : T (not (is_nan (near_of v t r)))
  pub far : T (not (is_nan (far_of v t r)))

pub max_no_nan : (a b : Float) → T (not (is_nan a)) → T (not (is_nan b)) → T (not (is_nan (max_of a b)))
unfolding max_of
max_no_nan a b h k = go (lt b a)
  where
    go : (c : Bool) → T (not (is_nan (cond c a b)))
    go true = h
    go false = k

pub min_no_nan : (a b : Float) → T (not (is_nan a)) → T (not (is_nan b)) → T (not (is_nan (min_of a b)))
unfolding min_of
min_no_nan a b h k = go (lt a b)
  where
    go : (c : Bool) → T (not (is_nan (cond c a b)))
    go true = h
    go false = k

pub within_no_nan : (k : ℕ) (x : Float) → Within k x → T (not (is_nan x))
within_no_nan k x h = atmost_no_nan x (2 ^ k) 1 h

pub terms_finite : (v : Node) (t : Slot) (r : Ray) → Head v → SlotBytes t → Accepted r → Inverted r → Terms v t r
unfolding near_of far_of
terms_finite v t r h b a i =
    let x = axis_terms v.px v.ex t.min_x t.max_x r.direction.x r.origin.x r.inverse.x h.px h.ex b.min_x
    b.max_x a.direction.x a.origin.x i.x in
    let y = axis_terms v.py v.ey t.min_y t.max_y r.direction.y r.origin.y r.inverse.y h.py h.ey b.min_y
    b.max_y a.direction.y a.origin.y i.y in
    let z = axis_terms v.pz v.ez t.min_z t.max_z r.direction.z r.origin.z r.inverse.z h.pz h.ez b.min_z
    b.max_z a.direction.z a.origin.z i.z in
    record {
      x = x;
      y = y;
      z = z;
      limit = limit_number r;
      tmax = a.tmax;
      near =
          max_no_nan (max_of (max_of (near_x v t r) (near_y v t r)) (near_z v t r)) (near_limit r)
          (max_no_nan (max_of (near_x v t r) (near_y v t r)) (near_z v t r)
          (max_no_nan (near_x v t r) (near_y v t r) (within_no_nan 72 (near_x v t r) x.near) (within_no_nan 72 (near_y v t r) y.near))
          (within_no_nan 72 (near_z v t r) z.near))
          (limit_number r);
      far =
          min_no_nan (min_of (min_of (far_x v t r) (far_y v t r)) (far_z v t r)) r.tmax
          (min_no_nan (min_of (far_x v t r) (far_y v t r)) (far_z v t r)
          (min_no_nan (far_x v t r) (far_y v t r) (within_no_nan 72 (far_x v t r) x.far) (within_no_nan 72 (far_y v t r) y.far))
          (within_no_nan 72 (far_z v t r) z.far))
          a.tmax;
    }
