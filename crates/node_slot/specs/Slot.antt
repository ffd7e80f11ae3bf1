-- Whether a ray passes the box of a slot (01, "Walking", and "Corners of each file", node.rs): `intersect_ray_basic` for one slot, by
-- the f32 operations of the Rust in their order, each with one rounding. The test sees p, e, the slot's six bytes and the ray, and no slot number.
-- Where no value is a NaN, as in every node that meets the rule (law `terms-finite`), any nesting of the three maxima gives the same
-- answer, and so do the Rust's own max and min of two floats.
use Rattle.std.specs.Prelude.{Bool, false, cond, ℕ, pos, Float}
use Rattle.std.specs.Float.{binary32}
use Rattle.std.specs.Float.Ieee.{round, of_bits, of_int, add, sub, mul, le}
use Rattle.float.specs.Compare.{min_of, max_of}
use Rattle.float.specs.PowerOfTwo.{scale_of}
use Rattle.ray.specs.declared.Ray.{Ray}
use Rattle.ray.specs.Ray.{below_zero}
use Rattle.node.specs.declared.Slot.{Slot}
use Rattle.node.specs.declared.Node.{Node}

-- no slot counts nearer than this, whatever the ray: 0.0001
unfoldable pub least_limit : Float
least_limit = round binary32 false 1 10000

-- the near limit of a ray: the larger of its start and 0.0001; 0.0001 also where the start is a NaN (02, [1])
unfoldable pub near_limit : Ray → Float
unfolding max_of least_limit
near_limit r = max_of r.tmin least_limit

-- the ray in the node's grid, on one axis: what a step of the grid adds to the distance, and the distance of p's plane
unfoldable pub adjusted_inverse : ℕ → Float → Float
adjusted_inverse e inverse = mul binary32 (scale_of e) inverse

unfoldable pub adjusted_origin : ℕ → Float → Float → Float
adjusted_origin p origin inverse = mul binary32 (sub binary32 (of_bits binary32 p) origin) inverse

-- the distance at which the ray meets the plane at byte q
unfoldable pub plane_at : ℕ → Float → Float → Float
plane_at q inverse origin = add binary32 (mul binary32 (of_int binary32 (pos q)) inverse) origin

-- the byte that the ray meets first on an axis, and the other: a direction below zero meets the upper end first, -0.0 does not
abbrev pub near_byte : Float → ℕ → ℕ → ℕ
near_byte direction lo hi = cond (below_zero direction) hi lo

abbrev pub far_byte : Float → ℕ → ℕ → ℕ
far_byte direction lo hi = cond (below_zero direction) lo hi

-- the near and the far value of each axis
abbrev pub near_x : Node → Slot → Ray → Float
near_x v t r =
    plane_at (near_byte r.direction.x t.min_x t.max_x) (adjusted_inverse v.ex r.inverse.x)
    (adjusted_origin v.px r.origin.x r.inverse.x)

abbrev pub far_x : Node → Slot → Ray → Float
far_x v t r =
    plane_at (far_byte r.direction.x t.min_x t.max_x) (adjusted_inverse v.ex r.inverse.x)
    (adjusted_origin v.px r.origin.x r.inverse.x)

abbrev pub near_y : Node → Slot → Ray → Float
near_y v t r =
    plane_at (near_byte r.direction.y t.min_y t.max_y) (adjusted_inverse v.ey r.inverse.y)
    (adjusted_origin v.py r.origin.y r.inverse.y)

abbrev pub far_y : Node → Slot → Ray → Float
far_y v t r =
    plane_at (far_byte r.direction.y t.min_y t.max_y) (adjusted_inverse v.ey r.inverse.y)
    (adjusted_origin v.py r.origin.y r.inverse.y)

abbrev pub near_z : Node → Slot → Ray → Float
near_z v t r =
    plane_at (near_byte r.direction.z t.min_z t.max_z) (adjusted_inverse v.ez r.inverse.z)
    (adjusted_origin v.pz r.origin.z r.inverse.z)

abbrev pub far_z : Node → Slot → Ray → Float
far_z v t r =
    plane_at (far_byte r.direction.z t.min_z t.max_z) (adjusted_inverse v.ez r.inverse.z)
    (adjusted_origin v.pz r.origin.z r.inverse.z)

-- the largest near value, the near limit included
unfoldable pub near_of : Node → Slot → Ray → Float
unfolding max_of plane_at adjusted_inverse adjusted_origin near_limit
near_of v t r = max_of (max_of (max_of (near_x v t r) (near_y v t r)) (near_z v t r)) (near_limit r)

-- the least far value, tmax included
unfoldable pub far_of : Node → Slot → Ray → Float
unfolding min_of plane_at adjusted_inverse adjusted_origin
far_of v t r = min_of (min_of (min_of (far_x v t r) (far_y v t r)) (far_z v t r)) r.tmax

-- the ray passes the slot's box
unfoldable pub passes : Node → Slot → Ray → Bool
unfolding near_of far_of
passes v t r = le (near_of v t r) (far_of v t r)
