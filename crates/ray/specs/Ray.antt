-- Rays (01, "Corners of each file", ray.rs; "Walking"; "Causes of refusal", 9; 02, [1] and [2]). A ray's start is its tmin, its reach its tmax.
use Rattle.std.specs.Prelude.{ℕ, ◌+◌, ◌-◌, Bool, true, false, not, ◌&&◌, cond, pos, negsuc, Float}
use Rattle.std.specs.Float.{inf, fin, binary32}
use Rattle.std.specs.Float.Ieee.{div, lt, le, is_nan}
use Rattle.float.specs.Compare.{plus_zero, unsigned_zero, is_minus_zero, in_bounds}
use Rattle.float.specs.Sign.{sign_bit}
use Rattle.ray.specs.declared.Vec3.{Vec3}
use Rattle.ray.specs.declared.Ray.{Ray}
use Rattle.ray.specs.declared.Beam.{Beam}

-- |v| ≤ 2 ^ -23
abbrev pub tiny : Float → Bool
tiny v = le (fin true 1 (negsuc 22)) v && le v (fin false 1 (negsuc 22))

-- 2 ^ 23 with v's sign bit where v is tiny, else 1 / v rounded
unfoldable pub safe_inverse : Float → Float
safe_inverse v = cond (tiny v) (fin (sign_bit v) 1 (pos 23)) (div binary32 (fin false 1 (pos 0)) v)

-- below zero as a number, so not -0
abbrev pub below_zero : Float → Bool
below_zero v = lt v plus_zero

-- 7 less 4, 2 and 1 for an x, a y and a z below zero
unfoldable pub octant_of : Vec3 → ℕ
octant_of d = 7 - (cond (below_zero d.x) 4 0 + cond (below_zero d.y) 2 0 + cond (below_zero d.z) 1 0)

-- each component as it enters: a zero of either sign is +0 (02, [2])
unfoldable pub unsigned_vec : Vec3 → Vec3
unsigned_vec v = record { x = unsigned_zero v.x; y = unsigned_zero v.y; z = unsigned_zero v.z }

-- no component is -0 (02, [2])
unfoldable pub plain_vec : Vec3 → Bool
plain_vec v = not (is_minus_zero v.x) && not (is_minus_zero v.y) && not (is_minus_zero v.z)

-- the safe inverse of each component
abbrev pub inverse_of : Vec3 → Vec3
inverse_of d = record { x = safe_inverse d.x; y = safe_inverse d.y; z = safe_inverse d.z }

-- a ray as it enters: the zeros of its origin and its direction are +0, and its inverse is that of the direction so read (02, [2])
unfoldable pub ray_of : Vec3 → Vec3 → Float → Float → Ray
ray_of o d near far = record {
  origin = unsigned_vec o;
  direction = unsigned_vec d;
  inverse = inverse_of (unsigned_vec d);
  tmin = near;
  tmax = far;
}

-- the ray that is asked for
abbrev pub ray_from : Beam → Ray
ray_from b = ray_of b.origin b.direction b.tmin b.tmax

-- a ray with another start, and one with another reach
abbrev pub starting_at : Float → Ray → Ray
starting_at t r = record { origin = r.origin; direction = r.direction; inverse = r.inverse; tmin = t; tmax = r.tmax }

abbrev pub reaching : Float → Ray → Ray
reaching t r = record { origin = r.origin; direction = r.direction; inverse = r.inverse; tmin = r.tmin; tmax = t }

-- a distance counts for a ray: it is not below the ray's start, and is below its reach; so no NaN does (02, [1])
unfoldable pub counts : Ray → Float → Bool
counts r t = not (lt t r.tmin) && lt t r.tmax

-- where a ray sees something at this distance: nowhere, which is infinitely far, if that is below the ray's start
unfoldable pub seen_at : Ray → Float → Float
seen_at r t = cond (lt t r.tmin) (inf false) t

-- each component finite and within ±2 ^ 40
unfoldable pub bounded_vec : Vec3 → Bool
bounded_vec v = in_bounds v.x && in_bounds v.y && in_bounds v.z

-- no cause 9: origin and direction bounded, neither tmin nor tmax a NaN
unfoldable pub accepted_ray : Ray → Bool
accepted_ray r = bounded_vec r.origin && bounded_vec r.direction && not (is_nan r.tmin) && not (is_nan r.tmax)
