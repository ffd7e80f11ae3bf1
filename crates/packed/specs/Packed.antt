-- Vectors, boxes and rays as floats one behind the other: six to a box, eight to a ray.
use Rattle.std.specs.Prelude.{Bool, List, ℕ, ◌+◌, ◌*◌, ◌/◌, length, get_or, Float}
use Rattle.std.specs.Float.{nan}
use Rattle.lists.specs.Below.{all_below}
use Rattle.ray.specs.declared.Vec3.{Vec3}
use Rattle.ray.specs.declared.Ray.{Ray}
use Rattle.ray.specs.declared.Beam.{Beam}
use Rattle.ray.specs.Ray.{ray_from, accepted_ray}
use Rattle.aabb.specs.declared.Aabb.{Aabb}

-- x, y, z, from a place on
unfoldable pub vec_in : List Float → ℕ → Vec3
vec_in s at = record { x = get_or s at nan; y = get_or s (at + 1) nan; z = get_or s (at + 2) nan }

-- box k of a list: min, then max
unfoldable pub box_in : List Float → ℕ → Aabb
unfolding vec_in
box_in s k = record { min = vec_in s (k * 6); max = vec_in s (k * 6 + 3) }

-- ray k of a list as it is asked for: origin, direction, tmin, tmax
abbrev pub beam_in : List Float → ℕ → Beam
beam_in s k = record {
  origin = vec_in s (k * 8);
  direction = vec_in s (k * 8 + 3);
  tmin = get_or s (k * 8 + 6) nan;
  tmax = get_or s (k * 8 + 7) nan;
}

-- ray k of a list
unfoldable pub ray_in : List Float → ℕ → Ray
unfolding vec_in
ray_in s k = ray_from (beam_in s k)

-- how many rays, and whether each is accepted
abbrev pub ray_count : List Float → ℕ
ray_count s = length s / 8

unfoldable pub rays_accepted : List Float → Bool
unfolding all_below ray_in
rays_accepted s = all_below (λ k. accepted_ray (ray_in s k)) (ray_count s)
