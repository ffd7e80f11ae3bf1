-- The ray that a walker holds, with its octant beside it, what telling does to it, and when it is forged (01, "Walking"; "Causes of refusal";
-- 02, [2]).
use Rattle.std.specs.Prelude.{Bool, not, ◌&&◌, ◌||◌, cond, ℕ, eqb, Float}
use Rattle.std.specs.Float.Ieee.{eq}
use Rattle.ray.specs.declared.Ray.{Ray}
use Rattle.ray.specs.Ray.{safe_inverse, octant_of, plain_vec, reaching, counts, accepted_ray}
use Rattle.gate.specs.Gates.{Gates, all_open}
use Rattle.node_slot.specs.Mask.{passes_open}
use Rattle.walk_record.specs.Record.{Rays}

pub record WalkRay : Type 0 where
  pub ray : Ray
  pub octant : ℕ

-- the ray of a walker just begun
abbrev pub walk_ray : Ray → WalkRay
walk_ray r = record { ray = r; octant = octant_of r.direction }

-- the inverse is the direction's
abbrev pub own_inverse : Ray → Bool
own_inverse r =
    eq r.inverse.x (safe_inverse r.direction.x) && eq r.inverse.y (safe_inverse r.direction.y) && eq r.inverse.z
    (safe_inverse r.direction.z)

-- no -0 in origin or direction, as no ray has that entered
abbrev pub plain_ray : Ray → Bool
plain_ray r = plain_vec r.origin && plain_vec r.direction

-- forged: cause 9 holds of the ray, a -0 is in its origin or its direction, or its inverse or its octant is not its direction's
abbrev pub forged_ray : WalkRay → Bool
forged_ray b = not (accepted_ray b.ray && plain_ray b.ray && own_inverse b.ray && eqb b.octant (octant_of b.ray.direction))

-- a distance that counts becomes the reach; any other does nothing
abbrev pub told_walk_ray : Float → WalkRay → WalkRay
told_walk_ray t b = record { ray = cond (counts b.ray t) (reaching t b.ray) b.ray; octant = b.octant }

-- Slots are passed by their boxes where they are open, and positions passed over where they are not admitted. One that is absent is not passed over,
-- so that its report is refused.
abbrev pub rays_of : Gates → Rays WalkRay Float
rays_of g = record {
  passes = λ b v node j. passes_open g v node b.ray j;
  admits = λ b p. g.absent p || g.admits p;
  absent = λ b p. g.absent p;
  octant = λ b. b.octant;
  told = told_walk_ray;
  forged = λ b. g.forged || forged_ray b;
}

-- slots are passed by their boxes alone, and no position is passed over or absent
abbrev pub by_boxes : Rays WalkRay Float
by_boxes = rays_of all_open
