-- What an accepted ray gives a walk, and a pane's distance.
use mathlib.Core.Bool.{true, false}
use mathlib.Core.List.{List}
use mathlib.Core.Path.{◌≡◌, refl, sym, subst}
use Prim.Native.Nat.{ℕ, ◌+◌, ◌*◌}
use lib.Ieee.{Float, nan}
use lib.ListN.{get_or}
use Rattle.ray.specs.declared.Ray.{Ray}
use Rattle.ray.specs.Ray.{ray_of, accepted_ray}
use Rattle.packed.specs.Packed.{vec_in, ray_in}
use Rattle.aabb.specs.declared.Aabb.{Aabb}
use Rattle.aabb.specs.Aabb.{accepted_box, entry_distance}
use Rattle.walk_record.specs.WalkRay.{walk_ray, forged_ray}
use Rattle.walk_record.proofs.WalkRay.{begun_accepted}
use Rattle.closest.proofs.Distances.{Number, distance_number}
use Rattle.demands.specs.Walks.{AcceptedRay}

-- a ray of a list is made from its parts
pub ray_accepted : (rays : List Float) (i : ℕ) → accepted_ray (ray_in rays i) ≡ true → AcceptedRay (ray_in rays i)
unfolding ray_in
ray_accepted rays i h = record {
  origin = vec_in rays (i * 8);
  direction = vec_in rays (i * 8 + 3);
  tmin = get_or rays (i * 8 + 6) nan;
  tmax = get_or rays (i * 8 + 7) nan;
  made = refl;
  accepted = h;
}

module _ {ray : Ray} (a : AcceptedRay ray) where
  -- the ray from its parts
  abbrev made : Ray
  made = ray_of a.origin a.direction a.tmin a.tmax

  -- what holds of that, being accepted, holds of the ray
  as_made : (P : Ray → Type 0) → (accepted_ray made ≡ true → P made) → P ray
  as_made P f = subst P (sym a.made) (f (subst (λ (r : Ray). accepted_ray r ≡ true) a.made a.accepted))

  -- a walker just begun on it is not forged
  pub not_forged : forged_ray (walk_ray ray) ≡ false
  not_forged = as_made (λ r. forged_ray (walk_ray r) ≡ false) (begun_accepted a.origin a.direction a.tmin a.tmax)

  -- the distance of an accepted box is a number
  pub distance_known : (b : Aabb) → accepted_box b ≡ true → Number (entry_distance b ray)
  distance_known b h = as_made (λ r. Number (entry_distance b r)) (distance_number b a.origin a.direction a.tmin a.tmax h)
