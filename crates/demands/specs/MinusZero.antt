-- What is claimed of the zeros of rays (02, [2]): which rays have a -0, what is the same for two rays, and what a walker under way keeps of its ray.
use Rattle.std.specs.Prelude.{List, ◌⊎◌, true, ◌≡◌, ℕ, Float}
use Rattle.float.specs.Compare.{is_minus_zero}
use Rattle.ray.specs.declared.Vec3.{Vec3}
use Rattle.ray.specs.declared.Ray.{Ray}
use Rattle.aabb.specs.declared.Aabb.{Aabb}
use Rattle.aabb.specs.Aabb.{entry_distance}
use Rattle.walk_record.specs.WalkRay.{WalkRay}
use Rattle.traverse.specs.Walker.{started}
use Rattle.any_hit.specs.AnyHit.{any_hit_of, list_after}
use Rattle.closest.specs.Panes.{closest_of, miss_of}

-- a component is -0
abbrev pub HasMinusZero : Vec3 → Type 0
HasMinusZero v = (is_minus_zero v.x ≡ true) ⊎ (is_minus_zero v.y ≡ true) ⊎ (is_minus_zero v.z ≡ true)

-- whatever is asked of two rays has one answer: the walker that begins, a box's distance, any-hit with the list that it leaves, closest and miss
pub record AnsweredAlike (r s : Ray) : Type 0 where
  pub begins : started r ≡ started s
  pub distance : (b : Aabb) → entry_distance b r ≡ entry_distance b s
  pub any_hit : (bytes : List ℕ) (n room : ℕ) → any_hit_of bytes n r room ≡ any_hit_of bytes n s room
  pub list : (bytes : List ℕ) (n : ℕ) (before : List ℕ) → list_after bytes n r before ≡ list_after bytes n s before
  pub closest : (bytes indices : List ℕ) (panes : List Float) → closest_of bytes indices panes r ≡ closest_of bytes indices panes s
  pub miss : (bytes indices : List ℕ) (panes : List Float) → miss_of bytes indices panes r ≡ miss_of bytes indices panes s

-- two rays of walkers that differ in nothing but their reach
pub record SameLine (a b : WalkRay) : Type 0 where
  pub origin : a.ray.origin ≡ b.ray.origin
  pub direction : a.ray.direction ≡ b.ray.direction
  pub inverse : a.ray.inverse ≡ b.ray.inverse
  pub start : a.ray.tmin ≡ b.ray.tmin
  pub octant : a.octant ≡ b.octant
