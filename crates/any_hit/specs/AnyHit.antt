-- Any-hit by boxes alone (01, "Walking"; "Causes of refusal", 10 and 11).
use Rattle.std.specs.Prelude.{List, ℕ}
use Rattle.ray.specs.declared.Ray.{Ray}
use Rattle.gate.specs.Gates.{all_open}
use Rattle.query.specs.Result.{Result}
use Rattle.any_hit_walk.specs.AnyHit.{gated_any_hit, gated_list}
-- answers, and the results that hold them
pub use Rattle.any_hit_walk.specs.AnyHit.{AnyHitAnswer, listed, refused, lacking}
unfoldable pub use Rattle.any_hit_walk.specs.AnyHit.{any_hit_answer, result_of, fitted, list_for, walk_of, list_walked}

-- the answer for a record, n positions, a ray, and room for so many positions
unfoldable pub any_hit_of : List ℕ → ℕ → Ray → ℕ → Result AnyHitAnswer
unfolding gated_any_hit
any_hit_of bytes n r room = gated_any_hit all_open bytes n 0 r room

-- the list at the end
unfoldable pub list_after : List ℕ → ℕ → Ray → List ℕ → List ℕ
unfolding gated_list
list_after bytes n r before = gated_list all_open bytes n 0 r before
