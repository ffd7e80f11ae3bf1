-- Closest and miss by boxes alone (01, "Walking"; "Causes of refusal", 6 and 10; 02, [1]).
use Rattle.std.specs.Prelude.{List, ℕ, Float}
use Rattle.causes.specs.Causes.{first_cause}
use Rattle.ray.specs.declared.Ray.{Ray}
use Rattle.gate.specs.Gates.{all_open}
use Rattle.walk.specs.Queries.{Found}
use Rattle.walk.specs.WordQueries.{OutcomeWords}
use Rattle.walk_record.specs.WalkRay.{WalkRay}
use Rattle.walk_record.specs.Walk.{query_at}
use Rattle.query.specs.Entry.{entry_conditions}
use Rattle.query.specs.Result.{Result, walked, entered}
use Rattle.pane_walk.specs.Panes.{pane_cause_between, gated_closest_walk, gated_miss_walk}
-- panes as a ray meets them, answers, and the results that hold them
pub use Rattle.pane_walk.specs.Panes.{nearer, ClosestAnswer, hit_at, no_hit, refused_closest, closest_result}
pub use Rattle.pane_walk.specs.Panes.{MissAnswer, missed, blocked, refused_miss}
unfoldable pub use Rattle.pane_walk.specs.Panes.{pane_met, pane_of, closest_found, miss_found, closest_answer, miss_answer, miss_result}

module _ (bytes indices : List ℕ) (panes : List Float) (r : Ray) where
  -- the first of causes 1, 2 and 9
  abbrev pub pane_cause : ℕ
  pane_cause = pane_cause_between bytes indices panes r 0

  -- the walks
  unfoldable pub closest_walk : OutcomeWords WalkRay (Found Float)
  unfolding pane_of query_at
  closest_walk = gated_closest_walk all_open bytes indices panes r

  unfoldable pub miss_walk : OutcomeWords WalkRay (Found Float)
  unfolding pane_of query_at
  miss_walk = gated_miss_walk all_open bytes indices panes r

  -- what these give
  abbrev pub closest_walked : Result ClosestAnswer
  closest_walked = walked refused_closest closest_found closest_walk closest_walk.ended

  abbrev pub miss_walked : Result MissAnswer
  miss_walked = walked refused_miss miss_found miss_walk miss_walk.ended

  unfoldable pub closest_of : Result ClosestAnswer
  unfolding entry_conditions first_cause walked closest_found closest_walk entered
  closest_of = entered refused_closest pane_cause closest_walked

  unfoldable pub miss_of : Result MissAnswer
  unfolding entry_conditions first_cause walked miss_found miss_walk entered
  miss_of = entered refused_miss pane_cause miss_walked
