-- Closest and miss at a quarter hour (02, [7]): a slot passes by its box and its span, and a position whose pane's own span does not hold the quarter
-- hour is passed over, whatever box the pane has.
use Rattle.std.specs.Prelude.{List, ℕ, ◌/◌, length, Float}
use Rattle.causes.specs.Causes.{first_cause}
use Rattle.ray.specs.declared.Ray.{Ray}
use Rattle.walk.specs.Queries.{Found}
use Rattle.walk.specs.WordQueries.{OutcomeWords}
use Rattle.walk_record.specs.WalkRay.{WalkRay}
use Rattle.walk_record.specs.Walk.{query_at}
use Rattle.query.specs.Entry.{entry_conditions}
use Rattle.query.specs.Result.{Result, walked, entered}
use Rattle.pane_walk.specs.Panes.{pane_of, ClosestAnswer, MissAnswer, closest_found, miss_found}
use Rattle.pane_walk.specs.Panes.{gated_closest_walk, gated_miss_walk, gated_closest, gated_miss}
use Rattle.timed.specs.Hours.{Timetable, gates_at}
use Rattle.timed_entry.specs.Entry.{timetable, timed_conditions, timed_cause}

-- what such a call is given beside a record and a ray: there are as many panes as boxes of six floats
abbrev pub pane_timetable : (side indices : List ℕ) → List Float → (spans : List ℕ) → (quarter : ℕ) → Timetable
pane_timetable side indices panes spans quarter = timetable side indices (length panes / 6) spans quarter

module _ (bytes side indices : List ℕ) (panes : List Float) (spans : List ℕ) (quarter : ℕ) (r : Ray) where
  abbrev pub pane_hours : Timetable
  pane_hours = pane_timetable side indices panes spans quarter

  -- the walks
  abbrev pub closest_timed_walk : OutcomeWords WalkRay (Found Float)
  closest_timed_walk = gated_closest_walk (gates_at pane_hours) bytes indices panes r

  abbrev pub miss_timed_walk : OutcomeWords WalkRay (Found Float)
  miss_timed_walk = gated_miss_walk (gates_at pane_hours) bytes indices panes r

  -- the answers: causes 1, 2, 14 and 9 come before them, in this order
  unfoldable pub closest_timed_of : Result ClosestAnswer
  unfolding entry_conditions first_cause walked closest_found pane_of query_at entered timed_conditions
  closest_timed_of = gated_closest (gates_at pane_hours) bytes indices panes r (timed_cause bytes pane_hours)

  unfoldable pub miss_timed_of : Result MissAnswer
  unfolding entry_conditions first_cause walked miss_found pane_of query_at entered timed_conditions
  miss_timed_of = gated_miss (gates_at pane_hours) bytes indices panes r (timed_cause bytes pane_hours)
