-- Any-hit at a quarter hour (02, [7]): a slot passes by its box and its span, and a position whose pane's own span does not hold the quarter hour is
-- passed over.
use Rattle.std.specs.Prelude.{List, ℕ, length}
use Rattle.ray.specs.declared.Ray.{Ray}
use Rattle.query.specs.Result.{Result}
use Rattle.any_hit_walk.specs.AnyHit.{AnyHitAnswer, gated_any_hit, gated_list}
use Rattle.timed.specs.Hours.{Timetable, gates_at}
use Rattle.timed_entry.specs.Entry.{timed_conditions, timed_cause}

module _ (bytes : List ℕ) (h : Timetable) (r : Ray) where
  -- the answer with room for so many positions: causes 1, 2, 14 and 9 come before it, in this order
  unfoldable pub any_hit_timed_of : (room : ℕ) → Result AnyHitAnswer
  unfolding gated_any_hit timed_conditions
  any_hit_timed_of room = gated_any_hit (gates_at h) bytes (length h.indices) (timed_cause bytes h) r room

  -- the list at the end: a refusal leaves it as it was
  unfoldable pub list_timed : List ℕ → List ℕ
  unfolding gated_list timed_conditions
  list_timed before = gated_list (gates_at h) bytes (length h.indices) (timed_cause bytes h) r before
