-- A loss and a report at quarter hours (02, [7]): a slot passes by its box and its span, and a position whose pane's own span does not hold the ray's
-- quarter hour takes nothing from it.
use Rattle.std.specs.Prelude.{Bool, List, [], ◌∷◌, ℕ, ◌*◌, eqb, length, get_or, Float}
use Rattle.lists.specs.Below.{all_below}
use Rattle.causes.specs.Causes.{Condition, ◌unless◌, first_cause}
use Rattle.ray.specs.declared.Ray.{Ray}
use Rattle.packed.specs.Packed.{ray_count}
use Rattle.gate.specs.Gates.{Gates}
use Rattle.record_shape.specs.Record.{node_count}
use Rattle.query.specs.Entry.{entry_conditions}
use Rattle.query.specs.Result.{Result, entered}
use Rattle.loss_walk.specs.Losses.{LossAnswer, Report}
use Rattle.loss_walk.specs.Entry.{conditions_between}
use Rattle.loss_walk.specs.Gated.{gated_loss, gated_loss_of, gated_report, gated_report_of}
use Rattle.span.specs.Span.{quarter_fits, spans_fit}
use Rattle.timed.specs.Hours.{Timetable, gates_at}
use Rattle.timed_entry.specs.Entry.{timetable, timed_conditions, timed_cause}

-- ---- one ray

module _ (bytes side indices : List ℕ) (panes : ℕ) (spans losses : List ℕ) (quarter : ℕ) (r : Ray) where
  abbrev pub hours_given : Timetable
  hours_given = timetable side indices panes spans quarter

  -- the answer: causes 1, 2, 12, 14 and 9 come before what the walk gives, in this order
  unfoldable pub loss_timed_of : Result LossAnswer
  unfolding entry_conditions first_cause entered gated_loss timed_conditions
  loss_timed_of = gated_loss_of (gates_at hours_given) (timed_cause bytes hours_given) bytes indices panes losses r

-- ---- a list of rays, a byte beside each

-- each byte is a quarter hour of a day
unfoldable pub quarters_fit : List ℕ → Bool
unfolding all_below quarter_fits
quarters_fit quarters = all_below (λ i. quarter_fits (get_or quarters i 0)) (length quarters)

-- by the same lists at the quarter hour of ray i
abbrev pub timetable_by : Timetable → List ℕ → ℕ → Timetable
timetable_by h quarters i = timetable h.side h.indices h.panes h.spans (get_or quarters i 0)

-- ray i walks beside the gates of its own quarter hour
abbrev pub gates_by : Timetable → List ℕ → ℕ → Gates
gates_by h quarters i = gates_at (timetable_by h quarters i)

-- Over a record of these bytes: a span of a day for each pane, 16 bytes of side table to each node, and quarter hours of a day.
unfoldable pub hours_conditions : List ℕ → Timetable → (quarters : List ℕ) → List Condition
unfolding spans_fit quarters_fit
hours_conditions bytes h quarters =
    14 unless spans_fit h.panes h.spans ∷ 14 unless eqb (length h.side) (16 * node_count bytes) ∷ 14 unless quarters_fit quarters ∷ []

module _ (bytes side indices : List ℕ) (panes : ℕ) (spans losses : List ℕ) (rays : List Float) (quarters : List ℕ) where
  -- the lists; the quarter hour beside them is not looked at
  abbrev pub lists_given : Timetable
  lists_given = timetable side indices panes spans 0

  -- What the call answers, and leaves of the slices lent: causes 1, also where `quarters` is not one byte a ray, 2, 4, 12, 14 and 9 come before the
  -- walks, in this order.
  unfoldable pub report_timed_of : (ray_totals pane_totals : List ℕ) → Report
  unfolding conditions_between hours_conditions first_cause gated_report
  report_timed_of ray_totals pane_totals =
      gated_report_of (gates_by lists_given quarters) bytes indices panes losses rays (eqb (length quarters) (ray_count rays))
      (first_cause (hours_conditions bytes lists_given quarters)) ray_totals pane_totals
