-- Why a call of `loss_timed` is refused (02, [3] and [7]): each constructor is one way for the cause of that number to hold.
use Rattle.std.specs.Prelude.{false, List, ◌≡◌, ℕ, ◌*◌, length}
use Rattle.causes.specs.Causes.{First}
use Rattle.ray.specs.Ray.{accepted_ray}
use Rattle.record_shape.specs.Record.{node_count}
use Rattle.span.specs.Span.{quarter_fits, spans_fit}
use Rattle.timed.specs.Hours.{Timetable}
use Rattle.any_hit_timed.specs.Timed.{any_hit_timed_of}
use Rattle.demands.specs.LossRefusals.{SizeRefusal, LossesRefusal, WalkRefusedBy}
use Rattle.loss_timed_demands.specs.Loss.{TimedLossCall, hours, met}

-- of the lists beside a record, and of the quarter hour: cause 14
pub data HoursRefusal (bytes : List ℕ) (h : Timetable) : Type 0 where
  -- not two bytes a pane, or one of a span that is none of a day
  spans_unfit : spans_fit h.panes h.spans ≡ false → HoursRefusal bytes h
  part_of_row : ¬ (length h.side ≡ 16 * node_count bytes) → HoursRefusal bytes h
  quarter_over : quarter_fits h.quarter ≡ false → HoursRefusal bytes h

-- of a ray's walk: cause 10
abbrev pub WalkRefusal : TimedLossCall → Type 0
WalkRefusal c = WalkRefusedBy c.indices c.panes (any_hit_timed_of c.bytes (hours c) c.ray) (met c)

-- of a call of `loss_timed`
pub data TimedLossRefusal (c : TimedLossCall) : ℕ → Type 0 where
  -- 1, 2
  sizes_refused : {k : ℕ} → SizeRefusal c.bytes c.indices k → TimedLossRefusal c k
  -- 12
  losses_refused : LossesRefusal c.panes c.losses → TimedLossRefusal c 12
  -- 14
  hours_refused : HoursRefusal c.bytes (hours c) → TimedLossRefusal c 14
  -- 9
  ray_refused : accepted_ray c.ray ≡ false → TimedLossRefusal c 9
  -- 10
  walk_refused : WalkRefusal c → TimedLossRefusal c 10

-- the first cause that holds, in the order in which they are looked at
abbrev pub FirstTimedLossRefusal : TimedLossCall → ℕ → Type 0
FirstTimedLossRefusal c k = First (TimedLossRefusal c) k
