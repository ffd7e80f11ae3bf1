-- Why a call of `report_timed` is refused (02, [3] and [7]): each constructor is one way for the cause of that number to hold.
use Rattle.std.specs.Prelude.{false, ◌≡◌, ℕ, ◌*◌, ◌%◌, ◌<◌, length}
use Rattle.causes.specs.Causes.{First}
use Rattle.ray.specs.Ray.{accepted_ray}
use Rattle.packed.specs.Packed.{ray_in}
use Rattle.record_shape.specs.Record.{node_count}
use Rattle.span.specs.Span.{spans_fit}
use Rattle.loss_timed.specs.Timed.{quarters_fit}
use Rattle.demands.specs.LossRefusals.{SizeRefusal, LossesRefusal}
use Rattle.loss_timed_demands.specs.Refusals.{WalkRefusal}
use Rattle.loss_timed_demands.specs.Report.{TimedReportCall, rays_given, single}

-- of the lists beside a record, and of the quarter hours of all rays: cause 14
pub data ListsRefusal (c : TimedReportCall) : Type 0 where
  -- not two bytes a pane, or one of a span that is none of a day
  spans_unfit : spans_fit c.panes c.spans ≡ false → ListsRefusal c
  part_of_row : ¬ (length c.side ≡ 16 * node_count c.bytes) → ListsRefusal c
  quarter_over : quarters_fit c.quarters ≡ false → ListsRefusal c

-- of a call of `report_timed`
pub data TimedReportRefusal (c : TimedReportCall) : ℕ → Type 0 where
  -- 1
  part_of_ray : ¬ (length c.rays % 8 ≡ 0) → TimedReportRefusal c 1
  quarters_unfit : ¬ (length c.quarters ≡ rays_given c) → TimedReportRefusal c 1
  -- 1, 2
  sizes_refused : {k : ℕ} → SizeRefusal c.bytes c.indices k → TimedReportRefusal c k
  -- 2
  rays_over : 65536 < rays_given c → TimedReportRefusal c 2
  -- 4
  ray_totals_short : length c.ray_totals < rays_given c → TimedReportRefusal c 4
  pane_totals_short : length c.pane_totals < c.panes → TimedReportRefusal c 4
  -- 12
  losses_refused : LossesRefusal c.panes c.losses → TimedReportRefusal c 12
  -- 14
  lists_refused : ListsRefusal c → TimedReportRefusal c 14
  -- 9
  ray_refused : (i : ℕ) → i < rays_given c → accepted_ray (ray_in c.rays i) ≡ false → TimedReportRefusal c 9
  -- 10
  walk_refused : (i : ℕ) → i < rays_given c → WalkRefusal (single c i) → TimedReportRefusal c 10

-- the first cause that holds, in the order in which they are looked at
abbrev pub FirstTimedReportRefusal : TimedReportCall → ℕ → Type 0
FirstTimedReportRefusal c k = First (TimedReportRefusal c) k
