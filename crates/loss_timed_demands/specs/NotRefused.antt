-- Which losses and reports at quarter hours are not refused (02, [3] and [7]).
use Rattle.std.specs.Prelude.{true, ◌≡◌, ℕ, ◌*◌, ◌≤◌, ◌<◌, Float, length, get_or}
use mathlib.Core.List.{List}
use Rattle.ray.specs.declared.Ray.{Ray}
use Rattle.packed.specs.Packed.{ray_count}
use Rattle.record_shape.specs.Record.{node_count}
use Rattle.span.specs.Span.{quarter_fits, spans_fit}
use Rattle.demands.specs.Loss as L
use Rattle.demands.specs.Walks.{AcceptedRay}
use Rattle.loss_timed_demands.specs.Loss.{Loses}
use Rattle.loss_timed_demands.specs.Report.{TimedReportCall, Reports, ray_word}

-- 16 bytes of side table to each node, a span of a day and a loss for each pane, and each index word the number of a pane
pub record ListsFit (bytes side indices : List ℕ) (panes : ℕ) (spans losses : List ℕ) : Type 0 where
  pub rows : length side ≡ 16 * node_count bytes
  pub of_day : spans_fit panes spans ≡ true
  pub fitting : L.Losses indices panes losses

-- accepted rays, with a quarter hour of a day for each
pub record RaysAt (rays : List Float) (quarters : List ℕ) : Type 0 where
  pub accepted : L.AcceptedRays rays
  pub each : length quarters ≡ ray_count rays
  pub of_day : (i : ℕ) → i < length quarters → quarter_fits (get_or quarters i 0) ≡ true

-- Neither call is refused over this record, and no ray's loss is more than 1,000,000 for each position (02, [3]).
pub record NotRefusedAt (bytes side indices : List ℕ) (panes : ℕ) (spans losses : List ℕ) : Type 0 where
  -- of any accepted ray at any quarter hour of a day
  pub one_ray : (quarter : ℕ) → quarter_fits quarter ≡ true → (ray : Ray) → AcceptedRay ray
      → (loss : ℕ) × Loses (record {
        bytes = bytes;
        side = side;
        indices = indices;
        panes = panes;
        spans = spans;
        losses = losses;
        quarter = quarter;
        ray = ray;
      }) loss
      × (loss ≤ length indices * 1000000)
  -- of any list of rays, with room for all totals
  pub many_rays : (rays : List Float) (quarters : List ℕ) → RaysAt rays quarters → (ray_totals pane_totals : List ℕ)
      → ray_count rays ≤ length ray_totals
      → panes ≤ length pane_totals
      → let c : TimedReportCall = record {
        bytes = bytes;
        side = side;
        indices = indices;
        panes = panes;
        spans = spans;
        losses = losses;
        rays = rays;
        quarters = quarters;
        ray_totals = ray_totals;
        pane_totals = pane_totals;
      } in (tests : ℕ) × Reports c tests × ((i : ℕ) → i < ray_count rays → ray_word c i ≤ length indices * 1000000)
