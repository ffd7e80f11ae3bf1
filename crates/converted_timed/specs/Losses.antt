-- What is claimed of a loss and of a report at quarter hours that are not refused (02, [3] and [7]), each in one record; and such calls over what a
-- timed conversion left.
use Rattle.std.specs.Prelude.{◌≡◌, ℕ, ◌*◌, ◌≤◌, ◌<◌, Float, length, get_or}
use mathlib.Core.List.{List}
use Rattle.lists.specs.Sums.{sum}
use Rattle.ray.specs.declared.Ray.{Ray}
use Rattle.timed.specs.Hours.{Timetable}
use Rattle.bvh2_to_cwbvh_timed.specs.TimedConversion.{TimedCall}
use Rattle.timed_conversion_laws.specs.TimedCall.{timed_record_at, timed_list_at, side_at}
use Rattle.loss_timed_demands.specs.Loss.{TimedLossCall, Loses, met, times_named, Room, listed_in, InWalkOrder, InRisingOrder}
use Rattle.loss_timed_demands.specs.Report.{TimedReportCall, Reports, rays_given, single, ray_word, pane_word, RayTotals, OnlyTotals}

-- one loss for each pane, none over 1,000,000
pub record EachLoss (panes : ℕ) (losses : List ℕ) : Type 0 where
  pub each : length losses ≡ panes
  pub most : (k : ℕ) → k < panes → get_or losses k 0 ≤ 1000000

-- ---- one ray

-- the call of `loss_timed` over a record and the lists of h, at its quarter hour
abbrev pub loss_call : List ℕ → Timetable → (losses : List ℕ) → Ray → TimedLossCall
loss_call bytes h losses ray = record {
  bytes = bytes;
  side = h.side;
  indices = h.indices;
  panes = h.panes;
  spans = h.spans;
  losses = losses;
  quarter = h.quarter;
  ray = ray;
}

-- A call over a record of n positions gives a sum,
pub record LossAt (c : TimedLossCall) (n : ℕ) : Type 0 where
  pub loss : ℕ
  pub answer : Loses c loss
  -- at most 1,000,000 for each position.
  pub most : loss ≤ n * 1000000
  -- It is the sum over the list that any-hit writes, lent one with room: in its order, in rising order, and by panes, as often as it names each.
  pub in_walk_order : (before : List ℕ) → Room c before → InWalkOrder c loss before
  pub in_rising_order : (before : List ℕ) → Room c before → InRisingOrder c loss before
  pub by_panes : (before : List ℕ) → Room c before → loss ≡ sum (λ k. times_named c (listed_in c before) k * get_or c.losses k 0) c.panes

-- ---- many rays

-- the call of `report_timed` over what a timed conversion left, a record of m nodes
abbrev pub report_call : TimedCall → (m : ℕ) → (losses : List ℕ) → (rays : List Float) → (quarters ray_totals pane_totals : List ℕ) → TimedReportCall
report_call c m losses rays quarters ray_totals pane_totals = record {
  bytes = timed_record_at c m;
  side = side_at c m;
  indices = timed_list_at c;
  panes = c.panes;
  spans = c.spans;
  losses = losses;
  rays = rays;
  quarters = quarters;
  ray_totals = ray_totals;
  pane_totals = pane_totals;
}

-- A call over a record of n positions gives totals.
pub record ReportAt (c : TimedReportCall) (n : ℕ) : Type 0 where
  pub tests : ℕ
  pub answer : Reports c tests
  -- Each ray's word is the loss of its own call at its own quarter hour,
  pub by_rays : RayTotals c tests
  -- at most 1,000,000 for each position;
  pub most : (i : ℕ) → i < rays_given c → ray_word c i ≤ n * 1000000
  -- each pane's is its loss as often as the positions that the rays meet are its own;
  pub by_panes : (k : ℕ) → k < c.panes
      → pane_word c k ≡ sum (λ i. times_named (single c i) (met (single c i)) k) (rays_given c) * get_or c.losses k 0
  -- all rays' words and all panes' come to the same, and no other word of the slices changes.
  pub agree : sum (ray_word c) (rays_given c) ≡ sum (pane_word c) c.panes
  pub writes : OnlyTotals c
