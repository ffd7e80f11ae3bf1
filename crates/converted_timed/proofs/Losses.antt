-- Losses and reports at quarter hours over what a call of the timed conversion left (02, [3] and [7]): where there is a loss for each pane, none over
-- 1,000,000, no call of an accepted ray at a quarter hour of a day is refused, nor a report of such rays; and what they give are sums over positions.
use mathlib.Core.Bool.{true}
use mathlib.Core.List.{List}
use mathlib.Core.Path.{◌≡◌}
use Prim.Native.Nat.{ℕ, ◌≤◌}
use native.Mathlib.Omega.{arith}
use lib.Ieee.{Float}
use lib.ListN.{length}
use Rattle.ray.specs.declared.Ray.{Ray}
use Rattle.packed.specs.Packed.{ray_count}
use Rattle.span.specs.Span.{quarter_fits}
use Rattle.bvh2_tables.specs.Call.{leaf_count}
use Rattle.bvh2_to_cwbvh_timed.specs.TimedConversion.{TimedCall}
use Rattle.demands.specs.Walks.{AcceptedRay}
use Rattle.timed_conversion_laws.specs.TimedCall.{TimedAnswers, timed_record_at, timed_list_at, side_at, timetable_left}
use Rattle.timed_conversion_laws.proofs.SideTable.{rows_left}
use Rattle.loss_timed_demands.specs.NotRefused.{ListsFit, RaysAt, NotRefusedAt}
use Rattle.loss_timed_demands.proofs.Loss.{loss_in_walk_order, loss_rising, loss_by_panes}
use Rattle.loss_timed_demands.proofs.Report.{ray_total_lem, pane_total_lem, totals_agree, report_writes}
use Rattle.loss_timed_demands.proofs.SoundLoss.{sound_not_refused}
use Rattle.converted_timed.specs.Losses.{EachLoss, loss_call, LossAt, report_call, ReportAt}
use Rattle.converted_timed.proofs.Checked.{record_good, as_many, spans_good, panes_named}

module _ (c : TimedCall) (m d : ℕ) (answers : TimedAnswers c m d) (losses : List ℕ) (fit : EachLoss c.panes losses) where
  lists_fit : ListsFit (timed_record_at c m) (side_at c m) (timed_list_at c) c.panes c.spans losses
  lists_fit = record {
    rows = rows_left c m d answers;
    of_day = spans_good c m d answers;
    fitting = record { each = fit.each; most = fit.most; named = panes_named c m d answers };
  }

  not_refused : NotRefusedAt (timed_record_at c m) (side_at c m) (timed_list_at c) c.panes c.spans losses
  not_refused = sound_not_refused (record_good c m d answers) lists_fit

  -- A ray's loss is not refused, and is the sum over the list that any-hit writes at that quarter hour.
  pub converted_loss : (quarter : ℕ) → quarter_fits quarter ≡ true → (ray : Ray) → AcceptedRay ray
      → LossAt (loss_call (timed_record_at c m) (timetable_left c m quarter) losses ray) (leaf_count c.untimed)
  converted_loss quarter of_day ray accepted =
      let r = not_refused.one_ray quarter of_day ray accepted in
      let call = loss_call (timed_record_at c m) (timetable_left c m quarter) losses ray in
      record {
        loss = r.0;
        answer = r.1;
        most = omega (arith, r.2, as_many c m d answers);
        in_walk_order = loss_in_walk_order call r.0 r.1;
        in_rising_order = loss_rising call r.0 r.1;
        by_panes = loss_by_panes call r.0 r.1;
      }

  -- A report of accepted rays, each at a quarter hour of a day, with room for all totals, is not refused; its totals are the sums of such losses.
  pub converted_report : (rays : List Float) (quarters : List ℕ) → RaysAt rays quarters → (ray_totals pane_totals : List ℕ)
      → ray_count rays ≤ length ray_totals → c.panes ≤ length pane_totals
      → ReportAt (report_call c m losses rays quarters ray_totals pane_totals) (leaf_count c.untimed)
  converted_report rays quarters given ray_totals pane_totals ray_room pane_room =
      let r = not_refused.many_rays rays quarters given ray_totals pane_totals ray_room pane_room in
      let call = report_call c m losses rays quarters ray_totals pane_totals in
      record {
        tests = r.0;
        answer = r.1;
        by_rays = ray_total_lem call r.0 r.1;
        most = λ i h. omega (arith, r.2 i h, as_many c m d answers);
        by_panes = pane_total_lem call r.0 r.1;
        agree = totals_agree call r.0 r.1;
        writes = report_writes call r.0 r.1;
      }
