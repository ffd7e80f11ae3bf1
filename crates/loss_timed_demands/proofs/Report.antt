-- A report over many rays, each at a quarter hour of its own (02, [3] and [7]): its totals by the rays' own calls and by the positions met, that the
-- two ways of adding up agree, what refuses it once its walks begin, and what it leaves of its slices.
use mathlib.Core.List.{List}
use mathlib.Core.Logic.{◌↔◌}
use mathlib.Core.Path.{◌≡◌, sym}
use Prim.Native.Nat.{ℕ, ◌+◌, ◌*◌, ◌≤◌, ◌<◌}
use native.Mathlib.Omega.{arith}
use borrow.Author.Tests.{eqb-true}
use lib.Dec.{eqb}
use lib.ListN.{length, get_or}
use Rattle.lists.specs.Sums.{sum}
use Rattle.packed.specs.Packed.{ray_count}
use Rattle.record_shape.specs.Record.{node_count}
use Rattle.loss_walk.specs.Losses.{refused_report}
use Rattle.timed_entry.specs.Entry.{timetable, timed_cause}
use Rattle.timed_entry.proofs.Begun.{timed_begun}
use Rattle.any_hit_timed.specs.Timed.{list_timed}
use Rattle.loss_timed.specs.Timed.{loss_timed_of, gates_by, report_timed_of}
use Rattle.loss_timed.proofs.Hours.{own_entered}
use Rattle.demands.proofs.GatedReport.{ReportBeside, Enters, Agrees, refused_leaves, refused_number, refused_fault, totals_own, totals_panes}
use Rattle.demands.proofs.GatedReport.{totals_listed, totals_alike, totals_written, without_rays, without_panes, without_nodes}
use Rattle.loss_timed_demands.specs.Loss.{hours, met, times_named, Room, listed_in}
use Rattle.loss_timed_demands.specs.Report.{TimedReportCall, report_for, Reports, rays_given, single, ray_word, pane_word, RayTotals, hours_cause}
use Rattle.loss_timed_demands.specs.Report.{UnrefusedOnEntry, FirstFault, LeftAlone, OnlyTotals, AllZero}
use Rattle.loss_timed_demands.proofs.Loss.{loss_most}

module _ (c : TimedReportCall) where
  -- as a report beside the gates of each ray's quarter hour
  abbrev pub beside : ReportBeside
  beside = record {
    gates = gates_by (timetable c.side c.indices c.panes c.spans 0) c.quarters;
    fits = eqb (length c.quarters) (ray_count c.rays);
    between = hours_cause c;
    betweens = λ i. timed_cause c.bytes (hours (single c i));
    bytes = c.bytes;
    indices = c.indices;
    panes = c.panes;
    losses = c.losses;
    rays = c.rays;
    ray_totals = c.ray_totals;
    pane_totals = c.pane_totals;
  }

  -- where nothing refuses it on entry no ray's own call finds cause 14
  own_none : Enters beside → (i : ℕ) → i < rays_given c → timed_cause c.bytes (hours (single c i)) ≡ 0
  own_none e i h =
      own_entered c.bytes c.side c.indices c.panes c.spans c.quarters (sym e.none) i
      (omega (arith, h, eqb-true (length c.quarters) (rays_given c) e.others))

  pub agrees : Agrees beside
  agrees = record { none = own_none; begun = λ e i h. timed_begun c.bytes (hours (single c i)) (own_none e i h) }

  -- ---- refusals

  -- A refusal leaves both slices as they were.
  pub report_refused_leaves : (k : ℕ) → (report_for c).answer ≡ refused_report k → LeftAlone c
  unfolding report_timed_of
  report_refused_leaves = refused_leaves beside

  module _ (none : UnrefusedOnEntry c) where
    -- Where no cause of 1, 2, 4, 12, 14 and 9 holds, the number of a ray's fault is 10,
    pub fault_number : (k : ℕ) → FirstFault c k → k ≡ 10
    unfolding loss_timed_of
    fault_number = refused_number beside agrees none

    -- and a report is refused exactly if the own call of some ray is, with the number of the first such ray.
    pub report_fault : (k : ℕ) → (report_for c).answer ≡ refused_report k ↔ FirstFault c k
    unfolding report_timed_of loss_timed_of
    report_fault = refused_fault beside agrees none

  -- ---- totals

  module _ (tests : ℕ) (given : Reports c tests) where
    -- Each ray's word is the loss of its own call at its own quarter hour, and the tests are those of all these calls.
    pub ray_total_lem : RayTotals c tests
    unfolding report_timed_of loss_timed_of
    ray_total_lem = totals_own beside agrees tests given

    -- Each pane's word is its loss as often as the positions that the rays meet are its own.
    pub pane_total_lem : (k : ℕ) → k < c.panes → pane_word c k
        ≡ sum (λ i. times_named (single c i) (met (single c i)) k) (rays_given c) * get_or c.losses k 0
    unfolding report_timed_of
    pane_total_lem = totals_panes beside agrees tests given

    -- These are the positions that the any-hit call of each ray and its quarter hour lists, lent a list with room for them.
    pub pane_total_listed : (before : ℕ → List ℕ) → ((i : ℕ) → i < rays_given c → Room (single c i) (before i)) → (k : ℕ) → k < c.panes
        → pane_word c k ≡ sum (λ i. times_named (single c i) (listed_in (single c i) (before i)) k) (rays_given c) * get_or c.losses k 0
    unfolding report_timed_of list_timed
    pane_total_listed = totals_listed beside agrees tests given

    -- The totals of all rays and those of all panes come to the same.
    pub totals_agree : sum (ray_word c) (rays_given c) ≡ sum (pane_word c) c.panes
    unfolding report_timed_of
    totals_agree = totals_alike beside agrees tests given

    -- On any bytes a ray's word is at most 25 losses of 1,000,000 to each node, and one.
    pub ray_total_most : (i : ℕ) → i < rays_given c → ray_word c i ≤ (25 * node_count c.bytes + 1) * 1000000
    ray_total_most i h = loss_most (single c i) (ray_word c i) (ray_total_lem.words i h)

    -- Only the words of rays and of panes change.
    pub report_writes : OnlyTotals c
    unfolding report_timed_of
    report_writes = totals_written beside agrees tests given

    -- Without rays every pane's word is 0, and so are the tests.
    pub no_rays : rays_given c ≡ 0 → AllZero c × (tests ≡ 0)
    unfolding report_timed_of
    no_rays = without_rays beside agrees tests given

    -- Without panes every ray's word is 0.
    pub no_panes : c.panes ≡ 0 → AllZero c
    unfolding report_timed_of
    no_panes = without_panes beside agrees tests given

    -- Without nodes every word is 0, and so are the tests.
    pub no_nodes : node_count c.bytes ≡ 0 → AllZero c × (tests ≡ 0)
    unfolding report_timed_of
    no_nodes = without_nodes beside agrees tests given
