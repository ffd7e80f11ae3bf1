-- A report over many rays (02, [3]): its totals by the rays' own calls and by the positions met, that the two ways of adding up agree, what refuses
-- it once its walks begin, and what it leaves of its slices. It is one beside gates that are all open.
use mathlib.Core.Bool.{true}
use mathlib.Core.List.{List}
use mathlib.Core.Logic.{◌↔◌}
use mathlib.Core.Path.{◌≡◌, refl, sym, ap, ◌∙◌, subst, fun_ext}
use Prim.Native.Nat.{ℕ, ◌+◌, ◌*◌, ◌≤◌, ◌<◌}
use native.Mathlib.Omega.{arith}
use lib.ListN.{length, get_or}
use Rattle.lists.specs.Sums.{sum}
use Rattle.causes.specs.Causes.{first_cause}
use Rattle.packed.specs.Packed.{ray_in}
use Rattle.record_shape.specs.Record.{node_count}
use Rattle.query.specs.Result.{Result}
use Rattle.any_hit.specs.AnyHit.{list_after}
use Rattle.loss.specs.Loss.{LossAnswer, refused_report, totalled, Report, every_open}
use Rattle.loss.proofs.Causes.{loss_alone, report_alone, entry_alone}
use Rattle.demands.specs.Sums.{SumsOwn, FirstRefused, SlicesStay, WritesTotals, ZeroTotals}
use Rattle.demands.specs.Loss.{LossCall, ReportCall, loss_for, report_for, met, times_named, Reports, rays_given, single, ray_word, pane_word}
use Rattle.demands.specs.Loss.{Room, listed_in, RayTotals, UnrefusedOnEntry, FirstFault, LeftAlone, OnlyTotals, AllZero}
use Rattle.demands.proofs.GatedReport as G
use Rattle.demands.proofs.GatedReport.{ReportBeside, Agrees, asked, own, on_entry}
use Rattle.demands.proofs.Loss.{loss_most}
use Rattle.gate.specs.Gates.{all_open}
use Rattle.loss_walk.proofs.Faults.{Faultless}

-- the walk of a call of `loss` has no fault
abbrev pub NoFault : LossCall → Type 0
NoFault c = Faultless all_open c.bytes c.indices c.panes c.losses c.ray

module _ (c : ReportCall) where
  -- as a report beside gates that are all open, with no causes of its own
  abbrev pub beside : ReportBeside
  beside = record {
    gates = every_open;
    fits = true;
    between = 0;
    betweens = λ i. 0;
    bytes = c.bytes;
    indices = c.indices;
    panes = c.panes;
    losses = c.losses;
    rays = c.rays;
    ray_totals = c.ray_totals;
    pane_totals = c.pane_totals;
  }

  pub agrees : Agrees beside
  agrees = record { none = λ e i h. refl; begun = λ e i h. refl }

  pub alone : asked beside ≡ report_for c
  alone = report_alone c.bytes c.indices c.panes c.losses c.rays c.ray_totals c.pane_totals

  own_alone : own beside ≡ (λ i. loss_for (single c i))
  own_alone = fun_ext (λ i. loss_alone c.bytes c.indices c.panes c.losses (ray_in c.rays i))

  answered : (asked beside).answer ≡ (report_for c).answer
  answered = ap (λ (r : Report). r.answer) alone

  -- ---- refusals

  -- A refusal leaves both slices as they were.
  pub report_refused_leaves : (k : ℕ) → (report_for c).answer ≡ refused_report k → LeftAlone c
  report_refused_leaves k e =
      subst (λ (r : Report). SlicesStay r c.ray_totals c.pane_totals) alone (G.refused_leaves beside k (answered ∙ e))

  module _ (none : UnrefusedOnEntry c) where
    unrefused : first_cause (on_entry beside) ≡ 0
    unrefused = entry_alone c.bytes c.indices c.panes c.losses c.rays (length c.ray_totals) (length c.pane_totals) ∙ none

    -- where no walk has a fault it gives totals
    pub faultless_totals : ((i : ℕ) → i < rays_given c → NoFault (single c i)) → (tests : ℕ) × Reports c tests
    faultless_totals f = let t = G.faultless_totals beside agrees unrefused f in (t.0, sym answered ∙ t.1)

    -- Where no cause of 1, 2, 4, 12 and 9 holds, the number of a ray's fault is 10,
    pub fault_number : (k : ℕ) → FirstFault c k → k ≡ 10
    fault_number =
        subst (λ (f : ℕ → Result LossAnswer). (k : ℕ) → FirstRefused (rays_given c) f k → k ≡ 10) own_alone
        (G.refused_number beside agrees unrefused)

    -- and a report is refused exactly if the own call of some ray is, with the number of the first such ray.
    pub report_fault : (k : ℕ) → (report_for c).answer ≡ refused_report k ↔ FirstFault c k
    report_fault =
        subst (λ (f : ℕ → Result LossAnswer). (k : ℕ) → (report_for c).answer ≡ refused_report k ↔ FirstRefused (rays_given c) f k) own_alone
        (subst (λ (r : Report). (k : ℕ) → r.answer ≡ refused_report k ↔ FirstRefused (rays_given c) (own beside) k) alone
        (G.refused_fault beside agrees unrefused))

  -- ---- totals

  module _ (tests : ℕ) (given : Reports c tests) where
    gives : (asked beside).answer ≡ totalled tests
    gives = answered ∙ given

    -- Each ray's word is the loss of its own call, and the tests are those of all these calls.
    pub ray_total_lem : RayTotals c tests
    ray_total_lem =
        subst (λ (f : ℕ → Result LossAnswer). SumsOwn (rays_given c) f (report_for c) tests) own_alone
        (subst (λ (r : Report). SumsOwn (rays_given c) (own beside) r tests) alone (G.totals_own beside agrees tests gives))

    -- Each pane's word is its loss as often as the positions that the rays meet are its own.
    pub pane_total_lem : (k : ℕ) → k < c.panes → pane_word c k
        ≡ sum (λ i. times_named (single c i) (met (single c i)) k) (rays_given c) * get_or c.losses k 0
    pane_total_lem k h = sym (ap (λ (r : Report). get_or r.pane_totals k 0) alone) ∙ G.totals_panes beside agrees tests gives k h

    -- These are the positions that the any-hit call of each ray lists, lent a list with room for them.
    pub pane_total_listed : (before : ℕ → List ℕ) → ((i : ℕ) → i < rays_given c → Room (single c i) (before i)) → (k : ℕ) → k < c.panes
        → pane_word c k ≡ sum (λ i. times_named (single c i) (listed_in (single c i) (before i)) k) (rays_given c) * get_or c.losses k 0
    unfolding list_after
    pane_total_listed before room k h =
        sym (ap (λ (r : Report). get_or r.pane_totals k 0) alone) ∙ G.totals_listed beside agrees tests gives before room k h

    -- The totals of all rays and those of all panes come to the same.
    pub totals_agree : sum (ray_word c) (rays_given c) ≡ sum (pane_word c) c.panes
    totals_agree =
        subst (λ (r : Report). sum (λ i. get_or r.ray_totals i 0) (rays_given c) ≡ sum (λ k. get_or r.pane_totals k 0) c.panes) alone
        (G.totals_alike beside agrees tests gives)

    -- On any bytes a ray's word is at most 25 losses of 1,000,000 to each node, and one.
    pub ray_total_most : (i : ℕ) → i < rays_given c → ray_word c i ≤ (25 * node_count c.bytes + 1) * 1000000
    ray_total_most i h = loss_most (single c i) (ray_word c i) (ray_total_lem.words i h)

    -- Where no ray meets more positions than there are its word is at most 1,000,000 for each.
    pub ray_words_few : ((i : ℕ) → i < rays_given c → length (met (single c i)) ≤ length c.indices) → (i : ℕ) → i < rays_given c
        → ray_word c i ≤ length c.indices * 1000000
    ray_words_few few i h =
        omega (arith, ap (λ (r : Report). get_or r.ray_totals i 0) alone, G.words_most beside agrees tests gives few i h)

    -- Only the words of rays and of panes change.
    pub report_writes : OnlyTotals c
    report_writes =
        subst (λ (r : Report). WritesTotals r c.ray_totals c.pane_totals (rays_given c) c.panes) alone (G.totals_written beside agrees tests gives)

    -- ---- nothing to add up

    as_zero : ZeroTotals (asked beside) (rays_given c) c.panes → AllZero c
    as_zero = subst (λ (r : Report). ZeroTotals r (rays_given c) c.panes) alone

    -- Without rays every pane's word is 0, and so are the tests.
    pub no_rays : rays_given c ≡ 0 → AllZero c × (tests ≡ 0)
    no_rays z = let w = G.without_rays beside agrees tests gives z in (as_zero w.0, w.1)

    -- Without panes every ray's word is 0.
    pub no_panes : c.panes ≡ 0 → AllZero c
    no_panes z = as_zero (G.without_panes beside agrees tests gives z)

    -- Without nodes every word is 0, and so are the tests.
    pub no_nodes : node_count c.bytes ≡ 0 → AllZero c × (tests ≡ 0)
    no_nodes z = let w = G.without_nodes beside agrees tests gives z in (as_zero w.0, w.1)
