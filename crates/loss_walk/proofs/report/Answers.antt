use Rattle.std.proofs.Common.{◌≡◌, length, ◌∙◌, rules}
use Rattle.causes.specs.Refusal.{cause_number, cause_in}
use Rattle.causes.proofs.Causes.{Passed}
use Rattle.causes.proofs.Refusals.{ok_none, err_number, some_number}
use Rattle.walk_record.proofs.Laws.{bytes_fit}
use Rattle.loss_walk.specs.Losses.{refused_report, totals_answer}
use Rattle.loss_walk.specs.Entry.{conditions_between}
use Rattle.loss_walk.specs.Charged.{RaysEntered, GatesEntered}
use Rattle.loss_walk.proofs.Causes.{Entering, none_entering, entry_passed, report_entry, report_fault, none_walks, report_totals}
use Rattle.loss_walk.proofs.report.Goals as goal
use Rattle.loss_walk.proofs.report.Goals.{In_ok-check_report}

module _ (g : _) (c : In_ok-check_report g) where
  entering : let a = c.args in
      Entering a.fits (cause_in a.between) a.«record».now a.indices.now a.panes a.losses.now a.rays.now (length a.ray_totals.now)
      (length a.pane_totals.now)
  entering = none_entering _ _ _ _ _ _ _ _ _ (ok_none c.in_ok-check_report.was c.check_report.ensures)

  passed : let a = c.args in
      Passed (conditions_between a.fits (cause_in a.between) a.«record».now a.indices.now a.panes a.losses.now a.rays.now (length a.ray_totals.now)
      (length a.pane_totals.now))
  passed = entry_passed _ _ _ _ _ _ _ _ _ (ok_none c.in_ok-check_report.was c.check_report.ensures)

  -- nothing keeps the rays from their walks
  rays_enter : RaysEntered c.args.rays.now × GatesEntered (g.W.Walks.gates c.args.walks) (g.W.Walks.listed c.args.walks) c.args.rays.now
  rays_enter = (entering.entered, c.requires entering.others entering.none)

pub returns-in_err-check_report : goal.returns-in_err-check_report
unfolding totals_answer
returns-in_err-check_report g c =
    let f = c.in_err-check_report.field-0.0 in
    let own : totals_answer c.from_residual.result ≡ refused_report (cause_number f) = search rules in
    rw own (report_entry _ _ _ _ _ _ _ _ _ (cause_number f) (err_number c.in_err-check_report.was c.check_report.ensures) (some_number f))

pub invariant_of-scene : goal.invariant_of-scene
invariant_of-scene g c =
    let h = entering g (goal.at.invariant_of-scene g c).In_ok-check_report in
    record { sizes = h.sizes; fitting = h.fitting; fields = bytes_fit _ (λ j. (c.type_inv.record j).fits) }

pub check_walks-requires : goal.check_walks-requires
check_walks-requires g c = rays_enter g (goal.at.check_walks-requires g c).In_ok-check_report

pub returns-in_err-check_walks : goal.returns-in_err-check_walks
unfolding totals_answer
returns-in_err-check_walks g c =
    let f = c.in_err-check_walks.field-0.0 in
    let own : totals_answer c.from_residual-in_err-check_walks.result ≡ refused_report (cause_number f) = search rules in
    rw own (report_fault _ _ _ _ _ _ _ _ _ (passed g (goal.at.returns-in_err-check_walks g c).In_ok-check_report) (cause_number f)
    (err_number c.in_err-check_walks.was c.check_walks.ensures) (some_number f))

pub total-tests-requires : goal.total-tests-requires
total-tests-requires g c =
    let k = (goal.at.total-tests-requires g c).In_ok-check_report in
    let h = entering g k in
    record {
      entered = rays_enter g k;
      rays_in_bounds = (h.ray_room, h.pane_room, none_walks _ _ _ _ _ _ (ok_none c.in_ok-check_walks.was c.check_walks.ensures));
    }

pub returns : goal.returns
unfolding totals_answer
returns g c =
    c.total-tests.ensures
    ∙ report_totals _ _ _ _ _ _ _ _ _ (passed g (goal.at.returns g c).In_ok-check_report) (ok_none c.in_ok-check_walks.was c.check_walks.ensures)
