use Rattle.std.proofs.Common.{ℕ, not, length, ap, ◌∙◌, arith}
use lib.Dec.{eqb}
use borrow.Author.Tests.{eqb-true}
use Rattle.causes.proofs.Refusals.{some_number}
use Rattle.causes.specs.Causes.{first_cause}
use Rattle.packed.specs.Packed.{ray_count}
use Rattle.gate.specs.Gates.{Gates, all_open}
use Rattle.loss_walk.specs.Losses.{Report}
use Rattle.loss_walk.specs.Gated.{gated_report_of}
use Rattle.loss_walk.proofs.Causes.{own_report_alike}
use Rattle.timed.specs.Hours.{Timetable}
use Rattle.timed_entry.specs.Entry.{timetable}
use Rattle.loss_timed.specs.Timed.{gates_by, hours_conditions, report_timed_of}
use Rattle.loss_timed.proofs.Hours.{quarters_entered}
use Rattle.loss_timed.proofs.report_timed.Goals as goal

pub report-requires : goal.report-requires
report-requires c e z =
    let a = c.args in
    let same = eqb-true _ _ e in
    record {
      listed = λ i h. omega (arith, h, same);
      begun = λ i h.
          ap not (quarters_entered a.«record».now a.side.now a.indices.now a.panes a.spans.now a.quarters.now c.in-Ok.ensures.value i
          (omega (arith, h, same)));
    }

pub returns-in-Ok : goal.returns-in-Ok
unfolding report_timed_of
returns-in-Ok c =
    let a = c.args in
    let fits = eqb (length a.quarters.now) (ray_count a.rays.now) in
    let by : (ℕ → Gates) → ℕ → Report = λ gates k.
    gated_report_of gates a.«record».now a.indices.now a.panes a.losses.now a.rays.now fits k a.ray_totals.now a.pane_totals.now in
    let given = timetable a.side.now a.indices.now a.panes a.spans.now 0 in
    c.report.ensures ∙ ap (λ (h : Timetable). by (gates_by h a.quarters.now) 0) c.in-Ok.ensures.hours
    ∙ ap (by (gates_by given a.quarters.now)) c.in-Ok.ensures.value

pub returns-in-Err : goal.returns-in-Err
unfolding report_timed_of
returns-in-Err c =
    let a = c.args in
    let fits = eqb (length a.quarters.now) (ray_count a.rays.now) in
    let untimed : ℕ → Gates = λ i. all_open in
    let given = timetable a.side.now a.indices.now a.panes a.spans.now 0 in
    let cause = c.in-Err.ensures.value in
    c.report-in-Err.ensures
    ∙ ap (λ (k : ℕ). gated_report_of untimed a.«record».now a.indices.now a.panes a.losses.now a.rays.now fits k a.ray_totals.now
    a.pane_totals.now) cause
    ∙ own_report_alike (gates_by given a.quarters.now) untimed a.«record».now a.indices.now a.panes a.losses.now a.rays.now fits
    (first_cause (hours_conditions a.«record».now given a.quarters.now)) (λ y. some_number c.in-Err.refusal (cause ∙ y)) a.ray_totals.now
    a.pane_totals.now
