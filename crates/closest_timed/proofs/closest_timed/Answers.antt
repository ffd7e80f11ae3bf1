use Rattle.std.proofs.Common.{length, ◌%◌, sym, ap, subst, ◌∙◌, false, ◌≡◌}
use lib.Dec.{eqb}
use Rattle.causes.proofs.Refusals.{some_number}
use Rattle.ray.specs.Ray.{ray_from}
use Rattle.gate.specs.Gates.{all_open}
use Rattle.query.proofs.Entry.{own_cause_alike}
use Rattle.pane_walk.specs.Panes.{refused_closest, gated_closest_walked, gated_closest}
use Rattle.timed.specs.Hours.{Timetable, gates_at}
use Rattle.timed_entry.specs.Entry.{timed_cause}
use Rattle.timed_entry.proofs.Begun.{timed_begun}
use Rattle.closest_timed.specs.Timed.{pane_timetable, closest_timed_of}
use Rattle.closest_timed.proofs.closest_timed.Goals as goal

pub returns-in-Ok : goal.returns-in-Ok
unfolding closest_timed_of
returns-in-Ok c =
    let a = c.args in
    let given = pane_timetable a.side.now a.indices.now a.panes.now a.spans.now a.quarter in
    c.closest.ensures
    ∙ ap (λ (h : Timetable). gated_closest (gates_at h) a.«record».now a.indices.now a.panes.now (ray_from a.beam) 0) c.in-Ok.ensures.hours
    ∙ ap (gated_closest (gates_at given) a.«record».now a.indices.now a.panes.now (ray_from a.beam)) c.in-Ok.ensures.value

pub returns-in-Err : goal.returns-in-Err
unfolding closest_timed_of
returns-in-Err c =
    let a = c.args in
    let given = pane_timetable a.side.now a.indices.now a.panes.now a.spans.now a.quarter in
    let cause = c.in-Err.ensures.value in
    c.closest-in-Err.ensures ∙ ap (gated_closest all_open a.«record».now a.indices.now a.panes.now (ray_from a.beam)) cause
    ∙ own_cause_alike refused_closest (eqb (length a.panes.now % 6) 0) (length a.«record».now) (length a.indices.now)
    (timed_cause a.«record».now given) (ray_from a.beam)
    (gated_closest_walked all_open a.«record».now a.indices.now a.panes.now (ray_from a.beam))
    (gated_closest_walked (gates_at given) a.«record».now a.indices.now a.panes.now (ray_from a.beam))
    (λ z. some_number c.in-Err.refusal (cause ∙ z))

pub closest-requires : goal.closest-requires
closest-requires c z =
    subst (λ (h : Timetable). (gates_at h).forged ≡ false) (sym c.in-Ok.ensures.hours) (timed_begun c.args.«record».now _ (sym c.in-Ok.ensures.value))
