use Rattle.std.proofs.Common.{◌≡◌, ℕ, true, false, length, sym, ap, subst, ◌∙◌}
use Rattle.causes.proofs.Refusals.{some_number}
use Rattle.ray.specs.Ray.{ray_from}
use Rattle.gate.specs.Gates.{all_open}
use Rattle.query.proofs.Entry.{own_cause_alike}
use Rattle.loss_walk.specs.Losses.{refused}
use Rattle.loss_walk.specs.Entry.{own_cause}
use Rattle.loss_walk.specs.Gated.{gated_loss, gated_loss_of}
use Rattle.loss_walk.proofs.Causes.{own_none}
use Rattle.timed.specs.Hours.{Timetable, gates_at}
use Rattle.timed_entry.specs.Entry.{timetable, timed_cause}
use Rattle.timed_entry.proofs.Begun.{timed_begun}
use Rattle.loss_timed.specs.Timed.{loss_timed_of}
use Rattle.loss_timed.proofs.loss_timed.Goals as goal

pub returns-in-Ok : goal.returns-in-Ok
unfolding loss_timed_of
returns-in-Ok c =
    let a = c.args in
    let given = timetable a.side.now a.indices.now a.panes a.spans.now a.quarter in
    c.loss.ensures
    ∙ ap (λ (h : Timetable). gated_loss_of (gates_at h) 0 a.«record».now a.indices.now a.panes a.losses.now (ray_from a.beam)) c.in-Ok.ensures.hours
    ∙ ap (λ (k : ℕ). gated_loss_of (gates_at given) k a.«record».now a.indices.now a.panes a.losses.now (ray_from a.beam)) c.in-Ok.ensures.value

pub returns-in-Err : goal.returns-in-Err
unfolding loss_timed_of
returns-in-Err c =
    let a = c.args in
    let given = timetable a.side.now a.indices.now a.panes a.spans.now a.quarter in
    let cause = c.in-Err.ensures.value in
    let unfit = timed_cause a.«record».now given in
    c.loss-in-Err.ensures
    ∙ ap (λ (k : ℕ). gated_loss_of all_open k a.«record».now a.indices.now a.panes a.losses.now (ray_from a.beam)) cause
    ∙ own_cause_alike refused true (length a.«record».now) (length a.indices.now) (own_cause a.panes a.losses.now unfit) (ray_from a.beam)
    (gated_loss all_open a.«record».now a.indices.now a.panes a.losses.now (ray_from a.beam))
    (gated_loss (gates_at given) a.«record».now a.indices.now a.panes a.losses.now (ray_from a.beam))
    (λ z. some_number c.in-Err.refusal (cause ∙ (own_none a.panes a.losses.now unfit z).1))

pub loss-requires : goal.loss-requires
loss-requires c z =
    subst (λ (h : Timetable). (gates_at h).forged ≡ false) (sym c.in-Ok.ensures.hours) (timed_begun c.args.«record».now _ (sym c.in-Ok.ensures.value))
