use Rattle.std.proofs.Common.{length, sym, ap, ◌∙◌}
use Rattle.causes.specs.Refusal.{cause_number}
use Rattle.causes.proofs.Refusals.{some_number}
use Rattle.causes.proofs.Sizes.{Fit, none_record}
use Rattle.traverse.specs.Walker.{walker_words}
use Rattle.traverse.proofs.Steps.{no_error}
use Rattle.traverse_timed.specs.Walker.{at_quarter}
use Rattle.traverse_timed.proofs.Steps.{over_sizes, over_lists, over_steps}
use Rattle.traverse_timed.proofs.TimedWalker.step.Goals as goal
use Rattle.traverse_timed.proofs.TimedWalker.step.Goals.{In_default}

-- the sizes fit
fit : (c : In_default) → let a = c.args in Fit (length a.«record».now) (length a.indices.now)
fit c = none_record _ _ (sym c.record_sizes.ensures ∙ no_error _ c.in_default.not-Err)

pub returns-in-Err : goal.returns-in-Err
returns-in-Err c =
    let a = c.args in
    c.refused.ensures
    ∙ ap (at_quarter a.self.quarter)
    (over_sizes a.«record».now a.side.now a.indices.now a.panes a.spans.now a.self.quarter (walker_words a.self.walker)
    (cause_number c.in-Err.refusal) c.in-Err.ensures (some_number c.in-Err.refusal))

pub invariant_of-bvh : goal.invariant_of-bvh
invariant_of-bvh c = record { fit = fit (goal.at.invariant_of-bvh c).In_default }

pub returns-in-Ok : goal.returns-in-Ok
returns-in-Ok c =
    let a = c.args in
    c.step_on.ensures
    ∙ ap (at_quarter a.self.quarter)
    (over_steps a.«record».now a.side.now a.indices.now a.panes a.spans.now a.self.quarter (walker_words a.self.walker)
    (fit (goal.at.returns-in-Ok c).In_default) c.in-Ok.ensures.value)

pub returns-in-Err-hours_of : goal.returns-in-Err-hours_of
returns-in-Err-hours_of c =
    let a = c.args in
    c.refused-in-Err-hours_of.ensures
    ∙ ap (at_quarter a.self.quarter)
    (over_lists a.«record».now a.side.now a.indices.now a.panes a.spans.now a.self.quarter (walker_words a.self.walker)
    (fit (goal.at.returns-in-Err-hours_of c).In_default) (cause_number c.in-Err-hours_of.refusal) c.in-Err-hours_of.ensures.value
    (some_number c.in-Err-hours_of.refusal))
