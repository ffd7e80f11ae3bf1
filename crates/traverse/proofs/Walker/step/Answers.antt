use mathlib.Core.Path.{sym, ◌∙◌}
use lib.ListN.{length}
use Rattle.causes.specs.Refusal.{cause_number}
use Rattle.causes.proofs.Refusals.{some_number}
use Rattle.causes.proofs.Sizes.{Fit, none_record}
use Rattle.advance.specs.Turn.{step_answer}
use Rattle.traverse.specs.Walker.{walker_words}
use Rattle.traverse.proofs.Steps.{no_error, step_sizes, step_fits}
use Rattle.traverse.proofs.Walker.step.Goals as goal
use Rattle.traverse.proofs.Walker.step.Goals.{In_default}

-- the sizes fit
fit : (c : In_default) → let a = c.args in Fit (length a.«record».now) a.n
fit c = none_record _ _ (sym c.record_sizes.ensures ∙ no_error _ c.in_default.not-Err)

pub returns-in-Err : goal.returns-in-Err
unfolding step_answer
returns-in-Err c =
    let a = c.args in
    step_sizes a.«record».now a.n (walker_words a.self) (cause_number c.in-Err.refusal) c.in-Err.ensures (some_number c.in-Err.refusal)

pub invariant_of-bvh : goal.invariant_of-bvh
invariant_of-bvh c = record { fit = fit (goal.at.invariant_of-bvh c).In_default }

pub returns : goal.returns
returns c =
    let a = c.args in
    c.step-t.ensures ∙ step_fits a.«record».now a.n (walker_words a.self) (fit (goal.at.returns c).In_default)
