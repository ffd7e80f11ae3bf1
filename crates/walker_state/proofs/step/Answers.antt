use mathlib.Core.Path.{sym, ap, ◌∙◌}
use Rattle.walk.specs.WordStep.{SteppedWords}
use Rattle.walk_record.specs.WalkRay.{WalkRay}
use Rattle.traverse.specs.Walker.{step_bytes}
use Rattle.walker_state.proofs.Left.{kept, holds}
use Rattle.walker_state.proofs.step.Goals as goal

pub returns-then-refused-clause-leaves : goal.returns-then-refused-clause-leaves
returns-then-refused-clause-leaves c = kept _ _ _ (sym c.is_refused-refused.ensures ∙ c.if-refused.true)

pub returns-clause-leaves : goal.returns-clause-leaves
returns-clause-leaves c =
    let e = c.step-stepped.ensures ∙ ap (step_bytes _ _) c.walker_in.ensures in
    holds _ _ _ _ (sym c.is_refused-refused.ensures ∙ c.if-refused.false) (c.put_walker.ensures ∙ ap (λ (x : SteppedWords WalkRay). x.walker) e)
