use mathlib.Core.Path.{refl}
use Rattle.advance.specs.Turn.{step_answer}
use Rattle.walk_step.proofs.fault.Goals as goal

pub returns : goal.returns
unfolding step_answer
returns c = λ ray octant stack. refl
