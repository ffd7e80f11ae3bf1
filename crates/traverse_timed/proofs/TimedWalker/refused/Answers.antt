use mathlib.Core.Path.{refl}
use Rattle.advance.specs.Turn.{step_answer}
use Rattle.traverse_timed.proofs.TimedWalker.refused.Goals as goal

pub returns : goal.returns
unfolding step_answer
returns c = refl
