use mathlib.Core.Path.{ap}
use Rattle.walk_record.specs.Walk.{step_at}
use Rattle.traverse_timed.specs.Walker.{at_quarter}
use Rattle.traverse_timed.proofs.TimedWalker.step_on.Goals as goal

pub returns : goal.returns
unfolding step_at
returns g c = ap (at_quarter c.args.self.quarter) c.step-t.ensures
