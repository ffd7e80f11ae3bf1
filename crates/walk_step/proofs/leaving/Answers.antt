use Rattle.advance.specs.Turn.{walker_of}
use Rattle.walk_step.proofs.Parts.{left_refused, left_other}
use Rattle.walk_step.proofs.leaving.Goals as goal

pub returns-in-Refused : goal.returns-in-Refused
returns-in-Refused c =
    λ ray octant stack.
    left_refused (walker_of ray octant c.args.walk stack) (walker_of ray octant c.args.turn.walk stack) c.args.turn.answer c.in-Refused.is

pub returns-in_default : goal.returns-in_default
returns-in_default c =
    λ ray octant stack.
    left_other (walker_of ray octant c.args.walk stack) (walker_of ray octant c.args.turn.walk stack) c.args.turn.answer c.in_default.not-Refused
