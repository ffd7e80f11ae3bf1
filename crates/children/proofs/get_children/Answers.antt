use native.Mathlib.Omega.{arith}
use Rattle.children.proofs.Branches.{here, root_room}
use Rattle.children.proofs.Steps.{root_leaf}
use Rattle.children.proofs.get_children.Goals as goal

pub open_node-requires-clause-room : goal.open_node-requires-clause-room
open_node-requires-clause-room c = root_room c.args.branch

pub overflow_cast-found : goal.overflow_cast-found
overflow_cast-found c = omega (arith, (here c.args.branch).number)

pub returns-in-Position : goal.returns-in-Position
returns-in-Position c = λ limit h. root_leaf _ _ _ c.in-Position.ensures.says c.args.found.now (omega arith) limit
