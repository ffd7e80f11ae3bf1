-- `accept`: words of the right size, and marks enough.
use native.Mathlib.Omega.{arith}
use Rattle.measured.proofs.accept.Goals as goal

pub structure-requires : goal.structure-requires
structure-requires c = omega (arith, c.in_ok-tree.ensures.tree.1)
