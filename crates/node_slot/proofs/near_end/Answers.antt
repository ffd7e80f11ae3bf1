use lib.Ieee.{of_bits}
use native.Mathlib.Omega.{arith}
use Rattle.node_slot.proofs.near_end.Goals as goal

pub returns-then-direction : goal.returns-then-direction
unfolding of_bits
returns-then-direction c = (rw c.if-direction.true, omega arith)

pub returns-else-direction : goal.returns-else-direction
unfolding of_bits
returns-else-direction c = (rw c.if-direction.false, omega arith)
