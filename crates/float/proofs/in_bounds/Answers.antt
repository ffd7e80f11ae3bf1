use lib.Ieee.{of_bits, neg}
use Rattle.float.specs.Compare.{in_bounds}
use Rattle.float.proofs.in_bounds.Goals as goal

pub returns-then-x : goal.returns-then-x
unfolding in_bounds of_bits neg
returns-then-x c = rw c.if-x.true

pub returns-else-x : goal.returns-else-x
unfolding in_bounds of_bits neg
returns-else-x c = rw c.if-x.false
