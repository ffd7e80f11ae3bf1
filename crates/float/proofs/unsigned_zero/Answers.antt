use lib.Ieee.{of_bits}
use Rattle.float.specs.Compare.{unsigned_zero}
use Rattle.float.proofs.unsigned_zero.Goals as goal

pub returns-then-x : goal.returns-then-x
unfolding unsigned_zero of_bits
returns-then-x c = rw c.if-x.true

pub returns-else-x : goal.returns-else-x
unfolding unsigned_zero of_bits
returns-else-x c = rw c.if-x.false
