use lib.Ieee.{of_bits}
use Rattle.ray.proofs.below_zero.Goals as goal

pub returns-then-v : goal.returns-then-v
unfolding of_bits
returns-then-v c = rw c.if-v.true

pub returns-else-v : goal.returns-else-v
unfolding of_bits
returns-else-v c = rw c.if-v.false
