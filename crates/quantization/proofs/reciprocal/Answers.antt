use lib.Ieee.{of_bits}
use Rattle.quantization.specs.Ends.{reciprocal_of}
use Rattle.quantization.proofs.reciprocal.Goals as goal

pub returns : goal.returns
unfolding reciprocal_of of_bits
returns c = rw c.scale.ensures
