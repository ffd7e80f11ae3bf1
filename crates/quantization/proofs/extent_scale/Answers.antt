use lib.Ieee.{div, round, of_bits}
use Rattle.quantization.specs.Exponent.{extent_scale}
use Rattle.quantization.proofs.extent_scale.Goals as goal

pub returns : goal.returns
unfolding extent_scale of_bits div round
returns c = rw c.max.ensures
