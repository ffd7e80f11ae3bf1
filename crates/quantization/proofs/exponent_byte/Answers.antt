use Rattle.std.proofs.Common.{arith}
use Rattle.quantization.proofs.Exponent.{Scaled, scaled}
use Rattle.quantization.proofs.exponent_byte.Goals as goal
use Rattle.quantization.proofs.exponent_byte.Goals.{After-extent_scale-scale}

scale : (c : After-extent_scale-scale) → Scaled c.args.lo c.args.hi c.extent_scale-scale.result
scale c = scaled c.args.lo c.args.hi c.extent_scale-scale.result c.extent_scale-scale.ensures

pub float_to_bits-result : goal.float_to_bits-result
float_to_bits-result c = (scale c).no_nan

pub overflow_add-result : goal.overflow_add-result
overflow_add-result c = omega (arith, (scale c).limit)

pub overflow_cast-result : goal.overflow_cast-result
overflow_cast-result c = omega (arith, (scale c).limit)

pub returns : goal.returns
returns c = omega (arith, (scale c).is)
