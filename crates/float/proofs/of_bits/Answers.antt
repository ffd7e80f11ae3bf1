use lib.Ieee.{of_bits}
use Rattle.float.proofs.NanBits.{nan_pattern, no_nan_pattern}
use Rattle.float.proofs.of_bits.Goals as goal

pub returns-then-bits-gt2139095040 : goal.returns-then-bits-gt2139095040
unfolding of_bits
returns-then-bits-gt2139095040 c = nan_pattern c.args.bits c.if-bits-gt2139095040.true

pub float_from_bits-result : goal.float_from_bits-result
float_from_bits-result c = no_nan_pattern c.args.bits c.if-bits-gt2139095040.false
