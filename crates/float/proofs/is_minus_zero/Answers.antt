use Rattle.float.specs.Compare.{is_minus_zero}
use Rattle.float.proofs.Sign.{negative_is}
use lib.Ieee.{of_bits}
use mathlib.Core.Path.{◌∙◌}
use Rattle.float.proofs.is_minus_zero.Goals as goal

pub returns-then-x : goal.returns-then-x
unfolding is_minus_zero of_bits
returns-then-x c = rw c.if-x.true (c.is_sign_negative.ensures ∙ negative_is c.args.x)

pub returns-else-x : goal.returns-else-x
unfolding is_minus_zero of_bits
returns-else-x c = rw c.if-x.false
