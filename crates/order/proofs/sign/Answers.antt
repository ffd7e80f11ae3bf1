use borrow.Author.Tests.{eq-eqb, ne_eqb}
use lib.Ieee.{of_bits, neg}
use Rattle.order.specs.Order.{sign_of}
use Rattle.order.proofs.sign.Goals as goal

pub returns-then-bit-eq0 : goal.returns-then-bit-eq0
unfolding sign_of of_bits
returns-then-bit-eq0 c = simp (eq-eqb _ _ c.if-bit-eq0.true)

pub returns-else-bit-eq0 : goal.returns-else-bit-eq0
unfolding sign_of of_bits neg
returns-else-bit-eq0 c = simp (ne_eqb _ _ c.if-bit-eq0.false)
