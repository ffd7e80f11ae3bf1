use Rattle.order.specs.Scan.{cheaper}
use Rattle.order.proofs.cheaper_of.Goals as goal

pub returns-then-b-a : goal.returns-then-b-a
unfolding cheaper
returns-then-b-a c = simp c.if-b-a.true

pub returns : goal.returns
unfolding cheaper
returns c = simp c.if-b-a.false
