use mathlib.Core.Path.{refl}
use Rattle.order.specs.Order.{dot_of}
use Rattle.order.proofs.dot.Goals as goal

pub returns : goal.returns
unfolding dot_of
returns c = refl
