use Rattle.order.specs.Order.{direction_of}
use Rattle.order.proofs.direction.Goals as goal

pub returns : goal.returns
unfolding direction_of
returns c = rw (c.sign-3.ensures, c.sign-2.ensures, c.sign.ensures)
