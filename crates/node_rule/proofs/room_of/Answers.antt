use Rattle.node_rule.proofs.Slots.{room_is}
use Rattle.node_rule.proofs.room_of.Goals as goal

pub returns : goal.returns
returns c = rw (c.min.ensures, c.saturating_sub-left.ensures) (room_is _ _)
