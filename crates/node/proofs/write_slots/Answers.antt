use mathlib.Core.Path.{refl}
use Rattle.node.specs.Node.{put_slots}
use Rattle.node.proofs.Offsets.{puts_next}
use Rattle.node.proofs.write_slots.Goals as goal

pub loop-k-init : goal.loop-k-init
unfolding put_slots
loop-k-init c = refl

pub loop-k-preserved : goal.loop-k-preserved
loop-k-preserved c = puts_next _ _ _ _ _ _ c.loop-k.invariant c.write_slot.ensures
