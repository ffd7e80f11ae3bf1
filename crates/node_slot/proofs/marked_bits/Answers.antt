use mathlib.Core.Path.{refl}
use Rattle.words.specs.Ors.{or_of}
use Rattle.node_slot.specs.Parts.{word_mask}
use Rattle.node_slot.proofs.Masks.{place_lt, turn}
use Rattle.node_slot.proofs.marked_bits.Goals as goal

pub loop-k-init : goal.loop-k-init
unfolding word_mask or_of
loop-k-init c = refl

pub loop-k-preserved : goal.loop-k-preserved
loop-k-preserved c =
    let l = c.loop-k in
    turn _ _ l.k l.mask c.low_byte.result c.low_byte-in-loop-k.result l.invariant c.low_byte.ensures c.low_byte-in-loop-k.ensures

pub overflow_shl-mask : goal.overflow_shl-mask
overflow_shl-mask c = place_lt _ _ _ c.requires c.loop-k-test.true c.low_byte-in-loop-k.ensures
