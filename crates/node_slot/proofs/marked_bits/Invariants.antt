use mathlib.Core.Path.{◌≡◌}
use lib.Bits.{bit_and}
use Rattle.node_slot.specs.Parts.{word_mask}
use Rattle.node_slot.proofs.marked_bits.Given as goal

abbrev pub invariant-loop-k : goal.invariant-loop-k
invariant-loop-k l = l.mask ≡ word_mask l.k (bit_and l.child8 l.marks) l.index8
