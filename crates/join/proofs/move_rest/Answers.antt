use mathlib.Core.Path.{sym}
use native.Mathlib.Omega.{arith}
use Rattle.lists.proofs.Splice.{splice_none}
use Rattle.tree_words.specs.Nodes.{in_turn}
use Rattle.join.proofs.Moving.{rest_next}
use Rattle.join.proofs.move_rest.Goals as goal

pub loop-v-init : goal.loop-v-init
unfolding in_turn
loop-v-init c = sym (splice_none _ _)

pub loop-v-preserved : goal.loop-v-preserved
loop-v-preserved c =
    rest_next _ _ _ _ _ c.loop-v.v (omega arith) c.loop-v.invariant _ (omega (arith, c.requires.1)) c.move_node.ensures
