use native.Mathlib.Omega.{arith}
use Rattle.aabb.proofs.Union.{corners_bounded}
use Rattle.tree_words.proofs.Writing.{node_written}
use Rattle.tree_words.proofs.put_node.Goals as goal

pub put_corner-requires : goal.put_corner-requires
put_corner-requires c = (omega (arith, c.requires.0), (corners_bounded _ c.requires.1).0)

pub put_corner-requires-2 : goal.put_corner-requires-2
put_corner-requires-2 c =
    (rw c.put_corner.auto.words (omega (arith, c.requires.0)), (corners_bounded _ c.requires.1).1)

pub returns : goal.returns
returns c =
    node_written _ _ _ _ _ _ c.requires.0 c.put_corner.ensures c.put_corner-2.ensures
