-- The measure is how many edges lie below node v at most; the steps down and up are in proofs/LeafSteps.
use Rattle.bvh2.specs.Tree.{depth}
use Rattle.children.specs.Tabled.{subtree_at}
use Rattle.emit.proofs.+write_leaves.Given as goal

abbrev pub decreases-write_leaves : goal.decreases-write_leaves
decreases-write_leaves l = depth (subtree_at l.words.now l.v)
