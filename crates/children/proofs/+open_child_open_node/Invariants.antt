-- A child that is opened falls from 2 · d + 1 to 2 · d, d being how many edges lie below it at most, and below each of its own children lie fewer.
use Prim.Native.Nat.{◌+◌, ◌*◌}
use Rattle.bvh2.specs.Tree.{depth}
use Rattle.children.specs.Branches.{subtree_of}
use Rattle.children.proofs.+open_child_open_node.Given as goal

abbrev pub decreases-open_child : goal.decreases-open_child
decreases-open_child l = 2 * depth (subtree_of l.branch) + 1

abbrev pub decreases-open_node : goal.decreases-open_node
decreases-open_node l = 2 * depth (subtree_of l.branch)
