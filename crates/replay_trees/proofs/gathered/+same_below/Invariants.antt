-- `same_below`: the measure is how many edges lie below the branch at most.
use Rattle.bvh2.specs.Tree.{depth}
use Rattle.children.specs.Branches.{subtree_of}
use Rattle.replay_trees.proofs.gathered.+same_below.Given as goal

abbrev pub decreases-same_below : goal.decreases-same_below
decreases-same_below l = depth (subtree_of l.branch)
