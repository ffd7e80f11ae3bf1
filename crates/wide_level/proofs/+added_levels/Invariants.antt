-- The measure is how many edges lie below the branch at most.
use Rattle.bvh2.specs.Tree.{depth}
use Rattle.children.specs.Branches.{subtree_of}
use Rattle.wide_level.proofs.+added_levels.Given as goal

abbrev pub decreases-added_levels : goal.decreases-added_levels
decreases-added_levels l = depth (subtree_of l.branch)
