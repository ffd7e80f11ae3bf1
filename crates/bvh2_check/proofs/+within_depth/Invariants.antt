-- The measure is the depth.
use Rattle.bvh2_check.proofs.+within_depth.Given as goal

abbrev pub decreases-within_depth : goal.decreases-within_depth
decreases-within_depth l = l.depth
