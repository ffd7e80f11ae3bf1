-- The measure is the depth.
use Rattle.bvh2_check.proofs.+visit.Given as goal

abbrev pub decreases-visit : goal.decreases-visit
decreases-visit l = l.depth
