-- The measure is the depth.
use Rattle.cost.proofs.+calculate_cost.Given as goal

abbrev pub decreases-calculate_cost : goal.decreases-calculate_cost
decreases-calculate_cost l = l.depth
