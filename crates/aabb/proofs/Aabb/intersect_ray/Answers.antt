use Rattle.std.proofs.Common.{rules}
use lib.Ieee.{of_bits}
use Rattle.aabb.specs.Aabb.{entry_distance}
use Rattle.aabb.proofs.Aabb.intersect_ray.Goals as goal

pub returns-then-hit : goal.returns-then-hit
unfolding entry_distance of_bits
returns-then-hit c = search rules

pub returns-else-hit : goal.returns-else-hit
unfolding entry_distance of_bits
returns-else-hit c = search rules
