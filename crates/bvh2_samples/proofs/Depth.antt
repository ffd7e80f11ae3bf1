-- A path of 127 edges is accepted, and one of 128 is not.
use mathlib.Core.Path.{◌≡◌, refl}
use lib.Ieee.{of_bits, le}
use Rattle.lists.specs.Below.{all_below}
use Rattle.lists.specs.Counts.{same, count}
use Rattle.float.specs.Compare.{in_bounds}
use Rattle.ray.specs.Ray.{bounded_vec}
use Rattle.aabb.specs.Aabb.{in_order, accepted_box}
use Rattle.bvh2.specs.Tree.{labels, positions}
use Rattle.bvh2.specs.Words.{link_of, box_at, read_link}
use Rattle.causes.specs.Causes.{first_cause}
use Rattle.bvh2.specs.FirstCause.{size_conditions, is_inside, is_position, is_whole, each_once, is_tree, structure_conditions, tree_cause}
use Rattle.bvh2_samples.specs.Trees.{chain}

-- the last leaves are 127 edges below the root
edges_127 : tree_cause (chain 127 0 0) 128 ≡ 0
unfolding of_bits le same count link_of box_at read_link labels positions all_below in_bounds bounded_vec in_order accepted_box size_conditions
    is_inside
    is_position is_whole each_once is_tree structure_conditions first_cause
edges_127 = refl

-- one more
edges_128 : tree_cause (chain 128 0 0) 129 ≡ 7
unfolding of_bits le same count link_of box_at read_link labels positions all_below in_bounds bounded_vec in_order accepted_box size_conditions
    is_inside
    is_position is_whole each_once is_tree structure_conditions first_cause
edges_128 = refl
