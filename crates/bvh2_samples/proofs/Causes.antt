-- Each cause of a tree alone, and the lower number where two hold.
use mathlib.Core.Path.{◌≡◌, refl}
use mathlib.Core.List.{[], ◌∷◌}
use lib.Ieee.{of_bits, le}
use Rattle.lists.specs.Below.{all_below}
use Rattle.lists.specs.Counts.{same, count}
use Rattle.float.specs.Compare.{in_bounds}
use Rattle.ray.specs.Ray.{bounded_vec}
use Rattle.aabb.specs.Aabb.{in_order, accepted_box}
use Rattle.bvh2.specs.Tree.{labels, positions}
use Rattle.bvh2.specs.Words.{link_of, box_at, read_link}
use Rattle.causes.specs.Causes.{first_cause}
use Rattle.bvh2.specs.FirstCause.{sizes_cause, size_conditions, is_inside, is_position, is_whole, each_once, is_tree, structure_conditions}
use Rattle.bvh2.specs.FirstCause.{tree_cause}
use Rattle.bvh2_samples.specs.Trees.{node, tip, inverted}

-- no leaves and no words
none : tree_cause ([]) 0 ≡ 0
unfolding of_bits le same count link_of box_at read_link labels positions all_below in_bounds bounded_vec in_order accepted_box size_conditions
    is_inside
    is_position is_whole each_once is_tree structure_conditions first_cause
none = refl

-- one leaf
one_leaf : tree_cause (tip 0 []) 1 ≡ 0
unfolding of_bits le same count link_of box_at read_link labels positions all_below in_bounds bounded_vec in_order accepted_box size_conditions
    is_inside
    is_position is_whole each_once is_tree structure_conditions first_cause
one_leaf = refl

-- two leaves, positions the other way round
two-leaves : tree_cause (node 1 (tip 1 (tip 0 []))) 2 ≡ 0
unfolding of_bits le same count link_of box_at read_link labels positions all_below in_bounds bounded_vec in_order accepted_box size_conditions
    is_inside
    is_position is_whole each_once is_tree structure_conditions first_cause
two-leaves = refl

-- one word too many
word_over : tree_cause (node 1 (tip 1 (tip 0 (0 ∷ [])))) 2 ≡ 1
unfolding of_bits le same count link_of box_at read_link labels positions all_below in_bounds bounded_vec in_order accepted_box size_conditions
    is_inside
    is_position is_whole each_once is_tree structure_conditions first_cause
word_over = refl

-- a node though there are no leaves
node_over : tree_cause (tip 0 []) 0 ≡ 1
unfolding of_bits le same count link_of box_at read_link labels positions all_below in_bounds bounded_vec in_order accepted_box size_conditions
    is_inside
    is_position is_whole each_once is_tree structure_conditions first_cause
node_over = refl

-- a link of kind 2
kind_2 : tree_cause (node 1 (node 0x8000_0000 (tip 0 []))) 2 ≡ 5
unfolding of_bits le same count link_of box_at read_link labels positions all_below in_bounds bounded_vec in_order accepted_box size_conditions
    is_inside
    is_position is_whole each_once is_tree structure_conditions first_cause
kind_2 = refl

-- a link of kind 3
kind_3 : tree_cause (node 1 (node 0xc000_0000 (tip 0 []))) 2 ≡ 5
unfolding of_bits le same count link_of box_at read_link labels positions all_below in_bounds bounded_vec in_order accepted_box size_conditions
    is_inside
    is_position is_whole each_once is_tree structure_conditions first_cause
kind_3 = refl

-- the second child lies beyond the tree
second_beyond : tree_cause (node 2 (tip 1 (tip 0 []))) 2 ≡ 5
unfolding of_bits le same count link_of box_at read_link labels positions all_below in_bounds bounded_vec in_order accepted_box size_conditions
    is_inside
    is_position is_whole each_once is_tree structure_conditions first_cause
second_beyond = refl

-- a position beyond the list
position_beyond : tree_cause (node 1 (tip 2 (tip 0 []))) 2 ≡ 5
unfolding of_bits le same count link_of box_at read_link labels positions all_below in_bounds bounded_vec in_order accepted_box size_conditions
    is_inside
    is_position is_whole each_once is_tree structure_conditions first_cause
position_beyond = refl

-- a box with min over max
min_over_max : tree_cause (node 1 (tip 1 (inverted 0x4000_0000 []))) 2 ≡ 6
unfolding of_bits le same count link_of box_at read_link labels positions all_below in_bounds bounded_vec in_order accepted_box size_conditions
    is_inside
    is_position is_whole each_once is_tree structure_conditions first_cause
min_over_max = refl

-- nodes 1 and 2 have the same children
shared : tree_cause (node 1 (node 3 (node 3 (tip 0 (tip 1 []))))) 3 ≡ 7
unfolding of_bits le same count link_of box_at read_link labels positions all_below in_bounds bounded_vec in_order accepted_box size_conditions
    is_inside
    is_position is_whole each_once is_tree structure_conditions first_cause
shared = refl

-- the root is its own first child
own_child : tree_cause (node 0 (tip 0 (tip 1 []))) 2 ≡ 7
unfolding of_bits le same count link_of box_at read_link labels positions all_below in_bounds bounded_vec in_order accepted_box size_conditions
    is_inside
    is_position is_whole each_once is_tree structure_conditions first_cause
own_child = refl

-- node 0 is a leaf; nodes 1 to 4 have one parent each, and none is reached
unreached : tree_cause (tip 0 (node 1 (node 3 (tip 1 (tip 2 []))))) 3 ≡ 7
unfolding of_bits le same count link_of box_at read_link labels positions all_below in_bounds bounded_vec in_order accepted_box size_conditions
    is_inside
    is_position is_whole each_once is_tree structure_conditions first_cause
unreached = refl

-- both leaves hold position 0
held_twice : tree_cause (node 1 (tip 0 (tip 0 []))) 2 ≡ 7
unfolding of_bits le same count link_of box_at read_link labels positions all_below in_bounds bounded_vec in_order accepted_box size_conditions
    is_inside
    is_position is_whole each_once is_tree structure_conditions first_cause
held_twice = refl

-- a box of cause 6 before a link of cause 5
box_then_link : tree_cause (node 1 (inverted 0x4000_0000 (tip 2 []))) 2 ≡ 5
unfolding of_bits le same count link_of box_at read_link labels positions all_below in_bounds bounded_vec in_order accepted_box size_conditions
    is_inside
    is_position is_whole each_once is_tree structure_conditions first_cause
box_then_link = refl

-- a link of cause 5 at a node that nothing reaches
unreached_link : tree_cause (tip 0 (tip 1 (node 9 []))) 2 ≡ 5
unfolding of_bits le same count link_of box_at read_link labels positions all_below in_bounds bounded_vec in_order accepted_box size_conditions
    is_inside
    is_position is_whole each_once is_tree structure_conditions first_cause
unreached_link = refl

-- a box of cause 6 at a node that nothing reaches
unreached_box : tree_cause (tip 0 (tip 1 (inverted 0x4000_0000 []))) 2 ≡ 6
unfolding of_bits le same count link_of box_at read_link labels positions all_below in_bounds bounded_vec in_order accepted_box size_conditions
    is_inside
    is_position is_whole each_once is_tree structure_conditions first_cause
unreached_box = refl

-- another length and a link of cause 5
length_then_link : tree_cause (node 9 (tip 1 (0 ∷ []))) 2 ≡ 1
unfolding of_bits le same count link_of box_at read_link labels positions all_below in_bounds bounded_vec in_order accepted_box size_conditions
    is_inside
    is_position is_whole each_once is_tree structure_conditions first_cause
length_then_link = refl

-- 65,536 leaves, and one more
sizes_most : sizes_cause 917497 65536 ≡ 0
unfolding size_conditions first_cause
sizes_most = refl

sizes_over : sizes_cause 917511 65537 ≡ 2
unfolding size_conditions first_cause
sizes_over = refl
