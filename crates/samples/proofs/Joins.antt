-- The samples of two trees joined, each by computation.
use mathlib.Core.Path.{refl}
use lib.Ieee.{round, neg, of_bits, to_bits, lt, le, eq, is_nan}
use Rattle.lists.specs.Below.{all_below}
use Rattle.lists.specs.Counts.{same, count, upto}
use Rattle.lists.specs.Splice.{splice}
use Rattle.float.specs.Compare.{min_of, max_of, unsigned_zero, in_bounds}
use Rattle.ray.specs.Ray.{bounded_vec}
use Rattle.aabb.specs.Aabb.{union_of, in_order, accepted_box}
use Rattle.causes.specs.Causes.{first_cause}
use Rattle.bvh2.specs.Tree.{depth, labels, positions}
use Rattle.bvh2.specs.Words.{link_of, box_at, read_link}
use Rattle.bvh2.specs.FirstCause.{is_inside, is_position, is_whole, each_once, is_tree}
use Rattle.tree_words.specs.Nodes.{in_turn}
use Rattle.join.specs.Join.{moved_link, moved_node, under_root, room_for, size_tests, tree_or_none, edge_to_spare, tree_tests, join_tests, join_by}
use Rattle.join.specs.Join.{join_of}
use Rattle.samples.specs.Joins.{JoinSamples}

pub joins : JoinSamples
unfolding join_of join_by join_tests tree_tests edge_to_spare tree_or_none size_tests room_for under_root moved_node moved_link in_turn is_tree
    each_once
    is_whole is_position is_inside read_link box_at link_of depth labels positions first_cause accepted_box in_order union_of bounded_vec in_bounds
    unsigned_zero
    max_of min_of splice upto count same all_below round neg of_bits to_bits lt le eq is_nan
joins = record {
  twice = refl;
  leaves = refl;
  no_first = refl;
  no_second = refl;
  neither = refl;
  greatest = refl;
  too_great = refl;
  short = refl;
  no_room_lem = refl;
  five_first = refl;
  own_child = refl;
}
