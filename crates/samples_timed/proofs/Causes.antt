-- The samples of the places of cause 14 in conversion, each by computation.
use mathlib.Core.Path.{refl}
use lib.Ieee.{of_int, of_bits, to_bits, round, lt, le}
use Rattle.lists.specs.Counts.{same, count}
use Rattle.float.specs.Compare.{in_bounds}
use Rattle.ray.specs.Ray.{bounded_vec}
use Rattle.aabb.specs.Aabb.{accepted_box, in_order}
use Rattle.bvh2.specs.Tree.{positions, labels}
use Rattle.bvh2.specs.Words.{link_of, box_at, read_link}
use Rattle.bvh2.specs.FirstCause.{is_inside, is_position, is_whole, each_once, is_tree}
use Rattle.bvh2_to_cwbvh_timed.specs.TimedConversion.{timed_conversion_of}
use Rattle.samples_timed.specs.TimedSamples.{SpanCauses}

pub causes : SpanCauses
unfolding timed_conversion_of is_inside is_position is_whole each_once is_tree same count labels positions in_bounds bounded_vec accepted_box
    in_order link_of box_at read_link of_bits of_int to_bits round lt le
causes = record {
  turned = refl;
  to_96 = refl;
  short = refl;
  no_pane = refl;
  short_limit_4 = refl;
  short_room = refl;
  short_box = refl;
  short_own_child = refl;
  own_child = refl;
}
