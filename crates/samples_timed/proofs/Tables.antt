-- The samples of side tables, each by computation.
use mathlib.Core.Path.{refl}
use lib.Ieee.{of_int, of_bits, to_bits, round, add, sub, mul, div, lt, le}
use Rattle.lists.specs.Counts.{same, count}
use Rattle.lists.specs.Splice.{splice}
use Rattle.float.specs.Compare.{max_of, in_bounds}
use Rattle.float.specs.PowerOfTwo.{scale_of, next_power}
use Rattle.ray.specs.Ray.{bounded_vec}
use Rattle.aabb.specs.Aabb.{half_area, accepted_box, in_order}
use Rattle.quantization.specs.Exponent.{extent_scale, exponent_of}
use Rattle.quantization.specs.Ends.{clamped_byte, reciprocal_of, on_grid, child_min, child_max}
use Rattle.bvh2.specs.Tree.{box_of, positions, leaves, labels}
use Rattle.bvh2.specs.Words.{link_of, box_at, read_link}
use Rattle.bvh2.specs.FirstCause.{is_inside, is_position, is_whole, each_once, is_tree}
use Rattle.cost.specs.Table.{best_of, decision, table}
use Rattle.order.specs.Assign.{partner}
use Rattle.order.specs.Order.{gathered_order, slots_of}
use Rattle.wide_tree.specs.WideTree.{wide_children, wide_of}
use Rattle.node.specs.Node.{slot_offset, head_bytes, put_slot, put_slots, node_bytes}
use Rattle.record.specs.Record.{metas, inner_mask, grid_box, grid_boxes, node_of, record_bytes}
use Rattle.bvh2_to_cwbvh.specs.Conversion.{conversion_of, record_of, index_list_of}
use Rattle.bvh2_to_cwbvh_timed.specs.TimedConversion.{side_of, timed_conversion_of}
use Rattle.samples_timed.specs.TimedSamples.{SideTables}

pub tables : SideTables
unfolding timed_conversion_of conversion_of index_list_of record_of side_of is_inside is_position is_whole each_once is_tree same count labels
    in_bounds bounded_vec accepted_box in_order link_of box_at read_link box_of positions table decision best_of leaves half_area wide_of
    wide_children slots_of gathered_order partner record_bytes node_of grid_box grid_boxes metas inner_mask node_bytes head_bytes put_slots
    put_slot slot_offset child_min child_max clamped_byte on_grid reciprocal_of scale_of exponent_of extent_scale next_power max_of splice of_bits
    of_int to_bits round add sub mul div lt le
tables = record {
  side_of_T = refl;
  untimed_T = refl;
  answer_T = refl;
  record_of_T = refl;
  list_of_T = refl;
  record_of_pair = refl;
  side_of_pair = refl;
  list_of_nine = refl;
  side_of_nine = refl;
  nothing = refl;
  nothing_answer = refl;
}
