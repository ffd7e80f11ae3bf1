-- The samples of a record of two nodes at a quarter hour, each by computation.
use mathlib.Core.Path.{refl}
use lib.Count.{count_leading_zeros}
use lib.Ieee.{round, of_bits, of_int, add, sub, mul, div, lt, le, eq, is_nan, to_bits}
use Rattle.words.specs.Fields.{field}
use Rattle.words.specs.Le.{le_at, sum_of}
use Rattle.words.specs.Ones.{ones_below}
use Rattle.words.specs.Ors.{or_of}
use Rattle.lists.specs.Splice.{splice}
use Rattle.float.specs.Compare.{min_of, max_of, unsigned_zero, is_minus_zero, in_bounds}
use Rattle.float.specs.PowerOfTwo.{scale_of, next_power}
use Rattle.ray.specs.Ray.{safe_inverse, octant_of, unsigned_vec, plain_vec, ray_of, bounded_vec, accepted_ray}
use Rattle.faststack.specs.Stack.{pushed, top_of}
use Rattle.node.specs.Node.{slot_offset, slot_from, node_from, child_index, head_bytes, put_slot, put_slots, node_bytes}
use Rattle.node_rule.specs.Rule.{point_ok, exponent_ok, head_ok, children_ok, leaf_top, slot_ok, slots_ok, node_rule}
use Rattle.node_slot.specs.Slot.{near_limit, adjusted_inverse, adjusted_origin, plane_at, near_of, far_of, passes}
use Rattle.node_slot.specs.Mask.{hit_mask_of}
use Rattle.walk.specs.WordStep.{step_words, advance_words, report_words, visit_words, pop_words}
use Rattle.walk.specs.WordQueries.{query_words}
use Rattle.span.specs.Span.{holds}
use Rattle.any_hit_timed.specs.Timed.{any_hit_timed_of, list_timed}
use Rattle.aabb.specs.Aabb.{half_area}
use Rattle.quantization.specs.Exponent.{extent_scale, exponent_of}
use Rattle.quantization.specs.Ends.{clamped_byte, reciprocal_of, on_grid, child_min, child_max}
use Rattle.bvh2.specs.Tree.{box_of, positions, leaves}
use Rattle.bvh2.specs.Words.{link_of, box_at, read_link}
use Rattle.cost.specs.Table.{best_of, decision, table}
use Rattle.order.specs.Assign.{partner}
use Rattle.order.specs.Order.{gathered_order, slots_of}
use Rattle.wide_layout.specs.Shape.{layout_entry}
use Rattle.wide_tree.specs.WideTree.{wide_children, wide_of}
use Rattle.record.specs.Record.{joined_below, metas, inner_mask, grid_box, grid_boxes, node_of, record_bytes}
use Rattle.bvh2_to_cwbvh.specs.Conversion.{record_of}
use Rattle.samples_timed.specs.TimedSamples.{TimedNodes}

pub nodes : TimedNodes
unfolding any_hit_timed_of list_timed splice holds query_words step_words advance_words report_words visit_words pop_words ray_of unsigned_vec
    plain_vec unsigned_zero is_minus_zero octant_of hit_mask_of or_of passes near_of far_of max_of min_of plane_at adjusted_inverse
    adjusted_origin near_limit scale_of node_from le_at sum_of slot_from slot_offset node_rule head_ok children_ok slots_ok slot_ok leaf_top
    point_ok exponent_ok in_bounds ones_below field child_index top_of pushed count_leading_zeros safe_inverse bounded_vec accepted_ray round
    of_bits of_int add sub mul div lt le eq is_nan record_of link_of box_at read_link box_of positions table decision best_of leaves half_area
    wide_of wide_children slots_of gathered_order partner record_bytes joined_below layout_entry node_of grid_box grid_boxes metas inner_mask
    node_bytes head_bytes put_slots put_slot child_min child_max clamped_byte on_grid reciprocal_of exponent_of extent_scale next_power to_bits
nodes = record {
  at_5 = (refl, refl);
  at_15 = (refl, refl);
  at_25 = (refl, refl);
  at_90 = (refl, refl);
}
