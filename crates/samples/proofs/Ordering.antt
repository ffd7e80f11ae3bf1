-- The samples of ordering, each by computation.
use mathlib.Core.Path.{refl}
use lib.Count.{count_leading_zeros}
use lib.Ieee.{of_int, of_bits, to_bits, round, neg, add, sub, mul, div, lt, le, eq, is_nan}
use Rattle.words.specs.Fields.{field}
use Rattle.words.specs.Le.{le_at, sum_of}
use Rattle.words.specs.Ones.{ones_below}
use Rattle.words.specs.Ors.{or_of}
use Rattle.float.specs.Compare.{min_of, max_of, unsigned_zero, is_minus_zero, in_bounds}
use Rattle.float.specs.PowerOfTwo.{scale_of, next_power}
use Rattle.ray.specs.Ray.{safe_inverse, octant_of, unsigned_vec, plain_vec, ray_of, bounded_vec, accepted_ray}
use Rattle.aabb.specs.Aabb.{half_area, center_of}
use Rattle.quantization.specs.Exponent.{extent_scale, exponent_of}
use Rattle.quantization.specs.Ends.{clamped_byte, reciprocal_of, on_grid, child_min, child_max}
use Rattle.bvh2.specs.Tree.{box_of, positions, leaves}
use Rattle.bvh2.specs.Words.{link_of, box_at, read_link}
use Rattle.cost.specs.Table.{best_of, decision, table}
use Rattle.order.specs.Lists.{keep, some}
use Rattle.order.specs.Assign.{row_pairs, pairs, partner, open_pairs, least_pair, assigned}
use Rattle.order.specs.Order.{sign_of, direction_of, dot_of, direction_cost, cost_table, gathered_order, slots_of}
use Rattle.wide_tree.specs.WideTree.{slots_from, wide_children, wide_of}
use Rattle.node.specs.Node.{slot_offset, slot_from, node_from, child_index, head_bytes, put_slot, put_slots, node_bytes}
use Rattle.faststack.specs.Stack.{pushed, top_of}
use Rattle.node_rule.specs.Rule.{point_ok, exponent_ok, head_ok, children_ok, leaf_top, slot_ok, slots_ok, node_rule}
use Rattle.node_slot.specs.Slot.{near_limit, adjusted_inverse, adjusted_origin, plane_at, near_of, far_of, passes}
use Rattle.node_slot.specs.Mask.{hit_bits, slot_hit, hit_mask}
use Rattle.walk.specs.WordStep.{step_words, advance_words, report_words, visit_words, pop_words}
use Rattle.walk.specs.WordQueries.{query_words}
use Rattle.walk_record.specs.Walk.{query_at, any_hit_at}
use Rattle.wide_layout.specs.Shape.{layout_entry}
use Rattle.record.specs.Record.{metas, inner_mask, grid_box, grid_boxes, node_of, joined_below, record_bytes}
use Rattle.bvh2_to_cwbvh.specs.Conversion.{record_of, output_positions, index_list_of}
use Rattle.samples.specs.Ordering.{OrderingSamples}

pub ordering : OrderingSamples
unfolding record_of index_list_of output_positions link_of box_at read_link box_of positions table decision best_of leaves half_area wide_of
    slots_from wide_children slots_of gathered_order partner of_bits of_int add sub mul lt cost_table direction_cost dot_of direction_of
    sign_of center_of assigned least_pair open_pairs pairs row_pairs keep some record_bytes joined_below layout_entry node_of grid_box
    grid_boxes metas inner_mask node_bytes head_bytes put_slots put_slot slot_offset child_min child_max clamped_byte on_grid reciprocal_of
    scale_of exponent_of extent_scale next_power max_of to_bits round div le any_hit_at query_at query_words step_words advance_words
    report_words visit_words pop_words ray_of unsigned_vec plain_vec unsigned_zero is_minus_zero octant_of hit_mask slot_hit hit_bits or_of
    passes near_of far_of min_of plane_at adjusted_inverse adjusted_origin near_limit node_from le_at sum_of slot_from node_rule head_ok
    children_ok slots_ok slot_ok leaf_top point_ok exponent_ok in_bounds ones_below field child_index top_of pushed count_leading_zeros
    safe_inverse bounded_vec accepted_ray neg eq is_nan
ordering = record {
  off = (refl, refl);
  on = (refl, refl);
  twice_off = refl;
  twice_on = refl;
  exchanged_off = (refl, refl);
  exchanged_on = (refl, refl);
  row_off = (refl, refl);
  row_on = (refl, refl);
}
