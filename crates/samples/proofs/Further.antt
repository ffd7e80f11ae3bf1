-- The further samples, each by computation.
use mathlib.Core.Path.{◌≡◌, refl}
use mathlib.Core.List.{[], ◌∷◌, ◌++◌}
use lib.Count.{count_leading_zeros}
use lib.Ieee.{nan, round, of_bits, to_bits, of_int, add, sub, mul, div, lt, le, eq, is_nan}
use lib.ListN.{replicate}
use Rattle.words.specs.Fields.{field}
use Rattle.words.specs.Le.{le_at, sum_of}
use Rattle.words.specs.Ones.{ones_below}
use Rattle.words.specs.Ors.{or_of}
use Rattle.lists.specs.Below.{all_below}
use Rattle.lists.specs.Counts.{same, count}
use Rattle.float.specs.Compare.{min_of, max_of, unsigned_zero, is_minus_zero, in_bounds}
use Rattle.float.specs.PowerOfTwo.{scale_of, next_power}
use Rattle.ray.specs.Ray.{safe_inverse, octant_of, unsigned_vec, plain_vec, ray_of, counts, bounded_vec, accepted_ray}
use Rattle.aabb.specs.Aabb.{slab_near, slab_far, box_near, box_far, entry_distance, half_area, center_of, in_order, accepted_box}
use Rattle.packed.specs.Packed.{vec_in, box_in}
use Rattle.quantization.specs.Exponent.{extent_scale, exponent_of}
use Rattle.quantization.specs.Ends.{clamped_byte, reciprocal_of, on_grid, child_min, child_max}
use Rattle.bvh2.specs.Tree.{box_of, leaves, positions, labels}
use Rattle.bvh2.specs.Words.{link_of, box_at, read_link}
use Rattle.causes.specs.Causes.{first_cause}
use Rattle.causes.specs.Sizes.{record_conditions}
use Rattle.bvh2.specs.FirstCause.{size_conditions, is_inside, is_position, is_whole, each_once, is_tree, structure_conditions}
use Rattle.cost.specs.Table.{best_of, decision, table}
use Rattle.order.specs.Lists.{keep, some}
use Rattle.order.specs.Assign.{partner, row_pairs, pairs, open_pairs, least_pair, assigned}
use Rattle.order.specs.Order as order
use Rattle.wide_layout.specs.Shape.{layout_entry}
use Rattle.wide_tree.specs.WideTree.{slots_from, wide_children, wide_of}
use Rattle.faststack.specs.Stack.{pushed, top_of}
use Rattle.node.specs.Node.{slot_offset, slot_from, node_from, child_index, head_bytes, put_slot, put_slots, node_bytes}
use Rattle.node_rule.specs.Rule.{point_ok, exponent_ok, head_ok, children_ok, leaf_top, slot_ok, slots_ok, node_rule}
use Rattle.node_slot.specs.Slot.{near_limit, adjusted_inverse, adjusted_origin, plane_at, near_of, far_of, passes}
use Rattle.node_slot.specs.Mask.{hit_bits, slot_hit, hit_mask}
use Rattle.record.specs.Record.{metas, inner_mask, grid_box, grid_boxes, node_of, joined_below, record_bytes}
use Rattle.bvh2_tables.specs.Tables.{record_size, slices_fit, prepare_conditions}
use Rattle.bvh2_to_cwbvh.specs.Conversion.{record_of, nodes_of, level_of, output_positions, index_list_of, conversion_conditions}
use Rattle.walk.specs.WordStep.{step_words, advance_words, report_words, visit_words, pop_words}
use Rattle.walk.specs.WordQueries.{query_words}
use Rattle.walk_record.specs.Walk.{query_at}
use Rattle.query.specs.Entry.{entry_conditions}
use Rattle.query.specs.Result.{walked, entered}
use Rattle.closest.specs.Panes.{pane_met, pane_of, hit_at, no_hit, refused_closest, missed, blocked, refused_miss}
use Rattle.closest.specs.Panes.{closest_found, miss_found, closest_walk, miss_walk, closest_of, miss_of}
use Rattle.text.specs.Text.{chars, digits, decimal, hex_digit, hex}
use Rattle.show.specs.Input.{input_words}
use Rattle.show.specs.Show.{node_line, node_lines, spaced, indices_line, record_text, numbered_line}
use Rattle.show_text.specs.ShowText.{cause_text, tree_text, order_text, leaves_text, show_text}
use Rattle.samples.specs.TreeT.{number, indices_t, panes_t, bytes_t, ray_along}
use Rattle.samples.specs.Samples.{ahead}
use Rattle.samples.specs.Further.{closest_is, miss_is, bytes_of, input_t, text_t, ordered_text_t, root_words, Further}

words : root_words 1 ≡ 0x4000_0006 ∷ 0x8000_0000 ∷ 0x8000_0000 ∷ 0x8000_0000 ∷ 0x8000_0000 ∷ 0x8000_0000 ∷ 0x8000_0000 ∷ []
unfolding link_of box_at read_link table decision best_of leaves half_area of_bits of_int add sub mul lt
words = refl

closest :
    (closest_of bytes_t (1 ∷ 0 ∷ []) panes_t ahead ≡ closest_is (hit_at 1 (number 1)) 1)
    × (closest_of bytes_t (0 ∷ 0 ∷ []) panes_t ahead ≡ closest_is (hit_at 1 (number 1)) 1)
    × (closest_of bytes_t indices_t panes_t (ray_along (number 0) (number 1)) ≡ closest_is no_hit 1)
    × (closest_of bytes_t (0 ∷ 2 ∷ []) panes_t ahead ≡ closest_is (refused_closest 10) 0)
    × (closest_of bytes_t indices_t (replicate 6 (number 0) ++ (number 1 ∷ replicate 5 (number 0))) ahead ≡ closest_is (refused_closest 6) 0)
    × (closest_of bytes_t indices_t (replicate 9 (number 0)) ahead ≡ closest_is (refused_closest 1) 0)
    × (closest_of bytes_t indices_t panes_t (ray_along (number 0) nan) ≡ closest_is (refused_closest 9) 0)
unfolding closest_of closest_walk closest_found walked entered entry_conditions record_conditions first_cause pane_of pane_met counts box_in vec_in
    query_at
    query_words step_words advance_words report_words visit_words pop_words ray_of unsigned_vec plain_vec is_minus_zero octant_of hit_mask slot_hit
    hit_bits or_of
    passes near_of far_of max_of min_of plane_at adjusted_inverse adjusted_origin near_limit scale_of node_from le_at sum_of slot_from slot_offset
    node_rule head_ok
    children_ok slots_ok slot_ok leaf_top point_ok exponent_ok in_bounds ones_below field child_index top_of pushed count_leading_zeros safe_inverse
    bounded_vec
    accepted_ray accepted_box in_order entry_distance box_near box_far slab_near slab_far unsigned_zero round of_bits of_int add sub mul div lt le
    eq is_nan
closest = (refl, refl, refl, refl, refl, refl, refl)

miss :
    (miss_of bytes_t indices_t panes_t ahead ≡ miss_is blocked 1)
    × (miss_of bytes_t indices_t panes_t (ray_along (number 0) (number 1)) ≡ miss_is missed 1)
    × (miss_of [] [] [] ahead ≡ miss_is missed 0)
    × (miss_of bytes_t (0 ∷ 2 ∷ []) panes_t ahead ≡ miss_is (refused_miss 10) 0)
unfolding miss_of miss_walk miss_found walked entered entry_conditions record_conditions first_cause pane_of pane_met counts box_in vec_in query_at
    query_words
    step_words advance_words report_words visit_words pop_words ray_of unsigned_vec plain_vec is_minus_zero octant_of hit_mask slot_hit hit_bits
    or_of passes near_of
    far_of max_of min_of plane_at adjusted_inverse adjusted_origin near_limit scale_of node_from le_at sum_of slot_from slot_offset node_rule
    head_ok children_ok
    slots_ok slot_ok leaf_top point_ok exponent_ok in_bounds ones_below field child_index top_of pushed count_leading_zeros safe_inverse bounded_vec
    accepted_ray
    accepted_box in_order entry_distance box_near box_far slab_near slab_far unsigned_zero round of_bits of_int add sub mul div lt le eq is_nan
miss = (refl, refl, refl, refl)

printed : (show_text (input_t 0) ≡ text_t) × (show_text (input_t 1) ≡ ordered_text_t)
unfolding show_text leaves_text order_text tree_text cause_text input_words le_at sum_of conversion_conditions first_cause prepare_conditions
    size_conditions
    structure_conditions slices_fit
    record_size level_of record_of nodes_of output_positions index_list_of link_of box_at read_link is_inside is_position is_whole each_once is_tree
    all_below
    same count labels positions box_of leaves in_bounds bounded_vec in_order accepted_box half_area center_of best_of decision table
    order.gathered_order
    order.slots_of order.sign_of order.direction_of order.dot_of order.direction_cost order.cost_table row_pairs pairs partner open_pairs least_pair
    assigned
    keep some slots_from wide_children wide_of record_bytes joined_below layout_entry node_of grid_box grid_boxes metas inner_mask node_bytes
    head_bytes
    put_slots put_slot
    slot_offset child_min child_max clamped_byte on_grid reciprocal_of scale_of exponent_of extent_scale next_power max_of of_int of_bits to_bits
    round add sub
    mul div lt le record_text node_lines node_line indices_line spaced chars decimal digits hex hex_digit
printed = (refl, refl)

printed_else :
    (show_text (0 ∷ 0 ∷ 0 ∷ []) ≡ chars "refused 1\n")
    × (show_text (bytes_of (257 ∷ [])) ≡ chars "refused 2\n")
    × (show_text (bytes_of (0 ∷ 3 ∷ 2 ∷ []) ++ (0 ∷ [])) ≡ chars "refused 1\n")
    × (show_text (bytes_of (0 ∷ 3 ∷ 2 ∷ [])) ≡ chars "refused 3\n")
    × (show_text (bytes_of (0 ∷ 4 ∷ 0 ∷ [])) ≡ chars "refused 3\n")
    × (show_text (bytes_of (0 ∷ 3 ∷ 0 ∷ [])) ≡ chars "indices\n")
unfolding show_text leaves_text order_text tree_text cause_text input_words le_at sum_of conversion_conditions first_cause prepare_conditions
    size_conditions
    structure_conditions slices_fit
    record_size level_of record_of nodes_of output_positions index_list_of record_text node_lines indices_line spaced numbered_line chars decimal
    digits
printed_else = (refl, refl, refl, refl, refl, refl)

pub further : Further
further = record {
  words_of_T = words;
  by_index = closest.0;
  tie = closest.1;
  at_reach = closest.2;
  no_pane = closest.3;
  bad_pane = closest.4;
  half_pane = closest.5;
  no_reach = closest.6;
  is_blocked = miss.0;
  is_missed = miss.1;
  miss_nothing = miss.2;
  miss_no_pane = miss.3;
  printed_T = printed.0;
  printed_ordered_T = printed.1;
  printed_short = printed_else.0;
  printed_many = printed_else.1;
  printed_long = printed_else.2;
  printed_order_2 = printed_else.3;
  printed_limit_4 = printed_else.4;
  printed_nothing = printed_else.5;
}
