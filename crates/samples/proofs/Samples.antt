-- The table of samples, each by computation.
use mathlib.Core.Path.{◌≡◌, refl, ap}
use mathlib.Core.Bool.{true, false}
use mathlib.Core.List.{List, [], ◌∷◌}
use Prim.Native.Nat.{ℕ}
use lib.Count.{count_leading_zeros}
use lib.ListN.{take, drop}
use lib.Ieee.{of_int, of_bits, to_bits, round, add, sub, mul, div, lt, le, eq, is_nan}
use Rattle.words.specs.Fields.{field}
use Rattle.words.specs.Le.{le_at, sum_of}
use Rattle.words.specs.Ones.{ones_below}
use Rattle.words.specs.Ors.{or_of}
use Rattle.lists.specs.Splice.{splice}
use Rattle.lists.specs.Below.{all_below}
use Rattle.lists.specs.Counts.{same, count}
use Rattle.float.specs.Compare.{min_of, max_of, unsigned_zero, is_minus_zero, in_bounds}
use Rattle.float.specs.PowerOfTwo.{scale_of, next_power}
use Rattle.ray.specs.Ray.{safe_inverse, octant_of, unsigned_vec, plain_vec, ray_of, counts, bounded_vec, accepted_ray}
use Rattle.aabb.specs.Aabb.{half_area, center_of, accepted_box}
use Rattle.aabb.specs.Aabb as aabb
use Rattle.packed.specs.Packed.{vec_in, box_in}
use Rattle.quantization.specs.Exponent.{extent_scale, exponent_of}
use Rattle.quantization.specs.Ends.{clamped_byte, reciprocal_of, on_grid, child_min, child_max}
use Rattle.bvh2.specs.Tree.{box_of, positions, leaves, labels}
use Rattle.bvh2.specs.Words.{link_of, box_at, read_link}
use Rattle.causes.specs.Causes.{first_cause}
use Rattle.causes.specs.Sizes.{record_conditions}
use Rattle.bvh2.specs.FirstCause.{size_conditions, is_inside, is_position, is_whole, each_once, is_tree, structure_conditions}
use Rattle.cost.specs.Table.{best_of, decision, table}
use Rattle.order.specs.Lists.{keep, some}
use Rattle.order.specs.Assign.{row_pairs, pairs, partner, open_pairs, least_pair, assigned}
use Rattle.order.specs.Order.{sign_of, direction_of, dot_of, direction_cost, cost_table, gathered_order, slots_of}
use Rattle.wide_tree.specs.WideTree.{slots_from, wide_children, wide_of}
use Rattle.node.specs.Node.{slot_offset, slot_from, node_from, child_index, head_bytes, put_slot, put_slots, node_bytes}
use Rattle.faststack.specs.Stack.{pushed, top_of}
use Rattle.node_rule.specs.Rule.{point_ok, exponent_ok, head_ok, children_ok, leaf_top, slot_ok, slots_ok, node_rule}
use Rattle.node_slot.specs.Slot.{near_limit, adjusted_inverse, adjusted_origin, plane_at, near_of, far_of, passes}
use Rattle.node_slot.specs.Mask.{hit_bits, slot_hit, hit_mask}
use Rattle.walk.specs.WordStep.{step_words, advance_words, report_words, visit_words, pop_words}
use Rattle.walk.specs.WordQueries.{query_words}
use Rattle.walk_record.specs.Walk.{query_at, any_hit_at}
use Rattle.query.specs.Entry.{entry_conditions}
use Rattle.query.specs.Result.{walked, entered}
use Rattle.closest.specs.Panes.{pane_met, pane_of, hit_at, no_hit, closest_found, closest_walk, closest_of}
use Rattle.any_hit.specs.AnyHit.{listed, fitted, walk_of, any_hit_of, list_for, list_after}
use Rattle.wide_layout.specs.Shape.{layout_entry}
use Rattle.record.specs.Record.{metas, inner_mask, grid_box, grid_boxes, node_of, joined_below, record_bytes}
use Rattle.bvh2_tables.specs.Tables.{record_size, slices_fit, prepare_conditions}
use Rattle.bvh2_to_cwbvh.specs.Conversion.{converted, refused, record_of, nodes_of, level_of, output_positions, index_list_of}
use Rattle.bvh2_to_cwbvh.specs.Conversion.{conversion_conditions, answer_for, outcome_for, conversion_of}
use Rattle.samples.specs.TreeT.{number, words_t, indices_t, panes_t, bytes_t}
use Rattle.samples.specs.Samples.{next_above, extent_byte, convert_sample, ahead, beside, root_word, root_cost, Samples}

record_of_T : record_of words_t 2 3 false ≡ bytes_t
unfolding record_of link_of box_at read_link box_of positions table decision best_of leaves half_area wide_of slots_from wide_children slots_of
    gathered_order
    partner
    of_bits of_int add sub mul lt record_bytes joined_below layout_entry node_of grid_box grid_boxes metas inner_mask node_bytes head_bytes
    put_slots put_slot
    slot_offset
    child_min child_max clamped_byte on_grid reciprocal_of scale_of exponent_of extent_scale next_power max_of to_bits round div le
record_of_T = refl

exponents_of_T : take 3 (drop 12 (record_of words_t 2 3 false)) ≡ 121 ∷ 120 ∷ 120 ∷ []
exponents_of_T = ap (λ (b : List ℕ). take 3 (drop 12 b)) record_of_T

list_of_T : index_list_of words_t indices_t 3 false ≡ 0 ∷ 1 ∷ []
unfolding index_list_of output_positions link_of box_at read_link box_of positions table decision best_of leaves half_area wide_of slots_from
    wide_children
    slots_of gathered_order
    partner of_bits of_int add sub mul lt
list_of_T = refl

ordered_T : take 8 (drop 24 (record_of words_t 2 3 true)) ≡ 0x20 ∷ 0 ∷ 0 ∷ 0 ∷ 0x21 ∷ 0 ∷ 0 ∷ 0 ∷ []
unfolding record_of link_of box_at read_link box_of positions table decision best_of leaves half_area wide_of slots_from wide_children slots_of
    gathered_order
    partner
    of_bits of_int add sub mul lt cost_table direction_cost dot_of direction_of sign_of center_of assigned least_pair open_pairs pairs row_pairs
    keep some
    record_bytes joined_below layout_entry node_of grid_box grid_boxes metas inner_mask node_bytes head_bytes put_slots put_slot slot_offset
    child_min child_max
    clamped_byte
    on_grid reciprocal_of scale_of exponent_of extent_scale next_power max_of to_bits round div le
ordered_T = refl

nothing : convert_sample [] [] 3 ≡ converted 0 0
unfolding convert_sample conversion_of outcome_for conversion_conditions answer_for level_of nodes_of first_cause prepare_conditions slices_fit
    record_size
    size_conditions
    structure_conditions
    is_inside is_position is_whole each_once is_tree same count labels all_below in_bounds bounded_vec accepted_box aabb.in_order le
nothing = refl

limit_3 : convert_sample words_t indices_t 3 ≡ converted 1 0
unfolding convert_sample conversion_of outcome_for conversion_conditions answer_for level_of nodes_of first_cause prepare_conditions slices_fit
    record_size
    size_conditions
    structure_conditions
    is_inside is_position is_whole each_once is_tree same count labels all_below in_bounds bounded_vec accepted_box aabb.in_order le link_of box_at
    read_link
    box_of positions table decision best_of leaves half_area wide_of slots_from wide_children slots_of gathered_order partner of_bits of_int add sub
    mul lt
limit_3 = refl

limit_4 : convert_sample words_t indices_t 4 ≡ refused 3
unfolding convert_sample conversion_of outcome_for conversion_conditions answer_for level_of nodes_of first_cause prepare_conditions slices_fit
    record_size
    size_conditions
    structure_conditions
    is_inside is_position is_whole each_once is_tree same count labels all_below in_bounds bounded_vec accepted_box aabb.in_order le
limit_4 = refl

limit_4_nothing : convert_sample [] [] 4 ≡ refused 3
unfolding convert_sample conversion_of outcome_for conversion_conditions answer_for level_of nodes_of first_cause prepare_conditions slices_fit
    record_size
    size_conditions
    structure_conditions
    is_inside is_position is_whole each_once is_tree same count labels all_below in_bounds bounded_vec accepted_box aabb.in_order le
limit_4_nothing = refl

extent_255 : extent_byte (number 255) ≡ 127
unfolding exponent_of extent_scale next_power max_of of_int round sub mul div lt le
extent_255 = refl

extent_above_255 : extent_byte (next_above (number 255)) ≡ 128
unfolding exponent_of extent_scale next_power max_of of_int of_bits to_bits round sub mul div lt le
extent_above_255 = refl

extent_261120 : extent_byte (number 261120) ≡ 137
unfolding exponent_of extent_scale next_power max_of of_int round sub mul div lt le
extent_261120 = refl

extent_above_261120 : extent_byte (next_above (number 261120)) ≡ 138
unfolding exponent_of extent_scale next_power max_of of_int of_bits to_bits round sub mul div lt le
extent_above_261120 = refl

extent_0 : extent_byte (number 0) ≡ 53
unfolding exponent_of extent_scale next_power max_of of_int round sub mul div lt le
extent_0 = refl

any_hits :
    (any_hit_of bytes_t 2 ahead 2 ≡ record { answer = listed 2; tests = 1 })
    × (list_after bytes_t 2 ahead (7 ∷ 7 ∷ 7 ∷ []) ≡ 1 ∷ 0 ∷ 7 ∷ [])
    × (any_hit_of bytes_t 2 beside 2 ≡ record { answer = listed 2; tests = 1 })
    × (list_after bytes_t 2 beside (7 ∷ 7 ∷ 7 ∷ []) ≡ 1 ∷ 0 ∷ 7 ∷ [])
    × (any_hit_of [] 0 ahead 0 ≡ record { answer = listed 0; tests = 0 })
unfolding any_hit_of list_after list_for splice entry_conditions record_conditions first_cause entered walk_of walked fitted any_hit_at query_at
    query_words
    step_words advance_words report_words visit_words pop_words ray_of unsigned_vec plain_vec unsigned_zero is_minus_zero octant_of hit_mask
    slot_hit hit_bits or_of
    passes near_of far_of max_of min_of plane_at adjusted_inverse adjusted_origin near_limit scale_of node_from le_at sum_of slot_from slot_offset
    node_rule head_ok
    children_ok slots_ok slot_ok leaf_top point_ok exponent_ok in_bounds ones_below field child_index top_of pushed count_leading_zeros safe_inverse
    bounded_vec
    accepted_ray round of_bits of_int add sub mul div lt le eq is_nan
any_hits = (refl, refl, refl, refl, refl)

closest :
    (closest_of bytes_t indices_t panes_t ahead ≡ record { answer = hit_at 0 (number 1); tests = 1 })
    × (closest_of bytes_t indices_t panes_t beside ≡ record { answer = hit_at 0 (number 1); tests = 1 })
    × (closest_of [] [] [] ahead ≡ record { answer = no_hit; tests = 0 })
unfolding closest_of closest_walk closest_found walked entered entry_conditions record_conditions first_cause pane_of pane_met counts box_in vec_in
    query_at
    query_words step_words advance_words report_words visit_words pop_words ray_of unsigned_vec plain_vec is_minus_zero octant_of hit_mask slot_hit
    hit_bits or_of
    passes near_of far_of max_of min_of plane_at adjusted_inverse adjusted_origin near_limit scale_of node_from le_at sum_of slot_from slot_offset
    node_rule head_ok
    children_ok slots_ok slot_ok leaf_top point_ok exponent_ok in_bounds ones_below field child_index top_of pushed count_leading_zeros safe_inverse
    bounded_vec
    accepted_ray accepted_box aabb.in_order aabb.entry_distance aabb.box_near aabb.box_far aabb.slab_near aabb.slab_far unsigned_zero round of_bits
    of_int add
    sub mul div lt le eq is_nan
closest = (refl, refl, refl)

costs : ((root_word 3 ≡ 0x0000_0006) × (root_cost 3 ≡ 0x4086_6667)) × ((root_word 1 ≡ 0x4000_0006) × (root_cost 1 ≡ 0x410c_cccd))
unfolding link_of box_at read_link table decision best_of leaves half_area of_bits to_bits of_int add sub mul lt
costs = ((refl, refl), (refl, refl))

pub samples : Samples
samples = record {
  record_of_T = record_of_T;
  list_of_T = list_of_T;
  exponents_of_T = exponents_of_T;
  extent_255 = extent_255;
  extent_above_255 = extent_above_255;
  extent_261120 = extent_261120;
  extent_above_261120 = extent_above_261120;
  extent_0 = extent_0;
  ordered_T = ordered_T;
  any_hit_T = any_hits.0;
  any_hit_T_list = any_hits.1;
  closest_T = closest.0;
  any_hit_zero = any_hits.2;
  any_hit_zero_list = any_hits.3;
  closest_zero = closest.1;
  nothing = nothing;
  any_hit_nothing = any_hits.4;
  closest_nothing = closest.2;
  limit_3 = limit_3;
  limit_4 = limit_4;
  limit_4_nothing = limit_4_nothing;
  cost_at_3 = costs.0;
  cost_at_1 = costs.1;
}
