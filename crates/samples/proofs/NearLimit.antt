-- The samples of a ray's start, each by computation.
use mathlib.Core.Path.{◌≡◌, refl, subst}
use mathlib.Core.Bool.{false}
use mathlib.Core.List.{[], ◌∷◌}
use lib.Count.{count_leading_zeros}
use lib.IntN.{negsuc}
use lib.Ieee.{Float, fin, nan, inf, round, of_bits, of_int, add, sub, mul, div, lt, le, eq, is_nan}
use Rattle.words.specs.Fields.{field}
use Rattle.words.specs.Le.{le_at, sum_of}
use Rattle.words.specs.Ones.{ones_below}
use Rattle.words.specs.Ors.{or_of}
use Rattle.lists.specs.Splice.{splice}
use Rattle.float.specs.Compare.{min_of, max_of, unsigned_zero, is_minus_zero, in_bounds}
use Rattle.float.specs.PowerOfTwo.{scale_of}
use Rattle.ray.specs.Ray.{safe_inverse, octant_of, unsigned_vec, plain_vec, ray_of, counts, bounded_vec, accepted_ray}
use Rattle.aabb.specs.Aabb.{slab_near, slab_far, box_near, box_far, entry_distance, in_order, accepted_box}
use Rattle.packed.specs.Packed.{vec_in, box_in}
use Rattle.causes.specs.Causes.{first_cause}
use Rattle.causes.specs.Sizes.{record_conditions}
use Rattle.faststack.specs.Stack.{pushed, top_of}
use Rattle.node.specs.Node.{slot_offset, slot_from, node_from, child_index}
use Rattle.node_rule.specs.Rule.{point_ok, exponent_ok, head_ok, children_ok, leaf_top, slot_ok, slots_ok, node_rule}
use Rattle.node_slot.specs.Slot.{least_limit, near_limit, adjusted_inverse, adjusted_origin, plane_at, near_of, far_of, passes}
use Rattle.node_slot.specs.Mask.{hit_bits, slot_hit, hit_mask}
use Rattle.walk.specs.WordStep.{step_words, advance_words, report_words, visit_words, pop_words}
use Rattle.walk.specs.WordQueries.{query_words}
use Rattle.walk_record.specs.Walk.{query_at, any_hit_at}
use Rattle.query.specs.Entry.{entry_conditions}
use Rattle.query.specs.Result.{walked, entered}
use Rattle.traverse.specs.Walker.{started}
use Rattle.closest.specs.Panes.{pane_met, pane_of, hit_at, no_hit, refused_closest, missed, blocked, refused_miss}
use Rattle.closest.specs.Panes.{closest_found, miss_found, closest_walk, miss_walk, closest_of, miss_of}
use Rattle.any_hit.specs.AnyHit.{listed, refused, fitted, walk_of, any_hit_of, list_for, list_after}
use Rattle.samples.specs.TreeT.{number, indices_t, panes_t, bytes_t}
use Rattle.samples.specs.Further.{closest_is, miss_is}
use Rattle.samples.specs.NearLimit.{halves, minus_one, minus_half, ahead_from, within_a, listed_from, told_from2, reach_after, NearLimits}

any_hits :
    (listed_from (halves 3) ≡ 1 ∷ 0 ∷ [])
    × (listed_from (number 2) ≡ 1 ∷ 0 ∷ [])
    × (listed_from (halves 5) ≡ 1 ∷ 7 ∷ [])
    × (listed_from (halves 7) ≡ 1 ∷ 7 ∷ [])
    × (any_hit_of bytes_t 2 (ahead_from (halves 9)) 2 ≡ record { answer = listed 0; tests = 1 })
    × (any_hit_of bytes_t 2 (ahead_from (inf false)) 2 ≡ record { answer = listed 0; tests = 1 })
    × (any_hit_of bytes_t 2 (ahead_from nan) 2 ≡ record { answer = refused 9; tests = 0 })
unfolding any_hit_of list_after list_for splice entry_conditions record_conditions first_cause entered walk_of walked fitted any_hit_at query_at
    query_words
    step_words advance_words report_words visit_words pop_words ray_of unsigned_vec plain_vec unsigned_zero is_minus_zero octant_of hit_mask
    slot_hit hit_bits or_of
    passes near_of far_of max_of min_of plane_at adjusted_inverse adjusted_origin least_limit near_limit scale_of node_from le_at sum_of slot_from
    slot_offset
    node_rule head_ok children_ok slots_ok slot_ok leaf_top point_ok exponent_ok in_bounds ones_below field child_index top_of pushed
    count_leading_zeros safe_inverse
    bounded_vec accepted_ray round of_bits of_int add sub mul div lt le eq is_nan
any_hits = (refl, refl, refl, refl, refl, refl, refl)

closest :
    (closest_of bytes_t indices_t panes_t (ahead_from (halves 3)) ≡ closest_is (hit_at 1 (number 3)) 1)
    × (closest_of bytes_t indices_t panes_t (ahead_from (halves 5)) ≡ closest_is (hit_at 1 (number 3)) 1)
    × (closest_of bytes_t indices_t panes_t (ahead_from (number 3)) ≡ closest_is (hit_at 1 (number 3)) 1)
    × (closest_of bytes_t indices_t panes_t (ahead_from (halves 7)) ≡ closest_is no_hit 1)
    × (closest_of bytes_t indices_t panes_t (ahead_from nan) ≡ closest_is (refused_closest 9) 0)
unfolding closest_of closest_walk closest_found walked entered entry_conditions record_conditions first_cause pane_of pane_met counts box_in vec_in
    query_at
    query_words step_words advance_words report_words visit_words pop_words ray_of unsigned_vec plain_vec is_minus_zero octant_of hit_mask slot_hit
    hit_bits or_of
    passes near_of far_of max_of min_of plane_at adjusted_inverse adjusted_origin least_limit near_limit scale_of node_from le_at sum_of slot_from
    slot_offset
    node_rule head_ok children_ok slots_ok slot_ok leaf_top point_ok exponent_ok in_bounds ones_below field child_index top_of pushed
    count_leading_zeros safe_inverse
    bounded_vec accepted_ray accepted_box in_order entry_distance box_near box_far slab_near slab_far unsigned_zero round of_bits of_int add sub mul
    div lt le eq
    is_nan
closest = (refl, refl, refl, refl, refl)

-- The ray from the middle of A enters B at 1.5, which the format holds as 3 halves: without the division that `halves` asks for.
three_halves : fin false 3 (negsuc 0) ≡ halves 3
unfolding round of_bits of_int div
three_halves = refl

closest_at_three_halves : closest_of bytes_t indices_t panes_t (within_a (number 0)) ≡ closest_is (hit_at 1 (fin false 3 (negsuc 0))) 1
unfolding closest_of closest_walk closest_found walked entered entry_conditions record_conditions first_cause pane_of pane_met counts box_in vec_in
    query_at
    query_words step_words advance_words report_words visit_words pop_words ray_of unsigned_vec plain_vec is_minus_zero octant_of hit_mask slot_hit
    hit_bits or_of
    passes near_of far_of max_of min_of plane_at adjusted_inverse adjusted_origin least_limit near_limit scale_of node_from le_at sum_of slot_from
    slot_offset
    node_rule head_ok children_ok slots_ok slot_ok leaf_top point_ok exponent_ok in_bounds ones_below field child_index top_of pushed
    count_leading_zeros safe_inverse
    bounded_vec accepted_ray accepted_box in_order entry_distance box_near box_far slab_near slab_far unsigned_zero round of_bits of_int add sub mul
    div lt le eq
    is_nan
closest_at_three_halves = refl

closest_within :
    (closest_of bytes_t indices_t panes_t (within_a (number 0)) ≡ closest_is (hit_at 1 (halves 3)) 1)
    × (closest_of bytes_t indices_t panes_t (within_a minus_one) ≡ closest_is (hit_at 0 minus_half) 1)
unfolding closest_of closest_walk closest_found walked entered entry_conditions record_conditions first_cause pane_of pane_met counts box_in vec_in
    query_at
    query_words step_words advance_words report_words visit_words pop_words ray_of unsigned_vec plain_vec is_minus_zero octant_of hit_mask slot_hit
    hit_bits or_of
    passes near_of far_of max_of min_of plane_at adjusted_inverse adjusted_origin least_limit near_limit scale_of node_from le_at sum_of slot_from
    slot_offset
    node_rule head_ok children_ok slots_ok slot_ok leaf_top point_ok exponent_ok in_bounds ones_below field child_index top_of pushed
    count_leading_zeros safe_inverse
    bounded_vec accepted_ray accepted_box in_order entry_distance box_near box_far slab_near slab_far unsigned_zero round of_bits of_int add sub mul
    div lt le eq
    is_nan
closest_within = (
  subst (λ (d : Float). closest_of bytes_t indices_t panes_t (within_a (number 0)) ≡ closest_is (hit_at 1 d) 1) three_halves
      closest_at_three_halves,
  refl,
)

miss :
    (miss_of bytes_t indices_t panes_t (ahead_from (number 3)) ≡ miss_is blocked 1)
    × (miss_of bytes_t indices_t panes_t (ahead_from (halves 7)) ≡ miss_is missed 1)
    × (miss_of bytes_t indices_t panes_t (ahead_from nan) ≡ miss_is (refused_miss 9) 0)
unfolding miss_of miss_walk miss_found walked entered entry_conditions record_conditions first_cause pane_of pane_met counts box_in vec_in query_at
    query_words
    step_words advance_words report_words visit_words pop_words ray_of unsigned_vec plain_vec is_minus_zero octant_of hit_mask slot_hit hit_bits
    or_of passes near_of
    far_of max_of min_of plane_at adjusted_inverse adjusted_origin least_limit near_limit scale_of node_from le_at sum_of slot_from slot_offset
    node_rule head_ok
    children_ok slots_ok slot_ok leaf_top point_ok exponent_ok in_bounds ones_below field child_index top_of pushed count_leading_zeros safe_inverse
    bounded_vec
    accepted_ray accepted_box in_order entry_distance box_near box_far slab_near slab_far unsigned_zero round of_bits of_int add sub mul div lt le
    eq is_nan
miss = (refl, refl, refl)

told :
    (told_from2 (number 1 ∷ []) ≡ told_from2 [])
    × (reach_after (number 3 ∷ []) ≡ number 3)
    × (reach_after (number 2 ∷ number 3 ∷ []) ≡ number 2)
unfolding started accepted_ray bounded_vec in_bounds is_nan ray_of unsigned_vec unsigned_zero eq octant_of safe_inverse counts of_bits of_int round
    div lt le
told = (refl, refl, refl)

pub near_limits : NearLimits
near_limits = record {
  in_A_listed = any_hits.0;
  in_A_closest = closest.0;
  leaving_A_listed = any_hits.1;
  past_A_listed = any_hits.2;
  past_A_closest = closest.1;
  at_B_closest = closest.2;
  at_B_miss = miss.0;
  in_B_listed = any_hits.3;
  in_B_closest = closest.3;
  in_B_miss = miss.1;
  past_B_any_hit = any_hits.4;
  endless_any_hit = any_hits.5;
  nan_any_hit = any_hits.6;
  nan_closest = closest.4;
  nan_miss = miss.2;
  within_0 = closest_within.0;
  within_minus_1 = closest_within.1;
  told_1 = told.0;
  told_3 = told.1;
  told_3_2 = told.2;
}
