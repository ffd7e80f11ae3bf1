-- The samples of a ray's zeros, each by computation.
use mathlib.Core.Path.{refl}
use lib.Count.{count_leading_zeros}
use lib.Ieee.{round, neg, of_bits, of_int, add, sub, mul, div, lt, le, eq, is_nan}
use Rattle.words.specs.Fields.{field}
use Rattle.words.specs.Le.{le_at, sum_of}
use Rattle.words.specs.Ones.{ones_below}
use Rattle.words.specs.Ors.{or_of}
use Rattle.lists.specs.Splice.{splice}
use Rattle.float.specs.Compare.{min_of, max_of, unsigned_zero, is_minus_zero, in_bounds}
use Rattle.float.specs.PowerOfTwo.{scale_of}
use Rattle.ray.specs.Ray.{safe_inverse, octant_of, unsigned_vec, plain_vec, ray_of, counts, bounded_vec, accepted_ray}
use Rattle.aabb.specs.Aabb.{slab_near, slab_far, box_near, box_far, entry_distance, in_order, accepted_box}
use Rattle.packed.specs.Packed.{vec_in, box_in}
use Rattle.causes.specs.Causes.{first_cause}
use Rattle.causes.specs.Sizes.{record_conditions}
use Rattle.faststack.specs.Stack.{pushed, top_of}
use Rattle.node.specs.Node.{slot_offset, slot_from, node_from, child_index}
use Rattle.node_rule.specs.Rule.{point_ok, exponent_ok, head_ok, children_ok, leaf_top, slot_ok, slots_ok, node_rule}
use Rattle.node_slot.specs.Slot.{near_limit, adjusted_inverse, adjusted_origin, plane_at, near_of, far_of, passes}
use Rattle.node_slot.specs.Mask.{hit_bits, slot_hit, hit_mask}
use Rattle.walk.specs.WordStep.{step_words, advance_words, report_words, visit_words, pop_words}
use Rattle.walk.specs.WordQueries.{query_words}
use Rattle.walk_record.specs.Walk.{step_at, query_at, any_hit_at}
use Rattle.query.specs.Entry.{entry_conditions}
use Rattle.query.specs.Result.{walked, entered}
use Rattle.traverse.specs.Walker.{started, step_bytes}
use Rattle.closest.specs.Panes.{pane_met, pane_of, closest_found, miss_found, closest_walk, miss_walk, closest_of, miss_of}
use Rattle.any_hit.specs.AnyHit.{fitted, walk_of, any_hit_of, list_for, list_after}
use Rattle.samples.specs.MinusZero.{MinusZeros}

pub minus_zeros : MinusZeros
unfolding any_hit_of list_after list_for splice entry_conditions record_conditions first_cause entered walk_of walked fitted any_hit_at query_at
    query_words
    step_bytes step_at step_words advance_words report_words visit_words pop_words started ray_of unsigned_vec plain_vec unsigned_zero is_minus_zero
    octant_of
    hit_mask slot_hit hit_bits or_of passes near_of far_of max_of min_of plane_at adjusted_inverse adjusted_origin near_limit scale_of node_from
    le_at sum_of slot_from
    slot_offset node_rule head_ok children_ok slots_ok slot_ok leaf_top point_ok exponent_ok in_bounds ones_below field child_index top_of pushed
    count_leading_zeros
    safe_inverse bounded_vec accepted_ray closest_of closest_walk closest_found miss_of miss_walk miss_found pane_of pane_met counts box_in vec_in
    accepted_box
    in_order entry_distance box_near box_far slab_near slab_far round neg of_bits of_int add sub mul div lt le eq is_nan
minus_zeros = record {
  turned_z_any_hit = refl;
  turned_z_listed = refl;
  turned_z_closest = refl;
  turned_z_miss = refl;
  from_zero_any_hit = refl;
  from_zero_listed = refl;
  from_zero_closest = refl;
  from_zero_miss = refl;
  still_accepted = refl;
  still_inverse = refl;
  still_octant = refl;
  signed_origin = refl;
  signed_direction = refl;
  signed_start = refl;
  signed_reach = refl;
  by_hand_own = refl;
  by_hand_other = refl;
  by_hand_plus = refl;
}
