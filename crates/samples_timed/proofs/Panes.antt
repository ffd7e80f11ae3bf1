-- The samples of closest and miss at a quarter hour, each by computation.
use mathlib.Core.Path.{refl}
use lib.Count.{count_leading_zeros}
use lib.Ieee.{round, of_bits, of_int, add, sub, mul, div, lt, le, eq, is_nan}
use Rattle.words.specs.Fields.{field}
use Rattle.words.specs.Le.{le_at, sum_of}
use Rattle.words.specs.Ones.{ones_below}
use Rattle.words.specs.Ors.{or_of}
use Rattle.float.specs.Compare.{min_of, max_of, unsigned_zero, is_minus_zero, in_bounds}
use Rattle.float.specs.PowerOfTwo.{scale_of}
use Rattle.ray.specs.Ray.{safe_inverse, octant_of, unsigned_vec, plain_vec, ray_of, counts, bounded_vec, accepted_ray}
use Rattle.aabb.specs.Aabb.{slab_near, slab_far, box_near, box_far, entry_distance, in_order, accepted_box}
use Rattle.packed.specs.Packed.{vec_in, box_in}
use Rattle.faststack.specs.Stack.{pushed, top_of}
use Rattle.node.specs.Node.{slot_offset, slot_from, node_from, child_index}
use Rattle.node_rule.specs.Rule.{point_ok, exponent_ok, head_ok, children_ok, leaf_top, slot_ok, slots_ok, node_rule}
use Rattle.node_slot.specs.Slot.{near_limit, adjusted_inverse, adjusted_origin, plane_at, near_of, far_of, passes}
use Rattle.node_slot.specs.Mask.{hit_mask_of}
use Rattle.walk.specs.WordStep.{step_words, advance_words, report_words, visit_words, pop_words}
use Rattle.walk.specs.WordQueries.{query_words}
use Rattle.span.specs.Span.{holds}
use Rattle.closest_timed.specs.Timed.{closest_timed_of, miss_timed_of}
use Rattle.samples_timed.specs.TimedSamples.{TimedPanes}

pub panes : TimedPanes
unfolding closest_timed_of miss_timed_of counts box_in vec_in accepted_box in_order entry_distance box_near box_far slab_near slab_far holds
    query_words step_words advance_words report_words visit_words pop_words ray_of unsigned_vec plain_vec unsigned_zero is_minus_zero octant_of
    hit_mask_of or_of passes near_of far_of max_of min_of plane_at adjusted_inverse adjusted_origin near_limit scale_of node_from le_at sum_of
    slot_from slot_offset node_rule head_ok children_ok slots_ok slot_ok leaf_top point_ok exponent_ok in_bounds ones_below field child_index
    top_of pushed count_leading_zeros safe_inverse bounded_vec accepted_ray round of_bits of_int add sub mul div lt le eq is_nan
panes = record {
  closest_at_40 = refl;
  closest_at_61 = refl;
  closest_at_70 = refl;
  closest_at_10 = refl;
  miss_at_40 = refl;
  miss_at_10 = refl;
  bad_box_undrawn = refl;
  bad_box_drawn = refl;
}
