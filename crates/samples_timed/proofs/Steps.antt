-- The samples of a walker at a quarter hour, each by computation.
use mathlib.Core.Path.{refl}
use lib.Count.{count_leading_zeros}
use lib.Ieee.{round, of_bits, of_int, add, sub, mul, div, lt, le, eq, is_nan}
use Rattle.words.specs.Fields.{field}
use Rattle.words.specs.Le.{le_at, sum_of}
use Rattle.words.specs.Ones.{ones_below}
use Rattle.words.specs.Ors.{or_of}
use Rattle.float.specs.Compare.{min_of, max_of, unsigned_zero, is_minus_zero, in_bounds}
use Rattle.float.specs.PowerOfTwo.{scale_of}
use Rattle.ray.specs.Ray.{safe_inverse, octant_of, unsigned_vec, plain_vec, ray_of, bounded_vec, accepted_ray}
use Rattle.causes.specs.Causes.{first_cause}
use Rattle.faststack.specs.Stack.{pushed, top_of}
use Rattle.node.specs.Node.{slot_offset, slot_from, node_from, child_index}
use Rattle.node_rule.specs.Rule.{point_ok, exponent_ok, head_ok, children_ok, leaf_top, slot_ok, slots_ok, node_rule}
use Rattle.node_slot.specs.Slot.{near_limit, adjusted_inverse, adjusted_origin, plane_at, near_of, far_of, passes}
use Rattle.node_slot.specs.Mask.{hit_mask_of}
use Rattle.walk.specs.WordStep.{step_words, advance_words, report_words, visit_words, pop_words}
use Rattle.walk_record.specs.Walk.{step_at}
use Rattle.span.specs.Span.{holds}
use Rattle.traverse_timed.specs.Walker.{timed_started, step_over}
use Rattle.samples_timed.specs.TimedSamples.{TimedSteps}

pub steps : TimedSteps
unfolding timed_started step_over first_cause step_at holds step_words advance_words report_words visit_words pop_words ray_of unsigned_vec
    plain_vec unsigned_zero is_minus_zero octant_of hit_mask_of or_of passes near_of far_of max_of min_of plane_at adjusted_inverse
    adjusted_origin near_limit scale_of node_from le_at sum_of slot_from slot_offset node_rule head_ok children_ok slots_ok slot_ok leaf_top
    point_ok exponent_ok in_bounds ones_below field child_index top_of pushed count_leading_zeros safe_inverse bounded_vec accepted_ray round
    of_bits of_int add sub mul div lt le eq is_nan
steps = record {
  at_40 = refl;
  at_61 = refl;
  at_10 = refl;
  begins_40 = refl;
  begins_96 = refl;
  begins_96_nan = refl;
  begins_40_nan = refl;
  forged_96 = refl;
  short_96 = refl;
}
