-- The samples of losses at quarter hours, each by computation.
use mathlib.Core.Path.{refl}
use lib.Count.{count_leading_zeros}
use lib.Ieee.{round, of_bits, of_int, add, sub, mul, div, lt, le, eq, is_nan}
use Rattle.words.specs.Fields.{field}
use Rattle.words.specs.Le.{le_at, sum_of}
use Rattle.words.specs.Ones.{ones_below}
use Rattle.words.specs.Ors.{or_of}
use Rattle.lists.specs.Below.{all_below}
use Rattle.lists.specs.Counts.{same, count, upto}
use Rattle.lists.specs.Splice.{splice}
use Rattle.lists.specs.Sums.{sum, sum_over}
use Rattle.float.specs.Compare.{min_of, max_of, unsigned_zero, is_minus_zero, in_bounds}
use Rattle.float.specs.PowerOfTwo.{scale_of}
use Rattle.ray.specs.Ray.{safe_inverse, octant_of, unsigned_vec, plain_vec, ray_of, bounded_vec, accepted_ray}
use Rattle.packed.specs.Packed.{vec_in, ray_in}
use Rattle.faststack.specs.Stack.{pushed, top_of}
use Rattle.node.specs.Node.{slot_offset, slot_from, node_from, child_index}
use Rattle.node_rule.specs.Rule.{point_ok, exponent_ok, head_ok, children_ok, leaf_top, slot_ok, slots_ok, node_rule}
use Rattle.node_slot.specs.Slot.{near_limit, adjusted_inverse, adjusted_origin, plane_at, near_of, far_of, passes}
use Rattle.node_slot.specs.Mask.{hit_mask_of}
use Rattle.walk.specs.WordStep.{step_words, advance_words, report_words, visit_words, pop_words}
use Rattle.walk.specs.WordQueries.{query_words}
use Rattle.walk_record.specs.Walk.{any_hit_at}
use Rattle.span.specs.Span.{holds}
use Rattle.loss_timed.specs.Timed.{loss_timed_of, report_timed_of}
use Rattle.samples_timed.specs.Losses.{TimedLosses}

pub losses : TimedLosses
unfolding loss_timed_of report_timed_of ray_in vec_in all_below sum sum_over count same upto splice any_hit_at holds query_words step_words
    advance_words report_words visit_words pop_words ray_of unsigned_vec plain_vec unsigned_zero is_minus_zero octant_of hit_mask_of or_of passes
    near_of far_of max_of min_of plane_at adjusted_inverse adjusted_origin near_limit scale_of node_from le_at sum_of slot_from slot_offset node_rule
    head_ok children_ok slots_ok slot_ok leaf_top point_ok exponent_ok in_bounds ones_below field child_index top_of pushed count_leading_zeros
    safe_inverse bounded_vec accepted_ray round of_bits of_int add sub mul div lt le eq is_nan
losses = record {
  at_10 = refl;
  at_40 = refl;
  at_61 = refl;
  at_70 = refl;
  twice = refl;
  no_pane = refl;
  no_pane_unmet = refl;
  at_96 = refl;
  at_96_nan = refl;
  at_40_nan = refl;
  too_great_at_96 = refl;
  four_rays_lem = refl;
  short = refl;
  past_the_day = refl;
  three_losses = refl;
}
