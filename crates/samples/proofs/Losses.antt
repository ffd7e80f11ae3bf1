-- The samples of losses, each by computation.
use mathlib.Core.Path.{refl}
use lib.Count.{count_leading_zeros}
use lib.Ieee.{round, neg, of_bits, of_int, add, sub, mul, div, lt, le, eq, is_nan}
use Rattle.words.specs.Fields.{field}
use Rattle.words.specs.Le.{le_at, sum_of}
use Rattle.words.specs.Ones.{ones_below}
use Rattle.words.specs.Ors.{or_of}
use Rattle.lists.specs.Below.{all_below}
use Rattle.lists.specs.Counts.{same, count, upto}
use Rattle.lists.specs.Splice.{splice}
use Rattle.lists.specs.Sums.{sum, sum_over}
use Rattle.float.specs.Compare.{min_of, max_of, unsigned_zero, is_minus_zero, in_bounds}
use Rattle.float.specs.PowerOfTwo.{scale_of}
use Rattle.ray.specs.Ray.{safe_inverse, octant_of, unsigned_vec, plain_vec, ray_of, bounded_vec, accepted_ray}
use Rattle.packed.specs.Packed.{vec_in, ray_in, rays_accepted}
use Rattle.causes.specs.Causes.{first_cause}
use Rattle.causes.specs.Sizes.{record_conditions}
use Rattle.faststack.specs.Stack.{pushed, top_of}
use Rattle.node.specs.Node.{slot_offset, slot_from, node_from, child_index}
use Rattle.node_rule.specs.Rule.{point_ok, exponent_ok, head_ok, children_ok, leaf_top, slot_ok, slots_ok, node_rule}
use Rattle.node_slot.specs.Slot.{near_limit, adjusted_inverse, adjusted_origin, plane_at, near_of, far_of, passes}
use Rattle.node_slot.specs.Mask.{hit_bits, slot_hit, hit_mask}
use Rattle.walk.specs.WordStep.{step_words, advance_words, report_words, visit_words, pop_words}
use Rattle.walk.specs.WordQueries.{query_words}
use Rattle.walk_record.specs.Walk.{query_at, any_hit_at}
use Rattle.query.specs.Entry.{entry_conditions}
use Rattle.query.specs.Result.{walked, entered}
use Rattle.loss.specs.Loss.{losses_fit, all_there, loss_walked, loss_of, is_summed, walks_by, report_conditions, walk_conditions, totals_in}
use Rattle.loss.specs.Loss.{report_by}
use Rattle.loss.specs.Loss.{report_of}
use Rattle.samples.specs.Losses.{LossSamples}

pub losses : LossSamples
unfolding loss_of loss_walked losses_fit all_there report_of report_by report_conditions walk_conditions walks_by is_summed totals_in ray_in
    rays_accepted
    all_below sum sum_over count same upto splice entry_conditions record_conditions first_cause entered walked any_hit_at query_at query_words
    step_words
    advance_words report_words visit_words pop_words ray_of unsigned_vec plain_vec unsigned_zero is_minus_zero octant_of hit_mask slot_hit hit_bits
    or_of passes
    near_of far_of max_of min_of plane_at adjusted_inverse adjusted_origin near_limit scale_of node_from le_at sum_of slot_from slot_offset
    node_rule head_ok
    children_ok slots_ok slot_ok leaf_top point_ok exponent_ok in_bounds ones_below field child_index top_of pushed count_leading_zeros safe_inverse
    bounded_vec
    accepted_ray vec_in round neg of_bits of_int add sub mul div lt le eq is_nan
losses = record {
  both = refl;
  twice = refl;
  near = refl;
  greatest = refl;
  too_great = refl;
  three_losses = refl;
  three_losses_nan = refl;
  reach_nan = refl;
  short_record = refl;
  no_pane = refl;
  no_pane_unmet = refl;
  no_nodes = refl;
  two_rays_lem = refl;
  one_pane = refl;
  no_rays = refl;
  fault = refl;
  ray_nan = refl;
  losses_first = refl;
  seven_floats = refl;
  ray_room = refl;
  pane_room = refl;
}
