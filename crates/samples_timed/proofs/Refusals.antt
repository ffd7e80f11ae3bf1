-- The samples of refusals of timed queries, each by computation.
use mathlib.Core.Path.{refl}
use lib.Ieee.{round, of_bits, of_int, lt, le, eq, is_nan}
use Rattle.float.specs.Compare.{unsigned_zero, in_bounds}
use Rattle.ray.specs.Ray.{unsigned_vec, ray_of, bounded_vec, accepted_ray}
use Rattle.any_hit_timed.specs.Timed.{any_hit_timed_of, list_timed}
use Rattle.closest_timed.specs.Timed.{closest_timed_of}
use Rattle.samples_timed.specs.TimedSamples.{TimedRefusals}

pub refusals : TimedRefusals
unfolding any_hit_timed_of list_timed closest_timed_of accepted_ray bounded_vec in_bounds ray_of unsigned_vec unsigned_zero of_bits of_int round
    lt le eq is_nan
refusals = record {
  turned = refl;
  short = refl;
  at_96 = (refl, refl);
  short_side = refl;
  at_96_nan = refl;
  at_40_nan = refl;
  at_96_record = refl;
  closest_at_96 = refl;
}
