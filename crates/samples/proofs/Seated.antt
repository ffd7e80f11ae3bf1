-- The samples of children seated by cost, each by computation.
use mathlib.Core.Path.{refl}
use lib.Ieee.{of_bits, of_int, add, sub, mul, round, lt}
use Rattle.aabb.specs.Aabb.{center_of}
use Rattle.order.specs.Lists.{keep, some, padded}
use Rattle.order.specs.Assign.{row_pairs, pairs, partner, open_pairs, least_pair, assigned, rounds_of}
use Rattle.order.specs.Order.{sign_of, direction_of, dot_of, direction_cost, cost_table, gathered_order, slots_of, placed, seated_of}
use Rattle.samples.specs.Seated.{SeatedSamples}

pub seated : SeatedSamples
unfolding placed seated_of slots_of gathered_order cost_table direction_cost dot_of direction_of sign_of center_of rounds_of assigned least_pair
    open_pairs partner pairs row_pairs padded keep some of_bits of_int add sub mul round lt
seated = record {
  ordered_T = refl;
  gathered_T = refl;
  later_first = refl;
  ties = refl;
  nobody = refl;
  left = refl;
  all_left = refl;
}
