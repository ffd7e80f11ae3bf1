-- The timed conversion as C and Rust call it (02, [7]): by a word of order, and with a number for its answer, as the untimed one.
use Rattle.std.specs.Prelude.{Bool, false, List, ℕ}
use Rattle.bvh2_to_cwbvh_timed.specs.TimedConversion.{TimedCall, TimedOutcome, timed_conversion_of}
use Rattle.funnelcress.specs.Converted.{by_order, order_refused, Handed, handed}

-- the timed conversion of the call with either; another order leaves the slice lent for the side table as it was too
unfoldable pub timed_conversion_by : (order : ℕ) → (Bool → TimedCall) → TimedOutcome
unfolding by_order order_refused
timed_conversion_by order call =
    let c = call false in
    by_order order (λ ordered. timed_conversion_of (call ordered)) (record { untimed = order_refused c.untimed; side = c.side })

-- what the caller has at the end: the number and the slices of the untimed conversion, and the side table's slice
pub record HandedTimed : Type 0 where
  pub untimed : Handed
  pub side : List ℕ

abbrev pub handed_timed : TimedOutcome → HandedTimed
handed_timed o = record { untimed = handed o.untimed; side = o.side }
