-- The result of the timed conversion in the requirements' terms (01, "Causes of refusal"; 02, [7]).
use Rattle.std.specs.Prelude.{List, ℕ, Float, Result}
use Rattle.causes.specs.declared.Refusal.{Refusal}
use Rattle.bvh2_to_cwbvh.specs.declared.Converted.{Converted}
use Rattle.bvh2_to_cwbvh.specs.Answer.{outcome_of}
use Rattle.bvh2_to_cwbvh_timed.specs.TimedConversion.{TimedOutcome}

-- that of the untimed conversion with its slices at the end, and the slice lent for the side table
abbrev pub timed_outcome_of : Result Converted Refusal → (decisions : List ℕ) (costs : List Float) (bytes list side : List ℕ) → TimedOutcome
timed_outcome_of r decisions costs bytes list side = record { untimed = outcome_of r decisions costs bytes list; side = side }
