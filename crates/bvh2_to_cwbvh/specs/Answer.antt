-- The result of conversion in the requirements' terms (01, "Causes of refusal").
use Rattle.std.specs.Prelude.{List, ℕ, Float, Result, Ok, Err}
use Rattle.causes.specs.declared.Refusal.{Refusal}
use Rattle.causes.specs.Refusal.{cause_number}
use Rattle.bvh2_to_cwbvh.specs.Conversion.{ConversionAnswer, converted, refused, Outcome}
use Rattle.bvh2_to_cwbvh.specs.declared.Converted.{Converted}

-- converted, with the number of record nodes and the deepest level, or refused with the number of the first cause that holds
unfoldable pub conversion_answer : Result Converted Refusal → ConversionAnswer
conversion_answer (Ok c) = converted c.nodes c.level
conversion_answer (Err refusal) = refused (cause_number refusal)

-- with the lent slices at the end
abbrev pub outcome_of : Result Converted Refusal → (decisions : List ℕ) (costs : List Float) (bytes list : List ℕ) → Outcome
outcome_of r decisions costs bytes list = record { answer = conversion_answer r; decisions = decisions; costs = costs; bytes = bytes; list = list }
