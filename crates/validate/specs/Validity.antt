-- The cases of the record check's result, in the requirements' terms (01, "Causes of refusal").
use Rattle.std.specs.Prelude.{ℕ, Option, Some, None, Result, Ok, Err}
use Rattle.causes.specs.declared.Refusal.{Refusal}
use Rattle.causes.specs.Refusal.{cause_number}
use Rattle.record_shape.specs.Check.{Verdict, sound, unsound, refused}

-- where nothing refuses the check: sound with its deepest level, or unsound
unfoldable pub soundness : Option ℕ → Verdict
soundness (Some level) = sound level
soundness None = unsound

-- sound with its deepest level, unsound, or refused with the number of the first cause that holds
unfoldable pub verdict_of : Result (Option ℕ) Refusal → Verdict
unfolding soundness
verdict_of (Ok deepest) = soundness deepest
verdict_of (Err refusal) = refused (cause_number refusal)
