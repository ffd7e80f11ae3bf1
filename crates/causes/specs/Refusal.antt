-- The error of a refused call (01, "Causes of refusal"): the number of its cause, and 0 where a call is not refused.
use Rattle.std.specs.Prelude.{ℕ, Result, Ok, Err}
use Rattle.causes.specs.declared.Refusal.{Refusal}
use Rattle.causes.specs.declared.Refusal.TheVariants as R

-- the number of the cause
abbrev pub cause_number : Refusal → ℕ
cause_number R.LengthUnfit = 1
cause_number R.TooMany = 2
cause_number R.LimitOver = 3
cause_number R.SliceShort = 4
cause_number R.LinkOutside = 5
cause_number R.BoxRefused = 6
cause_number R.NotOneTree = 7
cause_number R.TooDeep = 8
cause_number R.RayRefused = 9
cause_number R.Fault = 10
cause_number R.LossesUnfit = 12
cause_number R.IndexOver = 13
cause_number R.SpansUnfit = 14

-- the number of the cause that refuses, or 0 where there is an answer
abbrev pub cause_in : {A : Type 0} → Result A Refusal → ℕ
cause_in (Ok a) = 0
cause_in (Err refusal) = cause_number refusal
