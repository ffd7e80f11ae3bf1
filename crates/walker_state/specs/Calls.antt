-- The words that calls leave one after the other, by what each call's contract says (01, "Walking").
use Rattle.std.specs.Prelude.{List, [], ◌∷◌, ◌≡◌, ℕ, Float}
use Rattle.walk.specs.Step.{Answer}
use Rattle.walk.specs.WordStep.{WalkerWords}
use Rattle.walk_record.specs.WalkRay.{WalkRay}
use Rattle.traverse.specs.Calls.{RecordOp, step_on, tells}
use Rattle.traverse.specs.Walker.{step_bytes, told_walker}
use Rattle.walker_state.specs.State.{HeldWords, walker_in, is_refused, Leaves}

-- the walker that a state holds
abbrev pub held_by : HeldWords → WalkerWords WalkRay
held_by s = walker_in s.head s.stack

-- from the words s a list of calls leaves the words u, its steps having answered so
pub data CallsLead : List RecordOp → HeldWords → HeldWords → List Answer → Type 0 where
  none : {s : HeldWords} → CallsLead [] s s []
  steps : {s t u : HeldWords} {bytes : List ℕ} {n : ℕ} {l : List RecordOp} {answers : List Answer}
      → Leaves (is_refused (step_bytes bytes n (held_by s)).answer) s t (step_bytes bytes n (held_by s)).walker
      → CallsLead l t u answers → CallsLead (step_on bytes n ∷ l) s u ((step_bytes bytes n (held_by s)).answer ∷ answers)
  told : {s t u : HeldWords} {x : Float} {l : List RecordOp} {answers : List Answer} → held_by t ≡ told_walker x (held_by s)
      → CallsLead l t u answers → CallsLead (tells x ∷ l) s u answers
