-- Runs of steps and tellings over records as bytes (01, "Walking"): on whatever records, and on one, which is demand 3's list.
use Rattle.std.specs.Prelude.{List, [], ◌∷◌, Float, ℕ}
use Rattle.walk.specs.Calls.{Op, step, tell}
use Rattle.walk.specs.WordStep.{WalkerWords, RunWords}
use Rattle.walk_record.specs.WalkRay.{WalkRay}
use Rattle.traverse.specs.Walker.{step_bytes, told_walker}

-- one call: a step that brings a record with its count of positions, or a distance told
pub data RecordOp : Type 0 where
  step_on : List ℕ → ℕ → RecordOp
  tells : Float → RecordOp

-- Each call takes the walker that the last returned. A refused step returns the walker that it took, so the next takes that one.
unfoldable pub run_each : List RecordOp → WalkerWords WalkRay → RunWords WalkRay
unfolding step_bytes
run_each [] w = record { walker = w; answers = [] }
run_each (step_on bytes n ∷ l) w =
    let r = run_each l (step_bytes bytes n w).walker in
    record { walker = r.walker; answers = (step_bytes bytes n w).answer ∷ r.answers }
run_each (tells t ∷ l) w = run_each l (told_walker t w)

-- the same record at each step
abbrev pub on_record : List ℕ → List (Op Float) → List RecordOp
on_record bytes [] = []
on_record bytes (step n ∷ l) = step_on bytes n ∷ on_record bytes l
on_record bytes (tell t ∷ l) = tells t ∷ on_record bytes l

-- demand 3's list: steps and tellings on one record
unfoldable pub run_bytes : List ℕ → List (Op Float) → WalkerWords WalkRay → RunWords WalkRay
unfolding run_each
run_bytes bytes l w = run_each (on_record bytes l) w
