-- Runs of timed steps and tellings on one record as bytes, each step with lists of its own (02, [7]; 01, "Walking").
use Rattle.std.specs.Prelude.{List, [], ◌∷◌, ◌++◌, ◌⊎◌, ◌≡◌, ℕ, Float, length}
use Rattle.causes.specs.Causes.{first_cause}
use Rattle.causes.specs.Sizes.{record_conditions}
use Rattle.ray.specs.declared.Ray.{Ray}
use Rattle.walk.specs.Step.{Answer}
use Rattle.walk.specs.Calls.{reported}
use Rattle.walk.specs.Reports.{tested_nodes}
use Rattle.timed.specs.Hours.{Timetable}
use Rattle.timed_entry.specs.Entry.{timetable, timed_conditions}
use Rattle.traverse_timed.specs.Walker.{TimedWords, timed_started, step_over, timed_step_bytes, timed_told}

-- one call: a step that brings a side table, an index list, a count of panes and their spans; or a distance told
pub data TimedOp : Type 0 where
  step_beside : (side indices : List ℕ) → (panes : ℕ) → (spans : List ℕ) → TimedOp
  tells : Float → TimedOp

-- the walker last held, and the answers of the steps
pub record TimedRun : Type 0 where
  pub walker : TimedWords
  pub answers : List Answer

module _ (bytes : List ℕ) where
  -- Each call takes the walker that the last returned. A refused step returns the walker that it took, so the next takes that one.
  unfoldable pub run_beside : List TimedOp → TimedWords → TimedRun
  unfolding step_over
  run_beside [] w = record { walker = w; answers = [] }
  run_beside (step_beside side indices panes spans ∷ l) w =
      let s = timed_step_bytes bytes side indices panes spans w in
      let r = run_beside l s.walker in
      record { walker = r.walker; answers = s.answer ∷ r.answers }
  run_beside (tells t ∷ l) w = run_beside l (timed_told t w)

  -- from the walker that `TimedWalker::new` begins with
  abbrev pub timed_run_of : Ray → (quarter : ℕ) → List TimedOp → TimedRun
  timed_run_of ray quarter l = run_beside l (timed_started ray quarter).walker

  -- the positions that its steps report, in order, the nodes that they test, and how many groups wait in the walker that it leaves
  abbrev pub timed_reports : Ray → (quarter : ℕ) → List TimedOp → List ℕ
  timed_reports ray quarter l = reported (timed_run_of ray quarter l).answers

  abbrev pub timed_nodes : Ray → (quarter : ℕ) → List TimedOp → List ℕ
  timed_nodes ray quarter l = tested_nodes (timed_run_of ray quarter l).answers

  abbrev pub timed_waiting : Ray → (quarter : ℕ) → List TimedOp → ℕ
  timed_waiting ray quarter l = (timed_run_of ray quarter l).walker.walker.depth

  -- the number of the cause that refuses a step with these lists whatever the walker, 1, 2 or 14; and 0 for none
  abbrev pub step_cause : (side indices : List ℕ) → (panes : ℕ) → (spans : List ℕ) → ℕ
  step_cause side indices panes spans =
      first_cause (record_conditions (length bytes) (length indices) ++ timed_conditions bytes (timetable side indices panes spans 0))

  -- ---- the lists that steps bring

  -- a step brings the lists of h
  abbrev pub Brings : Timetable → TimedOp → Type 0
  Brings h (step_beside side indices panes spans) = timetable side indices panes spans h.quarter ≡ h
  Brings h (tells t) = Unit {0}

  -- or others with which it is refused 1, 2 or 14
  abbrev pub Beside : Timetable → TimedOp → Type 0
  Beside h (step_beside side indices panes spans) =
      (timetable side indices panes spans h.quarter ≡ h) ⊎ ¬ (step_cause side indices panes spans ≡ 0)
  Beside h (tells t) = Unit {0}
