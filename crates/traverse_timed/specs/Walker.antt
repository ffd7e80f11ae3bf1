-- The walker at a quarter hour as the machine of words has it, and its calls on a record as bytes (02, [7]; 01, "Walking"; "Causes of refusal").
use Rattle.std.specs.Prelude.{true, false, cond, List, ℕ, zero, suc, ◌%◌, eqb, length, Float, Result, Ok, Err}
use Rattle.causes.specs.declared.Refusal.{Refusal}
use Rattle.causes.specs.Refusal.{cause_number}
use Rattle.causes.specs.Sizes.{sizes_fit}
use Rattle.ray.specs.declared.Ray.{Ray}
use Rattle.ray.specs.Ray.{accepted_ray}
use Rattle.span.specs.Span.{quarter_fits}
use Rattle.record_shape.specs.Record.{node_count}
use Rattle.walk.specs.Step as S
use Rattle.walk.specs.WordStep.{WalkerWords, SteppedWords, fresh_words, stay_words}
use Rattle.walk_record.specs.WalkRay.{WalkRay, walk_ray}
use Rattle.advance.specs.Turn.{step_answer}
use Rattle.timed.specs.Walk.{timed_step}
use Rattle.timed_entry.specs.Entry.{timetable, timed_conditions, timed_cause}
use Rattle.traverse.specs.Walker.{walker_words, no_walker, told_walker}
use Rattle.traverse_timed.specs.declared.TimedWalker.{TimedWalker}
use Rattle.traverse_timed.specs.declared.TimedStepped.{TimedStepped}

-- ---- the structs in the requirements' terms

-- a walker with the quarter hour of its ray
pub record TimedWords : Type 0 where
  pub walker : WalkerWords WalkRay
  pub quarter : ℕ

abbrev pub timed_words : TimedWalker → TimedWords
timed_words w = record { walker = walker_words w.walker; quarter = w.quarter }

-- the walker after a step with the step's answer
pub record TimedSteppedWords : Type 0 where
  pub walker : TimedWords
  pub answer : S.Answer

-- a step's walker with its quarter hour
abbrev pub at_quarter : (quarter : ℕ) → SteppedWords WalkRay → TimedSteppedWords
at_quarter quarter r = record { walker = record { walker = r.walker; quarter = quarter }; answer = r.answer }

abbrev pub timed_stepped_of : TimedStepped → TimedSteppedWords
timed_stepped_of s = record { walker = timed_words s.walker; answer = step_answer s.answer }

-- a walker begun, with the number of the cause that refuses it, 0 for none
pub record TimedBegun : Type 0 where
  pub walker : TimedWords
  pub refused : ℕ

-- ---- a walker just begun

-- refused, with a walker that can't be walked
abbrev pub not_begun : (cause : ℕ) → TimedBegun
not_begun cause = record { walker = record { walker = no_walker; quarter = 0 }; refused = cause }

-- a quarter hour that is none of a day is refused 14, and then a ray that is not accepted 9
unfoldable pub timed_started : Ray → (quarter : ℕ) → TimedBegun
unfolding quarter_fits
timed_started r quarter =
    cond (quarter_fits quarter)
    (cond (accepted_ray r) (record { walker = record { walker = fresh_words (walk_ray r); quarter = quarter }; refused = 0 }) (not_begun 9))
    (not_begun 14)

-- how beginning ends
abbrev pub timed_started_of : Result TimedWalker Refusal → TimedBegun
timed_started_of (Ok w) = record { walker = timed_words w; refused = 0 }
timed_started_of (Err refusal) = not_begun (cause_number refusal)

-- ---- telling

abbrev pub timed_told : Float → TimedWords → TimedWords
timed_told t w = record { walker = told_walker t w.walker; quarter = w.quarter }

-- ---- a step

module _ (bytes side indices : List ℕ) (panes : ℕ) (spans : List ℕ) where
  -- cause 14 of the lists, whatever the quarter hour: a walker's own that does not fit makes it a forged one
  abbrev pub lists_cause : ℕ
  lists_cause = timed_cause bytes (timetable side indices panes spans 0)

  -- what the lists' cause makes of a step
  abbrev pub unless_cause : ℕ → WalkerWords WalkRay → SteppedWords WalkRay → SteppedWords WalkRay
  unless_cause zero w r = r
  unless_cause (suc k) w r = stay_words w (S.refused (suc k))

  -- causes 1, 2 and 14, then the step of a walk at the quarter hour
  unfoldable pub step_over : (quarter : ℕ) → WalkerWords WalkRay → SteppedWords WalkRay
  unfolding timed_conditions
  step_over quarter w =
      elim (eqb (length bytes % 80) 0) [
        | false ↦ stay_words w (S.refused 1)
        | true ↦ cond (sizes_fit (node_count bytes) (length indices))
            (unless_cause lists_cause w (timed_step bytes (timetable side indices panes spans quarter) w)) (stay_words w (S.refused 2))
      ]

  -- the walker of a refused step is given back
  abbrev pub timed_step_bytes : TimedWords → TimedSteppedWords
  timed_step_bytes w = at_quarter w.quarter (step_over w.quarter w.walker)
