-- A run of timed calls each of whose steps brings the lists of h, which are such that none is refused on entry, is the walk's run.
use mathlib.Core.List.{List, [], ◌∷◌}
use mathlib.Core.Path.{◌≡◌, refl, sym, ap, ◌∙◌, subst}
use Prim.Native.Nat.{ℕ, ◌*◌}
use borrow.Author.Tests.{eq-eqb}
use lib.ListN.{length}
use lib.Ieee.{Float}
use Rattle.causes.specs.Sizes.{record_conditions}
use Rattle.causes.proofs.Causes.{passed_none, append_later}
use Rattle.causes.proofs.Sizes.{record_passed}
use Rattle.span.specs.Span.{quarter_fits}
use Rattle.record_shape.specs.Record.{node_count}
use Rattle.walk.specs.Step.{Answer}
use Rattle.walk.specs.Calls.{All, Op, step, tell, StepsWith}
use Rattle.walk.specs.WordStep.{WalkerWords, SteppedWords, run_words}
use Rattle.walk_record.specs.WalkRay.{WalkRay}
use Rattle.walk_record.specs.Walk.{step_at, run_at}
use Rattle.traverse.specs.Walker.{told_walker}
use Rattle.timed.specs.Hours.{Timetable}
use Rattle.timed.specs.Walk.{rays_at, timed_step}
use Rattle.timed_entry.specs.Entry.{timetable, timed_conditions}
use Rattle.traverse_timed.specs.Walker.{step_over}
use Rattle.timed_demands.specs.Calls.{TimedOp, step_beside, tells, run_beside, step_cause, Brings}
use Rattle.timed_demands.specs.Walks.{CheckedAt}
use Rattle.timed_demands.proofs.Entry.{Enters, refuses, walks, enters}
use Rattle.timed_demands.proofs.Listed.{sizes_fit_lem}

-- the walk's calls
pub ops : ℕ → List TimedOp → List (Op Float)
ops n [] = []
ops n (step_beside side indices panes spans ∷ l) = step n ∷ ops n l
ops n (tells t ∷ l) = tell t ∷ ops n l

pub ops_with : (n : ℕ) (l : List TimedOp) → All (StepsWith n) (ops n l)
unfolding ops
ops_with n [] = tt
ops_with n (step_beside side indices panes spans ∷ l) = (refl, ops_with n l)
ops_with n (tells t ∷ l) = (tt, ops_with n l)

module _ {bytes : List ℕ} {h : Timetable} (good : CheckedAt bytes h) where
  -- lists that fit are no cause
  fits_none : step_cause bytes h.side h.indices h.panes h.spans ≡ 0
  unfolding timed_conditions quarter_fits
  fits_none =
      append_later (record_conditions (length bytes) (length h.indices)) _ (record_passed (length bytes) (length h.indices) (sizes_fit_lem good))
      ∙ passed_none (timed_conditions bytes (timetable h.side h.indices h.panes h.spans 0))
      (good.spans, (eq-eqb (length h.side) (16 * node_count bytes) good.sound_at.rows, (refl, tt)))

  brought_none : (side indices : List ℕ) (panes : ℕ) (spans : List ℕ) → timetable side indices panes spans h.quarter ≡ h
      → step_cause bytes side indices panes spans ≡ 0
  brought_none side indices panes spans e =
      subst (λ (t : Timetable). step_cause bytes t.side t.indices t.panes t.spans ≡ 0) (sym e) fits_none

  brought_step : (side indices : List ℕ) (panes : ℕ) (spans : List ℕ) → timetable side indices panes spans h.quarter ≡ h
      → (w : WalkerWords WalkRay) → Enters bytes side indices panes spans
      → step_over bytes side indices panes spans h.quarter w ≡ timed_step bytes h w
  brought_step side indices panes spans e w (refuses some same) = absurd (some (brought_none side indices panes spans e))
  brought_step side indices panes spans e w (walks none fit same) = same h.quarter w ∙ ap (λ (t : Timetable). timed_step bytes t w) e

  pub brought_answers : (l : List TimedOp) → All (Brings bytes h) l → (w : WalkerWords WalkRay)
      → (run_beside bytes l (record { walker = w; quarter = h.quarter })).answers ≡ (run_at bytes (rays_at h) (ops (length h.indices) l) w).answers
  unfolding run_beside run_at run_words step_at ops
  brought_answers [] b w = refl
  brought_answers (step_beside side indices panes spans ∷ l) b w =
      let e = brought_step side indices panes spans b.0 w (enters bytes side indices panes spans) in
      ap (λ (r : SteppedWords WalkRay). r.answer ∷ (run_beside bytes l (record { walker = r.walker; quarter = h.quarter })).answers) e
      ∙ ap (λ (a : List Answer). (timed_step bytes h w).answer ∷ a) (brought_answers l b.1 (timed_step bytes h w).walker)
  brought_answers (tells t ∷ l) b w = brought_answers l b.1 (told_walker t w)
