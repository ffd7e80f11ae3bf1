-- A run of timed calls, each of whose steps brings the lists of h or others that refuse it on entry, tests and reports what the walk's run does over
-- the steps that are left, and leaves its walker.
use mathlib.Core.Bool.{true}
use mathlib.Core.List.{List, [], ◌∷◌, ◌++◌}
use mathlib.Core.Logic.{inl, inr}
use mathlib.Core.Path.{◌≡◌, refl, sym, ap, ◌∙◌, subst}
use Prim.Native.Nat.{ℕ}
use lib.ListN.{length}
use lib.Ieee.{Float}
use Rattle.ray.specs.declared.Ray.{Ray}
use Rattle.ray.specs.Ray.{accepted_ray}
use Rattle.span.specs.Span.{quarter_fits}
use Rattle.walk.specs.Step as S
use Rattle.walk.specs.Calls.{All, Op, step, tell, position_in, reported}
use Rattle.walk.specs.Reports.{test_of, tested_nodes}
use Rattle.walk.specs.WordStep.{WalkerWords, SteppedWords, fresh_words, stay_words, run_words}
use Rattle.walk_record.specs.WalkRay.{WalkRay, walk_ray}
use Rattle.walk_record.specs.Walk.{step_at, run_at}
use Rattle.traverse.specs.Walker.{told_walker}
use Rattle.timed.specs.Hours.{Timetable}
use Rattle.timed.specs.Walk.{rays_at, timed_step}
use Rattle.traverse_timed.specs.Walker.{TimedWords, timed_started}
use Rattle.timed_demands.specs.Calls.{TimedOp, step_beside, tells, TimedRun, run_beside, timed_run_of, step_cause, Beside}
use Rattle.timed_demands.proofs.Entry.{Enters, refuses, walks, enters}

-- a walker just begun at a quarter hour of a day, on an accepted ray
pub timed_begins : (r : Ray) (quarter : ℕ) → quarter_fits quarter ≡ true → accepted_ray r ≡ true
    → (timed_started r quarter).walker ≡ record { walker = fresh_words (walk_ray r); quarter = quarter }
unfolding timed_started
timed_begins r quarter f a = rw (f, a) refl

module _ (bytes : List ℕ) (h : Timetable) where
  -- a run from walker w, and the walk's run over the steps that are left
  pub record Kept (x : TimedRun) (w : WalkerWords WalkRay) : Type 0 where
    pub calls : List (Op Float)
    pub walker : x.walker ≡ record { walker = (run_at bytes (rays_at h) calls w).walker; quarter = h.quarter }
    pub reports : reported x.answers ≡ reported (run_at bytes (rays_at h) calls w).answers
    pub tests : tested_nodes x.answers ≡ tested_nodes (run_at bytes (rays_at h) calls w).answers

  abbrev run_from : List TimedOp → WalkerWords WalkRay → TimedRun
  run_from l w = run_beside bytes l (record { walker = w; quarter = h.quarter })

  -- a run that begins with a step
  abbrev after : List TimedOp → SteppedWords WalkRay → TimedRun
  after l r = record { walker = (run_from l r.walker).walker; answers = r.answer ∷ (run_from l r.walker).answers }

  step_refused : (l : List TimedOp) (w : WalkerWords WalkRay) (k : ℕ) → Kept (run_from l w) w → Kept (after l (stay_words w (S.refused k))) w
  step_refused l w k K = record { calls = K.calls; walker = K.walker; reports = K.reports; tests = K.tests }

  step_walked : (l : List TimedOp) (w : WalkerWords WalkRay)
      → Kept (run_from l (timed_step bytes h w).walker) (timed_step bytes h w).walker → Kept (after l (timed_step bytes h w)) w
  unfolding run_at run_words step_at
  step_walked l w K = record {
    calls = step (length h.indices) ∷ K.calls;
    walker = K.walker;
    reports = ap (λ (x : List ℕ). position_in (timed_step bytes h w).answer ++ x) K.reports;
    tests = ap (λ (x : List ℕ). test_of (timed_step bytes h w).answer ++ x) K.tests;
  }

  told_kept : (l : List TimedOp) (t : Float) (w : WalkerWords WalkRay) → Kept (run_from l (told_walker t w)) (told_walker t w)
      → Kept (run_from l (told_walker t w)) w
  unfolding run_at run_words
  told_kept l t w K = record { calls = tell t ∷ K.calls; walker = K.walker; reports = K.reports; tests = K.tests }

  pub kept : (l : List TimedOp) → All (Beside bytes h) l → (w : WalkerWords WalkRay) → Kept (run_from l w) w
  unfolding run_beside run_at run_words
  kept [] b w = record { calls = []; walker = refl; reports = refl; tests = refl }
  kept (step_beside side indices panes spans ∷ l) b w = go b.0 (enters bytes side indices panes spans) (kept l b.1)
    where
      go : Beside bytes h (step_beside side indices panes spans) → Enters bytes side indices panes spans
          → ((u : WalkerWords WalkRay) → Kept (run_from l u) u) → Kept (run_from (step_beside side indices panes spans ∷ l) w) w
      go e (refuses some same) later =
          subst (λ (r : SteppedWords WalkRay). Kept (after l r) w) (sym (same h.quarter w))
          (step_refused l w (step_cause bytes side indices panes spans) (later w))
      go (inl e) (walks none fit same) later =
          subst (λ (r : SteppedWords WalkRay). Kept (after l r) w)
          (sym (same h.quarter w ∙ ap (λ (t : Timetable). timed_step bytes t w) e))
          (step_walked l w (later (timed_step bytes h w).walker))
      go (inr n) (walks none fit same) later = absurd (n none)
  kept (tells t ∷ l) b w = told_kept l t w (kept l b.1 (told_walker t w))

  -- from a walker just begun
  pub begun_kept : quarter_fits h.quarter ≡ true → (ray : Ray) → accepted_ray ray ≡ true → (l : List TimedOp) → All (Beside bytes h) l
      → Kept (timed_run_of bytes ray h.quarter l) (fresh_words (walk_ray ray))
  begun_kept f ray a l b =
      subst (λ (w : TimedWords). Kept (run_beside bytes l w) (fresh_words (walk_ray ray))) (sym (timed_begins ray h.quarter f a))
      (kept l b (fresh_words (walk_ray ray)))
