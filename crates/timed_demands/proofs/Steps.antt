-- Lists of timed steps and tellings over every sound record, each step with the lists of h or with others that refuse it: no position is reported
-- twice, none that boxes and spans do not let through, and few groups wait; and where all bring the lists of h no
-- step is refused.
use mathlib.Core.List.{List, Nodup}
use mathlib.Core.Path.{sym, ap, ◌∙◌, subst}
use Prim.Native.Nat.{ℕ, ◌≤◌}
use lib.ListN.{length}
use Rattle.ray.specs.declared.Ray.{Ray}
use Rattle.record_shape.specs.Record.{DeepestLevel}
use Rattle.walk.specs.Calls.{All, Answered}
use Rattle.walk.specs.WordStep.{fresh_words}
use Rattle.walk_record.specs.WalkRay.{walk_ray}
use Rattle.timed.specs.Hours.{Timetable}
use Rattle.timed.specs.Reached.{SoundAt, PassedAt}
use Rattle.timed.proofs.Steps.{timed_report_once, timed_pass, timed_wait_few, timed_answered}
use Rattle.traverse_timed.specs.Walker.{TimedWords}
use Rattle.demands.specs.Walks.{AcceptedRay}
use Rattle.demands.proofs.Rays.{not_forged}
use Rattle.timed_demands.specs.Calls.{TimedOp, run_beside, timed_run_of, Brings, Beside}
use Rattle.timed_demands.specs.Walks.{CheckedAt, StepsAt}
use Rattle.timed_demands.proofs.Runs.{timed_begins, begun_kept}
use Rattle.timed_demands.proofs.Brought.{ops, ops_with, brought_answers}

module _ {bytes : List ℕ} {h : Timetable} {ray : Ray} (accepted : AcceptedRay ray) where
  -- For every list of steps and tellings from a walker just begun, refused steps included: `StepsAt` says it in full.
  pub timed_steps : SoundAt bytes h → (d : ℕ) → DeepestLevel bytes (length h.indices) d → (l : List TimedOp) → All (Beside bytes h) l
      → StepsAt bytes h ray d l
  timed_steps good d deepest l b =
      let K = begun_kept bytes h good.quarter ray accepted.accepted l b in
      let a = not_forged accepted in
      record {
        no_position_twice = subst Nodup (sym K.reports) (timed_report_once good ray a K.calls);
        only_passed = subst (All (PassedAt bytes h ray)) (sym K.reports) (timed_pass good ray a K.calls);
        groups_within_level = subst (λ (w : TimedWords). w.walker.depth ≤ d) (sym K.walker) (timed_wait_few good ray a d deepest K.calls);
      }

  -- Where each step brings the lists of h, and they fit, none is refused.
  pub no_step_refused : CheckedAt bytes h → (l : List TimedOp) → All (Brings bytes h) l
      → All Answered (timed_run_of bytes ray h.quarter l).answers
  no_step_refused good l b =
      let n = length h.indices in
      subst (All Answered)
      (sym
      (ap (λ (w : TimedWords). (run_beside bytes l w).answers) (timed_begins ray h.quarter good.sound_at.quarter accepted.accepted)
      ∙ brought_answers good l b (fresh_words (walk_ray ray))))
      (timed_answered good.sound_at ray (not_forged accepted) (ops n l) (ops_with n l))
