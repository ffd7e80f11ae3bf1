-- A step at a quarter hour is refused 1, 2 or 14 by its lists, whatever the walker, and gives it back; or it is the walk's.
use mathlib.Core.List.{List}
use mathlib.Core.Path.{◌≡◌, refl, sym, ◌∙◌}
use Prim.Native.Nat.{ℕ, zero, suc}
use native.Mathlib.Omega.{arith}
use lib.ListN.{length}
use Rattle.causes.specs.Sizes.{record_conditions, record_cause}
use Rattle.causes.proofs.Causes.{append_first, append_later}
use Rattle.causes.proofs.Sizes.{Fit, record_passed, none_record}
use Rattle.walk.specs.Step.{refused}
use Rattle.walk.specs.WordStep.{WalkerWords, stay_words}
use Rattle.walk_record.specs.WalkRay.{WalkRay}
use Rattle.timed.specs.Walk.{timed_step}
use Rattle.timed_entry.specs.Entry.{timetable}
use Rattle.traverse_timed.specs.Walker.{lists_cause, step_over}
use Rattle.traverse_timed.proofs.Steps.{over_sizes, over_lists, over_steps}
use Rattle.timed_demands.specs.Calls.{step_cause}

module _ (bytes side indices : List ℕ) (panes : ℕ) (spans : List ℕ) where
  -- the sizes, then the lists
  cause_sizes : (record_cause (length bytes) (length indices) ≡ 0 → ⊥)
      → step_cause bytes side indices panes spans ≡ record_cause (length bytes) (length indices)
  cause_sizes h = append_first (record_conditions (length bytes) (length indices)) _ h

  cause_lists : Fit (length bytes) (length indices) → step_cause bytes side indices panes spans ≡ lists_cause bytes side indices panes spans
  cause_lists f = append_later (record_conditions (length bytes) (length indices)) _ (record_passed (length bytes) (length indices) f)

  -- what a step with these lists does, whatever the walker and its quarter hour
  pub data Enters : Type 0 where
    refuses : (¬ (step_cause bytes side indices panes spans ≡ 0))
        → ((quarter : ℕ) (w : WalkerWords WalkRay) → step_over bytes side indices panes spans quarter w
        ≡ stay_words w (refused (step_cause bytes side indices panes spans)))
        → Enters
    walks : (step_cause bytes side indices panes spans ≡ 0) → Fit (length bytes) (length indices)
        → ((quarter : ℕ) (w : WalkerWords WalkRay) → step_over bytes side indices panes spans quarter w
        ≡ timed_step bytes (timetable side indices panes spans quarter) w)
        → Enters

  pub enters : Enters
  enters = sizes (record_cause (length bytes) (length indices)) refl
    where
      lists : Fit (length bytes) (length indices) → (k : ℕ) → lists_cause bytes side indices panes spans ≡ k → Enters
      lists f zero e = walks (cause_lists f ∙ e) f (λ q w. sym (over_steps bytes side indices panes spans q w f (sym e)))
      lists f (suc k) e =
          let c = cause_lists f in
          let n : ¬ (step_cause bytes side indices panes spans ≡ 0) = λ z. omega (arith, z, c, e) in
          refuses n (λ q w. sym (over_lists bytes side indices panes spans q w f (step_cause bytes side indices panes spans) c n))

      sizes : (k : ℕ) → record_cause (length bytes) (length indices) ≡ k → Enters
      sizes zero e = lists (none_record (length bytes) (length indices) e) (lists_cause bytes side indices panes spans) refl
      sizes (suc k) e =
          let c = cause_sizes (λ z. omega (arith, z, e)) in
          let n : ¬ (step_cause bytes side indices panes spans ≡ 0) = λ z. omega (arith, z, c, e) in
          refuses n (λ q w. sym (over_sizes bytes side indices panes spans q w (step_cause bytes side indices panes spans) c n))
