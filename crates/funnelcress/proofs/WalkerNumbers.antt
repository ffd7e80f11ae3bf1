-- What a walker begins with, and that no two steps' answers share a number.
use mathlib.Core.Bool.{not}
use mathlib.Core.List.{List}
use mathlib.Core.Path.{◌≡◌, refl, ap, subst, ◌∙◌}
use Prim.Native.Nat.{ℕ, ◌<◌}
use native.Mathlib.Omega.{arith}
use lib.Dec.{eqb}
use lib.Ieee.{Float}
use lib.ListN.{length}
use Rattle.ray.specs.declared.Beam.{Beam}
use Rattle.ray.specs.declared.Ray.{Ray}
use Rattle.ray.specs.Ray.{ray_from}
use Rattle.walk.specs.Step.{Answer, tested, position, done, refused}
use Rattle.traverse.specs.Walker.{started}
use Rattle.walker_state.specs.State.{HeldWords, Leaves}
use Rattle.packed.specs.Packed.{beam_in, ray_in}
use Rattle.funnelcress.specs.Walkers.{begin_cause, step_number}
use Rattle.funnelcress.proofs.QueryAnswers.{same_ray, fit, unfit}

-- ---- a walker begun, or refused

module _ (ray : List Float) where
  pub begin_unfit : (length ray ≡ 8 → ⊥) → 1 ≡ begin_cause ray
  unfolding begin_cause
  begin_unfit h = unfit ray 1 (started (ray_in ray 0)).refused h

  pub begin_fit : (b : Beam) → length ray ≡ 8 → b ≡ beam_in ray 0 → (k : ℕ) → k ≡ (started (ray_from b)).refused → k ≡ begin_cause ray
  unfolding begin_cause
  begin_fit b g e k j = j ∙ ap (λ (x : Ray). (started x).refused) (same_ray ray b e) ∙ fit ray 1 (started (ray_in ray 0)).refused g

  -- what is left for a ray made again is left for the ray
  pub begin-leaves : (before after : HeldWords) (b : Beam) → b ≡ beam_in ray 0 → (k : ℕ) → k ≡ begin_cause ray
      → Leaves (not (eqb k 0)) before after (started (ray_from b)).walker
      → Leaves (not (eqb (begin_cause ray) 0)) before after (started (ray_in ray 0)).walker
  begin-leaves before after b e k q h =
      subst (λ (x : ℕ). Leaves (not (eqb x 0)) before after (started (ray_in ray 0)).walker) q
      (subst (λ (x : Ray). Leaves (not (eqb k 0)) before after (started x).walker) (same_ray ray b e) h)

-- ---- a step

-- what an answer holds is a word
unfoldable pub StepHolds : Answer → Type 0
StepHolds (tested v) = v < 0x1_0000_0000
StepHolds (position p) = p < 0x1_0000_0000
StepHolds done = Unit {0}
StepHolds (refused k) = k < 0x1_0000_0000

-- answers with the same number are the same
pub steps_apart : (a b : Answer) → StepHolds a → StepHolds b → step_number a ≡ step_number b → a ≡ b
unfolding step_number StepHolds
steps_apart (tested v) (tested u) h k e = ap tested e
steps_apart (tested v) (position u) h k e = absurd (omega arith)
steps_apart (tested v) done h k e = absurd (omega arith)
steps_apart (tested v) (refused u) h k e = absurd (omega arith)
steps_apart (position v) (tested u) h k e = absurd (omega arith)
steps_apart (position v) (position u) h k e = ap position (omega arith)
steps_apart (position v) done h k e = absurd (omega arith)
steps_apart (position v) (refused u) h k e = absurd (omega arith)
steps_apart done (tested u) h k e = absurd (omega arith)
steps_apart done (position u) h k e = absurd (omega arith)
steps_apart done done h k e = refl
steps_apart done (refused u) h k e = absurd (omega arith)
steps_apart (refused v) (tested u) h k e = absurd (omega arith)
steps_apart (refused v) (position u) h k e = absurd (omega arith)
steps_apart (refused v) done h k e = absurd (omega arith)
steps_apart (refused v) (refused u) h k e = ap refused (omega arith)
