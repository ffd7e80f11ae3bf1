-- A step by its parts, and telling.
use mathlib.Core.Path.{◌≡◌, refl, sym, ap, ◌∙◌}
use mathlib.Core.Bool.{Bool, true, false, ◌&&◌, cond}
use mathlib.Core.List.{List, [], ◌∷◌}
use Prim.Native.Nat.{ℕ, ◌%◌}
use lib.Dec.{eqb, leb}
use lib.ListN.{length}
use lib.Ieee.{Float}
use Rattle.ray.specs.Ray.{reaching, counts}
use Rattle.lists.proofs.Tells.{tells_true, eqb_tells}
use Rattle.std.specs.Prelude.{Result, Ok, Err}
use Rattle.causes.specs.declared.Refusal.{Refusal}
use Rattle.causes.specs.Refusal.{cause_in}
use Rattle.causes.specs.Causes.{◌unless◌, first_cause}
use Rattle.causes.specs.Sizes.{sizes_fit, record_conditions, record_cause}
use Rattle.causes.proofs.Sizes.{Fit}
use Rattle.record_shape.specs.Record.{node_count}
use Rattle.walk.specs.Step as S
use Rattle.walk.specs.WordStep.{WalkerWords, SteppedWords, NodeWords, stay_words, emptied_words, past_skips, forged_words, only_first_words}
use Rattle.walk.specs.WordStep.{advance_words, step_words}
use Rattle.gate.specs.Gates.{all_open}
use Rattle.walk_step.specs.Parts.{is_forged}
use Rattle.walk_step.proofs.Parts as P
use Rattle.walk_record.specs.WalkRay.{WalkRay, by_boxes}
use Rattle.walk_record.specs.Record.{node_words_at}
use Rattle.walk_record.specs.Walk.{step_at}
use Rattle.traverse.specs.Walker.{step_bytes, told_walker}

-- ---- telling
module _ (w : WalkerWords WalkRay) (t : Float) where
  abbrev told : Bool → WalkerWords WalkRay
  told b = record {
    ray = record { ray = cond b (reaching t w.ray.ray) w.ray.ray; octant = w.ray.octant };
    tests = w.tests;
    positions = w.positions;
    current = w.current;
    depth = w.depth;
    stack = w.stack;
  }

  pub told_farther : counts w.ray.ray t ≡ false → told false ≡ told_walker t w
  told_farther e = sym (ap told e)

-- ---- a step

-- a call that gives no error has no cause
pub no_error : {A : Type 0} (r : Result A Refusal) → ((refusal : Refusal) → r ≡ Err refusal → ⊥) → cause_in r ≡ 0
no_error (Ok a) h = refl
no_error (Err refusal) h = absurd (h refusal refl)

module _ (bytes : List ℕ) (n : ℕ) (w : WalkerWords WalkRay) where
  abbrev m : ℕ
  m = node_count bytes

  abbrev N : NodeWords WalkRay Float
  N = node_words_at bytes by_boxes

  -- what follows where the sizes fit
  abbrev rest : SteppedWords WalkRay
  rest =
      cond (forged_words m N w) (stay_words w (S.refused 10))
      (cond (leb m 0 && only_first_words m N (past_skips N w)) (emptied_words (past_skips N w)) (advance_words m N n w))

  -- by the length
  abbrev by : Bool → SteppedWords WalkRay
  by a = elim a [ false ↦ stay_words w (S.refused 1) | true ↦ step_at bytes by_boxes n w ]

  -- what the sizes say
  pub step_sizes : (k : ℕ) → k ≡ record_cause (length bytes) n → (k ≡ 0 → ⊥) → stay_words w (S.refused k) ≡ step_bytes bytes n w
  unfolding record_conditions first_cause step_bytes step_at step_words
  step_sizes k e h = go (eqb (length bytes % 80) 0) (sizes_fit m n) e
    where
      go : (a b : Bool) → k ≡ first_cause (1 unless a ∷ 2 unless b ∷ [])
          → stay_words w (S.refused k) ≡ elim a [
            | false ↦ stay_words w (S.refused 1)
            | true ↦ cond b rest (stay_words w (S.refused 2))
          ]
      go false b z = ap (λ (x : ℕ). stay_words w (S.refused x)) z
      go true false z = ap (λ (x : ℕ). stay_words w (S.refused x)) z
      go true true z = absurd (h z)

  module _ (f : Fit (length bytes) n) where
    -- else it is the machine's
    pub step_fits : step_words m N n w ≡ step_bytes bytes n w
    unfolding step_bytes step_at
    step_fits = sym (ap by (tells_true (eqb_tells (length bytes % 80) 0) f.whole))

    pub step_forged : is_forged w.ray.ray w.ray.octant w.depth w.tests m ≡ true → stay_words w (S.refused 10) ≡ step_bytes bytes n w
    step_forged e = P.step_forged all_open bytes n w f refl e ∙ step_fits
