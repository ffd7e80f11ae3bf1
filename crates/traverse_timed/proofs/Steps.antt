-- A step at a quarter hour by its parts.
use mathlib.Core.Bool.{Bool, true, false, cond}
use mathlib.Core.List.{List, [], ◌∷◌}
use mathlib.Core.Path.{◌≡◌, refl, sym, ap, ◌∙◌}
use Prim.Native.Nat.{ℕ, zero, suc, ◌%◌}
use lib.Dec.{eqb}
use lib.ListN.{length}
use Rattle.causes.specs.Causes.{◌unless◌, first_cause}
use Rattle.causes.specs.Sizes.{sizes_fit, record_conditions, record_cause}
use Rattle.causes.proofs.Sizes.{Fit, sizes_tell}
use Rattle.lists.proofs.Tells.{tells_true, eqb_tells}
use Rattle.record_shape.specs.Record.{node_count}
use Rattle.walk.specs.Step as S
use Rattle.walk.specs.WordStep.{WalkerWords, SteppedWords, stay_words}
use Rattle.walk_record.specs.WalkRay.{WalkRay}
use Rattle.timed.specs.Walk.{timed_step}
use Rattle.timed_entry.specs.Entry.{timetable}
use Rattle.traverse_timed.specs.Walker.{lists_cause, unless_cause, step_over}

module _ (bytes side indices : List ℕ) (panes : ℕ) (spans : List ℕ) (quarter : ℕ) (w : WalkerWords WalkRay) where
  -- by the length, the sizes and the lists' cause
  abbrev by : Bool → Bool → ℕ → SteppedWords WalkRay
  by a b c =
      elim a [
        | false ↦ stay_words w (S.refused 1)
        | true ↦ cond b (unless_cause bytes side indices panes spans c w (timed_step bytes (timetable side indices panes spans quarter) w))
            (stay_words w (S.refused 2))
      ]

  abbrev lists : ℕ
  lists = lists_cause bytes side indices panes spans

  is : step_over bytes side indices panes spans quarter w ≡ by (eqb (length bytes % 80) 0) (sizes_fit (node_count bytes) (length indices)) lists
  unfolding step_over
  is = refl

  -- what the sizes say
  pub over_sizes : (k : ℕ) → k ≡ record_cause (length bytes) (length indices) → (k ≡ 0 → ⊥)
      → stay_words w (S.refused k) ≡ step_over bytes side indices panes spans quarter w
  unfolding record_conditions first_cause
  over_sizes k e h = go (eqb (length bytes % 80) 0) (sizes_fit (node_count bytes) (length indices)) e ∙ sym is
    where
      go : (a b : Bool) → k ≡ first_cause (1 unless a ∷ 2 unless b ∷ []) → stay_words w (S.refused k) ≡ by a b lists
      go false b z = ap (λ (x : ℕ). stay_words w (S.refused x)) z
      go true false z = ap (λ (x : ℕ). stay_words w (S.refused x)) z
      go true true z = absurd (h z)

  module _ (f : Fit (length bytes) (length indices)) where
    fits : by (eqb (length bytes % 80) 0) (sizes_fit (node_count bytes) (length indices)) lists ≡ by true true lists
    fits = λ i. by (tells_true (eqb_tells (length bytes % 80) 0) f.whole i)
        (tells_true (sizes_tell (node_count bytes) (length indices)) (f.few, f.small) i) lists

    -- what the lists say
    pub over_lists : (k : ℕ) → k ≡ lists → (k ≡ 0 → ⊥) → stay_words w (S.refused k) ≡ step_over bytes side indices panes spans quarter w
    over_lists k e h = go k e h ∙ sym (is ∙ fits ∙ ap (by true true) (sym e))
      where
        go : (j : ℕ) → j ≡ lists → (j ≡ 0 → ⊥) → stay_words w (S.refused j) ≡ by true true j
        go zero z n = absurd (n refl)
        go (suc j) z n = refl

    -- and else it is the walk's step
    pub over_steps : 0 ≡ lists → timed_step bytes (timetable side indices panes spans quarter) w ≡ step_over bytes side indices panes spans quarter w
    over_steps e = ap (by true true) e ∙ sym (is ∙ fits)
