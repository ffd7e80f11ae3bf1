-- Cause 14 of a report at quarter hours by that of its lists, which are first looked at beside the quarter hour 0.
use mathlib.Core.Bool.{Bool, true, false}
use mathlib.Core.List.{List, [], ◌∷◌}
use mathlib.Core.Path.{◌≡◌, refl, sym}
use Prim.Native.Nat.{ℕ, ◌<◌}
use native.Mathlib.Omega.{arith}
use lib.ListN.{length, get_or}
use Rattle.causes.specs.Causes.{◌unless◌, first_cause, place_in, place_of, order}
use Rattle.causes.proofs.Causes.{sorted, none_passed, passed_none}
use Rattle.lists.proofs.Tells.{all_at}
use Rattle.span.specs.Span.{quarter_fits}
use Rattle.timed.specs.Hours.{Timetable}
use Rattle.timed_entry.specs.Entry.{timetable, timed_conditions, timed_cause}
use Rattle.loss_timed.specs.Timed.{quarters_fit, hours_conditions}

-- of three tests with one number, the last of which passes or is another
others_first : (a b q : Bool) → (first_cause (14 unless a ∷ 14 unless b ∷ 14 unless true ∷ []) ≡ 0 → ⊥)
    → first_cause (14 unless a ∷ 14 unless b ∷ 14 unless true ∷ []) ≡ first_cause (14 unless a ∷ 14 unless b ∷ 14 unless q ∷ [])
unfolding first_cause
others_first true true q h = absurd (h refl)
others_first true false q h = refl
others_first false b q h = refl

others_none : (a b q : Bool) → first_cause (14 unless a ∷ 14 unless b ∷ 14 unless true ∷ []) ≡ 0
    → first_cause (14 unless q ∷ []) ≡ first_cause (14 unless a ∷ 14 unless b ∷ 14 unless q ∷ [])
unfolding first_cause
others_none true true q e = refl
others_none true false q e = absurd (omega (arith, e))
others_none false b q e = absurd (omega (arith, e))

module _ (bytes side indices : List ℕ) (panes : ℕ) (spans quarters : List ℕ) where
  abbrev lists : Timetable
  lists = timetable side indices panes spans 0

  -- where the lists do not fit
  pub hours_first : (timed_cause bytes lists ≡ 0 → ⊥) → timed_cause bytes lists ≡ first_cause (hours_conditions bytes lists quarters)
  unfolding timed_conditions hours_conditions quarter_fits
  hours_first = others_first _ _ (quarters_fit quarters)

  -- where they do
  pub hours_last : timed_cause bytes lists ≡ 0
      → first_cause (14 unless quarters_fit quarters ∷ []) ≡ first_cause (hours_conditions bytes lists quarters)
  unfolding timed_conditions hours_conditions quarter_fits
  hours_last = others_none _ _ (quarters_fit quarters)

  -- where no cause holds each byte is a quarter hour of a day
  pub quarters_entered : 0 ≡ first_cause (hours_conditions bytes lists quarters) → (i : ℕ) → i < length quarters
      → quarter_fits (get_or quarters i 0) ≡ true
  unfolding hours_conditions quarters_fit sorted place_of order place_in
  quarters_entered e =
      all_at (λ i. quarter_fits (get_or quarters i 0)) (length quarters)
      (none_passed 0 (hours_conditions bytes lists quarters) tt (sym e)).1.1.0

  -- so no own call of a ray finds that cause
  pub own_entered : 0 ≡ first_cause (hours_conditions bytes lists quarters) → (i : ℕ) → i < length quarters
      → timed_cause bytes (timetable side indices panes spans (get_or quarters i 0)) ≡ 0
  unfolding hours_conditions timed_conditions sorted place_of order place_in
  own_entered e i h =
      let p = none_passed 0 (hours_conditions bytes lists quarters) tt (sym e) in
      passed_none (timed_conditions bytes (timetable side indices panes spans (get_or quarters i 0))) (p.0, (p.1.0, (quarters_entered e i h, tt)))
