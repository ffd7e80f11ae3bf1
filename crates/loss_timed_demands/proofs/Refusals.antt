-- The number with which a call of `loss_timed` is refused is the first cause's, in the order of causes (02, [3] and [7]).
use mathlib.Core.Bool.{true}
use mathlib.Core.List.{List, [], ◌∷◌, ◌++◌}
use mathlib.Core.Logic.{◌⊎◌, inl, inr, ◌↔◌}
use mathlib.Core.Path.{◌≡◌, refl, sym, ap, ◌∙◌, subst}
use Prim.Native.Nat.{ℕ, ◌*◌}
use lib.Dec.{T, leb}
use lib.ListN.{length}
use Rattle.lists.proofs.Tells.{denied, tells_false, eqb_tells}
use Rattle.causes.specs.Causes.{Condition, ◌unless◌, first_cause, place_of}
use Rattle.causes.specs.Sizes.{record_conditions}
use Rattle.causes.proofs.Causes.{given-same, sorted, all_numbers}
use Rattle.causes.proofs.First.{Shows, Fails, shows_append, shows_as, fails_first, fails_later}
use Rattle.ray.specs.Ray.{accepted_ray}
use Rattle.record_shape.specs.Record.{node_count}
use Rattle.query.specs.Entry.{entry_conditions, entry_cause}
use Rattle.loss_walk.specs.Losses.{refused, losses_fit}
use Rattle.timed.specs.Hours.{Timetable}
use Rattle.timed_entry.specs.Entry.{timed_conditions}
use Rattle.any_hit_timed.specs.Timed.{any_hit_timed_of}
use Rattle.loss_timed.specs.Timed.{loss_timed_of}
use Rattle.demands.specs.LossRefusals.{SizeRefusal}
use Rattle.demands.proofs.GatedLoss.{entry}
use Rattle.demands.proofs.GatedRefusals.{walk_test, called_refused_first, called_answered}
use Rattle.demands.proofs.LossCauses.{sizes_show, sizes_fail, losses_show, losses_fail}
use Rattle.loss_timed_demands.specs.Loss.{TimedLossCall, hours, loss_for, Loses}
use Rattle.loss_timed_demands.specs.Refusals.{HoursRefusal, spans_unfit, part_of_row, quarter_over}
use Rattle.loss_timed_demands.specs.Refusals.{WalkRefusal, TimedLossRefusal, FirstTimedLossRefusal}
use Rattle.loss_timed_demands.specs.Refusals as R
use Rattle.loss_timed_demands.proofs.Loss.{gates, between}

-- ---- cause 14

module _ (bytes : List ℕ) (h : Timetable) where
  hours_show : Shows (λ k. (k ≡ 14) × HoursRefusal bytes h) (timed_conditions bytes h)
  unfolding timed_conditions
  hours_show = (
    λ e. (refl, spans_unfit e),
    λ _. (λ e. (refl, part_of_row (denied (eqb_tells (length h.side) (16 * node_count bytes)) e)), λ _. (λ e. (refl, quarter_over e), λ _. tt)),
  )

  hours_fail : HoursRefusal bytes h → Fails 14 (timed_conditions bytes h)
  unfolding timed_conditions place_of
  hours_fail (spans_unfit e) = inl (e, tt)
  hours_fail (part_of_row n) = inr (inl (tells_false (eqb_tells (length h.side) (16 * node_count bytes)) n, tt))
  hours_fail (quarter_over e) = inr (inr (inl (e, tt)))

-- ---- a call of `loss_timed`

module _ (c : TimedLossCall) where
  -- what is looked at on entry
  abbrev size_tests : List Condition
  size_tests = record_conditions (length c.bytes) (length c.indices)

  abbrev ray_test : List Condition
  ray_test = 9 unless accepted_ray c.ray ∷ []

  abbrev own_tests : List Condition
  own_tests = 12 unless losses_fit c.panes c.losses ∷ timed_conditions c.bytes (hours c) ++ ray_test

  abbrev entry_tests : List Condition
  entry_tests = size_tests ++ own_tests

  -- the cause found on entry is the first of these,
  entry_is : entry (gates c) (between c) c.bytes c.indices c.panes c.losses c.ray ≡ first_cause entry_tests
  unfolding entry_conditions timed_conditions first_cause sorted place_of
  entry_is =
      ap (λ (k : ℕ). entry_cause true (length c.bytes) (length c.indices) k c.ray)
      (given-same (12 unless losses_fit c.panes c.losses ∷ []) (timed_conditions c.bytes (hours c)) [] tt)
      ∙ given-same (1 unless true ∷ size_tests) (12 unless losses_fit c.panes c.losses ∷ timed_conditions c.bytes (hours c)) ray_test tt

  in_order : T (sorted 0 entry_tests)
  unfolding record_conditions timed_conditions sorted place_of
  in_order = tt

  all_in_order : T (sorted 0 (entry_tests ++ walk_test (gates c) (between c) c.bytes c.indices c.panes c.losses c.ray))
  unfolding record_conditions timed_conditions sorted place_of
  all_in_order = tt

  none_after : T (all_numbers (λ k. leb (place_of k) (place_of 10)) entry_tests)
  unfolding record_conditions timed_conditions all_numbers place_of
  none_after = tt

  as_refusal : (k : ℕ) → (k ≡ 14) × HoursRefusal c.bytes (hours c) → TimedLossRefusal c k
  as_refusal k q = subst (TimedLossRefusal c) (sym q.0) (R.hours_refused q.1)

  -- a test that fails shows its cause
  entry_shows : Shows (TimedLossRefusal c) entry_tests
  entry_shows =
      shows_append (TimedLossRefusal c) size_tests own_tests
      (shows_as (SizeRefusal c.bytes c.indices) (TimedLossRefusal c) (λ k. R.sizes_refused) size_tests (sizes_show c.bytes c.indices))
      (λ _. (
        λ e. R.losses_refused (losses_show c.panes c.losses e),
        λ _. shows_append (TimedLossRefusal c) (timed_conditions c.bytes (hours c)) ray_test
            (shows_as (λ k. (k ≡ 14) × HoursRefusal c.bytes (hours c)) (TimedLossRefusal c) as_refusal (timed_conditions c.bytes (hours c))
            (hours_show c.bytes (hours c)))
            (λ _. (R.ray_refused, λ _. tt)),
      ))

  -- a cause that holds makes a test fail, no later than its own, or is the walk's
  loss_fails : (j : ℕ) → TimedLossRefusal c j → Fails j entry_tests ⊎ ((j ≡ 10) × WalkRefusal c)
  unfolding place_of
  loss_fails j (R.sizes_refused q) = inl (fails_first j size_tests own_tests (sizes_fail c.bytes c.indices j q))
  loss_fails j (R.losses_refused q) = inl (fails_later 12 size_tests own_tests (inl (losses_fail c.panes c.losses q, tt)))
  loss_fails j (R.hours_refused q) =
      inl (fails_later 14 size_tests own_tests
      (inr (fails_first 14 (timed_conditions c.bytes (hours c)) ray_test (hours_fail c.bytes (hours c) q))))
  loss_fails j (R.ray_refused e) =
      inl (fails_later 9 size_tests own_tests (inr (fails_later 9 (timed_conditions c.bytes (hours c)) ray_test (inl (e, tt)))))
  loss_fails j (R.walk_refused q) = inr (refl, q)

  -- The call is refused with the number of the first cause that holds,
  pub loss_refused_first : (k : ℕ) → (loss_for c).answer ≡ refused k ↔ FirstTimedLossRefusal c k
  unfolding loss_timed_of any_hit_timed_of
  loss_refused_first =
      called_refused_first (gates c) (between c) c.bytes c.indices c.panes c.losses c.ray entry_tests entry_is in_order all_in_order
      (TimedLossRefusal c) entry_shows R.walk_refused loss_fails none_after

  -- and gives a sum exactly if none does.
  pub loss_answered : ((loss : ℕ) × Loses c loss) ↔ ((j : ℕ) → TimedLossRefusal c j → ⊥)
  unfolding loss_timed_of any_hit_timed_of
  loss_answered =
      called_answered (gates c) (between c) c.bytes c.indices c.panes c.losses c.ray entry_tests entry_is in_order all_in_order
      (TimedLossRefusal c) entry_shows R.walk_refused loss_fails none_after
