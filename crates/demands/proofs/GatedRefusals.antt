-- The number with which a loss beside any gates is refused (02, [3] and [7]): by the tests of a call on entry, in the order of causes, and then the
-- walk's.
use mathlib.Core.Bool.{Bool, true, false}
use mathlib.Core.List.{List, [], ◌∷◌, ◌++◌}
use mathlib.Core.Logic.{◌⊎◌, inl, inr, ◌↔◌}
use mathlib.Core.Path.{◌≡◌, refl, sym, ap, ◌∙◌, subst}
use Prim.Native.Nat.{ℕ, zero, suc, ◌<◌}
use native.Mathlib.Omega.{arith}
use lib.Dec.{T, leb}
use lib.ListN.{length}
use Rattle.causes.specs.Causes.{Condition, ◌unless◌, First, first_cause, place_of}
use Rattle.causes.proofs.Causes.{first_here, first_later, append_first, append_later}
use Rattle.causes.proofs.Causes.{passed_none, passed_parts, none_passed, sorted, all_numbers}
use Rattle.causes.proofs.First.{ByCause, refused_first, given_none, Shows, Fails, shows_append, fails_first, fails_later, found_fails}
use Rattle.ray.specs.declared.Ray.{Ray}
use Rattle.gate.specs.Gates.{Gates}
use Rattle.query.specs.Result.{Result}
use Rattle.query.proofs.Entry.{by_cause}
use Rattle.any_hit_walk.specs.AnyHit.{gated_any_hit}
use Rattle.loss_walk.specs.Losses.{LossAnswer, summed, refused, is_summed}
use Rattle.loss_walk.proofs.Faults.{sums_apart, is_summed_lem, fault_ten}
use Rattle.demands.specs.LossRefusals.{WalkRefusedBy}
use Rattle.demands.proofs.GatedLoss.{entry, by_walk, called, called_walked, met}
use Rattle.demands.proofs.LossCauses.{fit, walk_shows, walk_fails}

module _ (g : Gates) (between : ℕ) (bytes indices : List ℕ) (panes : ℕ) (losses : List ℕ) (r : Ray) where
  abbrev on_entry : ℕ
  on_entry = entry g between bytes indices panes losses r

  abbrev gives : Result LossAnswer
  gives = called g between bytes indices panes losses r

  abbrev walk : Result LossAnswer
  walk = by_walk g between bytes indices panes losses r

  -- cause 10
  abbrev pub WalkRefused : Type 0
  WalkRefused = WalkRefusedBy indices panes (gated_any_hit g bytes (length indices) between r) (met g between bytes indices panes losses r)

  abbrev pub walk_test : List Condition
  walk_test = 10 unless is_summed walk.answer ∷ []

  -- The tests made on entry, of which the cause found is the first, stand in the order of causes with the walk's behind.
  module _ (tests : List Condition) (entry_is : on_entry ≡ first_cause tests) (in_order : T (sorted 0 tests))
      (all_in_order : T (sorted 0 (tests ++ walk_test))) where
    -- then the answer goes by the first of all
    called_by_cause : ByCause (λ k. gives.answer ≡ refused k) ((loss : ℕ) × (gives.answer ≡ summed loss)) (tests ++ walk_test)
    called_by_cause = record {
      gives = λ e.
          let p = passed_parts tests walk_test (none_passed 0 (tests ++ walk_test) all_in_order e) in
          let s = is_summed_lem walk.answer p.1.0 in (
            s.0,
            ap (λ (a : Result LossAnswer). a.answer)
                (called_walked g between bytes indices panes losses r (entry_is ∙ passed_none tests p.0)) ∙ s.1,
          );
      refuses = λ h. by_entry h (first_cause tests) refl;
      one = λ j k p q. let s : refused j ≡ refused k = sym p ∙ q in cc;
      not_both = λ k r g. sums_apart (sym r ∙ g.1);
    }
      where
        by_test : on_entry ≡ 0 → (b : Bool) → is_summed walk.answer ≡ b → 0 < first_cause walk_test
            → gives.answer ≡ refused (first_cause walk_test)
        by_test z true e h = absurd (omega (arith, h, first_later 10 [] e, passed_none [] tt))
        by_test z false e h =
            ap (λ (a : Result LossAnswer). a.answer)
            (called_walked g between bytes indices panes losses r z
            ∙ fault_ten g bytes indices panes losses r (fit g between bytes indices panes losses r z) e)
            ∙ ap refused (sym (first_here [] e))

        by_entry : 0 < first_cause (tests ++ walk_test) → (k : ℕ) → first_cause tests ≡ k
            → gives.answer ≡ refused (first_cause (tests ++ walk_test))
        by_entry h zero e =
            let s = append_later tests walk_test (none_passed 0 tests in_order e) in
            by_test (entry_is ∙ e) (is_summed walk.answer) refl (omega (arith, h, s)) ∙ ap refused (sym s)
        by_entry h (suc k) e =
            let s = append_first tests walk_test (λ z. omega (arith, e, z)) in
            sym (ap (λ (a : Result LossAnswer). a.answer)
            (by_cause refused (first_cause (tests ++ walk_test)) on_entry walk (s ∙ sym entry_is) h))

    -- Where a test that fails on entry shows a cause, and the walk's fault is one of number 10; and any cause makes a test on entry fail, no later
    -- than its own, or is the walk's:
    module _ (P : ℕ → Type 0) (shows : Shows P tests)
        (walk_cause : WalkRefused → P 10) (fails : (j : ℕ) → P j → Fails j tests ⊎ ((j ≡ 10) × WalkRefused))
        (none_after : T (all_numbers (λ k. leb (place_of k) (place_of 10)) tests)) where
      all_shown : Shows P (tests ++ walk_test)
      all_shown =
          shows_append P tests walk_test shows
          (λ p. (λ e. walk_cause (walk_shows g between bytes indices panes losses r (entry_is ∙ passed_none tests p) e), λ _. tt))

      all_fail : (j : ℕ) → P j → Fails j (tests ++ walk_test)
      unfolding place_of
      all_fail j p = by (fails j p)
        where
          at_walk : WalkRefused → (k : ℕ) → first_cause tests ≡ k → Fails 10 (tests ++ walk_test)
          at_walk q zero e =
              fails_later 10 tests walk_test (inl (walk_fails g between bytes indices panes losses r (entry_is ∙ e) q, tt))
          at_walk q (suc k) e = fails_first 10 tests walk_test (found_fails 10 tests none_after (λ z. omega (arith, e, z)))

          by : Fails j tests ⊎ ((j ≡ 10) × WalkRefused) → Fails j (tests ++ walk_test)
          by (inl f) = fails_first j tests walk_test f
          by (inr w) = subst (λ (i : ℕ). Fails i (tests ++ walk_test)) (sym w.0) (at_walk w.1 (first_cause tests) refl)

      -- the call is refused with the number of the first cause that holds,
      pub called_refused_first : (k : ℕ) → gives.answer ≡ refused k ↔ First P k
      called_refused_first = refused_first called_by_cause P all_in_order all_shown all_fail

      -- and gives a sum exactly if none does.
      pub called_answered : ((loss : ℕ) × (gives.answer ≡ summed loss)) ↔ ((j : ℕ) → P j → ⊥)
      called_answered = given_none called_by_cause P all_in_order all_shown all_fail
