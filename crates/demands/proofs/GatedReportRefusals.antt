-- The number with which a report beside any gates is refused (02, [3] and [7]): by the tests of a call on entry, in the order of causes, and then the
-- walks'.
use mathlib.Core.List.{List, ◌++◌}
use mathlib.Core.Logic.{◌⊎◌, inl, inr, ◌↔◌}
use mathlib.Core.Path.{◌≡◌, refl, sym, ap, ◌∙◌, subst}
use Prim.Native.Nat.{ℕ, zero, suc, ◌<◌}
use native.Mathlib.Omega.{arith}
use lib.Dec.{T, leb}
use lib.ListN.{length}
use Rattle.lists.proofs.Tells.{one_fails, where_fails}
use Rattle.causes.specs.Causes.{Condition, First, first_cause, place_of}
use Rattle.causes.proofs.Causes.{passed_none, sorted, all_numbers}
use Rattle.causes.proofs.First.{ByCause, refused_first, given_none, Shows, Fails, shows_append, fails_first, fails_later, found_fails}
use Rattle.packed.specs.Packed.{ray_in}
use Rattle.any_hit_walk.specs.AnyHit.{gated_any_hit}
use Rattle.loss_walk.specs.Losses.{totalled, refused_report}
use Rattle.loss_walk.specs.Gated.{gated_walks, gated_conditions, gated_totals, gated_report_by, gated_report}
use Rattle.demands.specs.LossRefusals.{WalkRefusedBy}
use Rattle.demands.proofs.GatedReport.{ReportBeside, Agrees, rays_there, asked, met_of, on_entry, by_walks, left_by, walks, none_enters, own_enters}
use Rattle.demands.proofs.GatedReport.{totals_apart}
use Rattle.demands.proofs.LossCauses.{walk_shows, walk_fails}

-- cause 10 of ray i
abbrev pub RayRefused : ReportBeside → ℕ → Type 0
RayRefused c i = WalkRefusedBy c.indices c.panes (gated_any_hit (c.gates i) c.bytes (length c.indices) (c.betweens i) (ray_in c.rays i)) (met_of c i)

-- The tests made on entry, of which the cause found is the first, stand in the order of causes with the walks' behind.
module _ (c : ReportBeside) (agrees : Agrees c) (tests : List Condition) (entry_is : first_cause (on_entry c) ≡ first_cause tests)
    (all_is : first_cause (on_entry c ++ by_walks c) ≡ first_cause (tests ++ by_walks c)) (all_in_order : T (sorted 0 (tests ++ by_walks c))) where
  -- then the answer goes by the first of all
  asked_by_cause : ByCause (λ k. (asked c).answer ≡ refused_report k) ((made : ℕ) × ((asked c).answer ≡ totalled made)) (tests ++ by_walks c)
  unfolding gated_report gated_report_by gated_totals
  asked_by_cause = record {
    gives = λ e. (_, ap (λ (k : ℕ). (left_by c k).answer) (all_is ∙ e));
    refuses = λ h. ap (λ (k : ℕ). (left_by c k).answer) all_is ∙ by (first_cause (tests ++ by_walks c)) h;
    one = λ j k p q. let s : refused_report j ≡ refused_report k = sym p ∙ q in cc;
    not_both = λ k r g. totals_apart (sym r ∙ g.1);
  }
    where
      by : (k : ℕ) → 0 < k → (left_by c k).answer ≡ refused_report k
      by zero h = absurd (omega arith)
      by (suc k) h = refl

  -- Where a test that fails on entry shows a cause, and a walk's fault is one of number 10; and any cause makes a test on entry fail, no later than
  -- its own, or is a walk's:
  module _ (P : ℕ → Type 0) (shows : Shows P tests) (walk_cause : (i : ℕ) → i < rays_there c → RayRefused c i → P 10)
      (fails : (j : ℕ) → P j → Fails j tests ⊎ ((j ≡ 10) × ((i : ℕ) × (i < rays_there c) × RayRefused c i)))
      (none_after : T (all_numbers (λ k. leb (place_of k) (place_of 10)) tests)) where
    all_shown : Shows P (tests ++ by_walks c)
    unfolding gated_conditions gated_walks
    all_shown =
        shows_append P tests (by_walks c) shows
        (λ p. (
          λ e. let u = where_fails (walks c) (rays_there c) e in
              walk_cause u.0 u.1
              (walk_shows (c.gates u.0) (c.betweens u.0) c.bytes c.indices c.panes c.losses (ray_in c.rays u.0)
              (own_enters c agrees (none_enters c (entry_is ∙ passed_none tests p)) u.0 u.1) u.2),
          λ _. tt,
        ))

    all_fail : (j : ℕ) → P j → Fails j (tests ++ by_walks c)
    unfolding gated_conditions gated_walks place_of
    all_fail j p = by (fails j p)
      where
        at_walk : (i : ℕ) → i < rays_there c → RayRefused c i → (k : ℕ) → first_cause tests ≡ k → Fails 10 (tests ++ by_walks c)
        at_walk i h q zero e =
            fails_later 10 tests (by_walks c)
            (inl (
              one_fails (walks c) (rays_there c) i h
                  (walk_fails (c.gates i) (c.betweens i) c.bytes c.indices c.panes c.losses (ray_in c.rays i)
                  (own_enters c agrees (none_enters c (entry_is ∙ e)) i h) q),
              tt,
            ))
        at_walk i h q (suc k) e = fails_first 10 tests (by_walks c) (found_fails 10 tests none_after (λ z. omega (arith, e, z)))

        by : Fails j tests ⊎ ((j ≡ 10) × ((i : ℕ) × (i < rays_there c) × RayRefused c i)) → Fails j (tests ++ by_walks c)
        by (inl f) = fails_first j tests (by_walks c) f
        by (inr w) = subst (λ (n : ℕ). Fails n (tests ++ by_walks c)) (sym w.0) (at_walk w.1.0 w.1.1 w.1.2 (first_cause tests) refl)

    -- the call is refused with the number of the first cause that holds,
    pub asked_refused_first : (k : ℕ) → (asked c).answer ≡ refused_report k ↔ First P k
    asked_refused_first = refused_first asked_by_cause P all_in_order all_shown all_fail

    -- and gives totals exactly if none does.
    pub asked_answered : ((made : ℕ) × ((asked c).answer ≡ totalled made)) ↔ ((j : ℕ) → P j → ⊥)
    asked_answered = given_none asked_by_cause P all_in_order all_shown all_fail
