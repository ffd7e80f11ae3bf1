-- The number with which a call of `loss` or of `report` is refused is the first cause's, in the order of causes (02, [3]).
use mathlib.Core.Bool.{Bool, true, false, ◌&&◌}
use mathlib.Core.List.{List, [], ◌∷◌, ◌++◌}
use mathlib.Core.Logic.{◌⊎◌, inl, inr, ◌↔◌}
use mathlib.Core.Path.{◌≡◌, refl, ap, ◌∙◌, subst}
use Prim.Native.Nat.{ℕ, ◌%◌, ◌<◌}
use lib.Dec.{T, leb}
use lib.ListN.{length}
use borrow.Author.Tests.{leb-false, lt-leb}
use Rattle.lists.proofs.Tells.{denied, tells_false, eqb_tells, one_fails, where_fails}
use Rattle.causes.specs.Causes.{Condition, ◌unless◌, first_cause, place_of}
use Rattle.causes.specs.Sizes.{record_conditions}
use Rattle.causes.proofs.Causes.{given-same}
use Rattle.causes.proofs.Causes.{sorted, all_numbers}
use Rattle.causes.proofs.First.{Shows, Fails, shows_append, shows_as, fails_first, fails_later}
use Rattle.ray.specs.Ray.{accepted_ray}
use Rattle.packed.specs.Packed.{ray_in, rays_accepted}
use Rattle.walk.proofs.Cases.{and-false}
use Rattle.query.specs.Entry.{entry_conditions, entry_cause}
use Rattle.query.specs.Result.{Result}
use Rattle.loss.specs.Loss.{Report, totalled, refused_report, report_conditions, walk_conditions}
use Rattle.loss.specs.Loss.{LossAnswer, summed, refused, losses_fit}
use Rattle.demands.specs.Loss.{LossCall, loss_for, Loses, ReportCall, rays_given, report_for, Reports}
use Rattle.demands.specs.LossRefusals.{SizeRefusal, WalkRefusal, LossRefusal, FirstLossRefusal}
use Rattle.demands.specs.LossRefusals.{ReportRefusal, part_of_ray, rays_over, ray_totals_short, pane_totals_short, FirstReportRefusal}
use Rattle.demands.specs.LossRefusals as R
use Rattle.demands.proofs.LossCauses.{sizes_show, sizes_fail, losses_show, losses_fail}
use Rattle.gate.specs.Gates.{all_open}
use Rattle.any_hit.specs.AnyHit.{any_hit_of}
use Rattle.loss.proofs.Causes.{own_alone, loss_alone, none_between, entry_alone}
use Rattle.demands.proofs.GatedLoss.{entry, called}
use Rattle.demands.proofs.GatedRefusals.{walk_test, called_refused_first, called_answered}
use Rattle.demands.proofs.GatedReport as G
use Rattle.demands.proofs.GatedReportRefusals.{RayRefused, asked_refused_first, asked_answered}
use Rattle.demands.proofs.Report.{beside, agrees, alone}
use Rattle.demands.proofs.Totalled.{on_entry, by_walks, in_order_lem}

-- ---- a call of `loss`

module _ (c : LossCall) where
  -- what is looked at on entry
  abbrev size_tests : List Condition
  size_tests = record_conditions (length c.bytes) (length c.indices)

  abbrev own_tests : List Condition
  own_tests = 12 unless losses_fit c.panes c.losses ∷ 9 unless accepted_ray c.ray ∷ []

  abbrev entry_tests : List Condition
  entry_tests = size_tests ++ own_tests

  -- the cause found on entry is the first of these,
  entry_is : entry all_open 0 c.bytes c.indices c.panes c.losses c.ray ≡ first_cause entry_tests
  unfolding entry_conditions first_cause sorted place_of
  entry_is =
      ap (λ (k : ℕ). entry_cause true (length c.bytes) (length c.indices) k c.ray) (own_alone c.panes c.losses)
      ∙ given-same (1 unless true ∷ size_tests) (12 unless losses_fit c.panes c.losses ∷ []) (9 unless accepted_ray c.ray ∷ []) tt

  in_order : T (sorted 0 entry_tests)
  unfolding record_conditions sorted place_of
  in_order = tt

  all_in_order : T (sorted 0 (entry_tests ++ walk_test all_open 0 c.bytes c.indices c.panes c.losses c.ray))
  unfolding record_conditions sorted place_of
  all_in_order = tt

  none_after : T (all_numbers (λ k. leb (place_of k) (place_of 10)) entry_tests)
  unfolding record_conditions all_numbers place_of
  none_after = tt

  -- a test that fails shows its cause
  entry_shows : Shows (LossRefusal c) entry_tests
  entry_shows =
      shows_append (LossRefusal c) size_tests own_tests
      (shows_as (SizeRefusal c.bytes c.indices) (LossRefusal c) (λ k. R.sizes_refused) size_tests (sizes_show c.bytes c.indices))
      (λ _. (λ e. R.losses_refused (losses_show c.panes c.losses e), λ _. (R.ray_refused, λ _. tt)))

  -- a cause that holds makes a test fail, no later than its own, or is the walk's
  loss_fails : (j : ℕ) → LossRefusal c j → Fails j entry_tests ⊎ ((j ≡ 10) × WalkRefusal c)
  unfolding place_of
  loss_fails j (R.sizes_refused q) = inl (fails_first j size_tests own_tests (sizes_fail c.bytes c.indices j q))
  loss_fails j (R.losses_refused q) = inl (fails_later 12 size_tests own_tests (inl (losses_fail c.panes c.losses q, tt)))
  loss_fails j (R.ray_refused e) = inl (fails_later 9 size_tests own_tests (inr (inl (e, tt))))
  loss_fails j (R.walk_refused q) = inr (refl, q)

  answers : (called all_open 0 c.bytes c.indices c.panes c.losses c.ray).answer ≡ (loss_for c).answer
  answers = ap (λ (r : Result LossAnswer). r.answer) (loss_alone c.bytes c.indices c.panes c.losses c.ray)

  -- The call is refused with the number of the first cause that holds,
  pub loss_refused_first : (k : ℕ) → (loss_for c).answer ≡ refused k ↔ FirstLossRefusal c k
  unfolding any_hit_of
  loss_refused_first k =
      subst (λ (a : LossAnswer). a ≡ refused k ↔ FirstLossRefusal c k) answers
      (called_refused_first all_open 0 c.bytes c.indices c.panes c.losses c.ray entry_tests entry_is in_order all_in_order (LossRefusal c)
      entry_shows R.walk_refused loss_fails none_after k)

  -- and gives a sum exactly if none does.
  pub loss_answered : ((loss : ℕ) × Loses c loss) ↔ ((j : ℕ) → LossRefusal c j → ⊥)
  unfolding any_hit_of
  loss_answered =
      subst (λ (a : LossAnswer). ((loss : ℕ) × (a ≡ summed loss)) ↔ ((j : ℕ) → LossRefusal c j → ⊥)) answers
      (called_answered all_open 0 c.bytes c.indices c.panes c.losses c.ray entry_tests entry_is in_order all_in_order (LossRefusal c)
      entry_shows R.walk_refused loss_fails none_after)

-- ---- a call of `report`

module _ (c : ReportCall) where
  -- what is looked at on entry behind the lengths of rays, and all
  abbrev sizes_of : List Condition
  sizes_of = record_conditions (length c.bytes) (length c.indices)

  abbrev others_of : List Condition
  others_of =
      2 unless leb (rays_given c) 65536 ∷ 4 unless (leb (rays_given c) (length c.ray_totals) && leb c.panes (length c.pane_totals))
      ∷ 12 unless losses_fit c.panes c.losses ∷ 9 unless rays_accepted c.rays ∷ []

  abbrev tests : List Condition
  tests = on_entry c ++ by_walks c

  all_is : first_cause (G.on_entry (beside c) ++ G.by_walks (beside c)) ≡ first_cause tests
  unfolding walk_conditions
  all_is = none_between c.bytes c.indices c.panes c.losses c.rays (length c.ray_totals) (length c.pane_totals) (by_walks c)

  entry_alone_lem : first_cause (G.on_entry (beside c)) ≡ first_cause (on_entry c)
  entry_alone_lem = entry_alone c.bytes c.indices c.panes c.losses c.rays (length c.ray_totals) (length c.pane_totals)

  -- a test that fails shows its cause
  room_shows : leb (rays_given c) (length c.ray_totals) && leb c.panes (length c.pane_totals) ≡ false → ReportRefusal c 4
  room_shows e = go (leb (rays_given c) (length c.ray_totals)) refl e
    where
      go : (b : Bool) → leb (rays_given c) (length c.ray_totals) ≡ b → b && leb c.panes (length c.pane_totals) ≡ false → ReportRefusal c 4
      go false h q = ray_totals_short (leb-false (rays_given c) (length c.ray_totals) h)
      go true h q = pane_totals_short (leb-false c.panes (length c.pane_totals) q)

  rays_show : rays_accepted c.rays ≡ false → ReportRefusal c 9
  unfolding rays_accepted
  rays_show e = let u = where_fails (λ k. accepted_ray (ray_in c.rays k)) (rays_given c) e in R.ray_refused u.0 u.1 u.2

  entry_show : Shows (ReportRefusal c) (on_entry c)
  unfolding report_conditions
  entry_show = (
    λ e. part_of_ray (denied (eqb_tells (length c.rays % 8) 0) e),
    λ _. shows_append (ReportRefusal c) sizes_of others_of
        (shows_as (SizeRefusal c.bytes c.indices) (ReportRefusal c) (λ k. R.sizes_refused) sizes_of (sizes_show c.bytes c.indices))
        (λ _. (
          λ e. rays_over (leb-false (rays_given c) 65536 e),
          λ _. (room_shows, λ _. (λ e. R.losses_refused (losses_show c.panes c.losses e), λ _. (rays_show, λ _. tt))),
        )),
  )

  -- a cause that holds makes a test fail, no later than its own, or is a walk's
  abbrev AsWalk : ℕ → Type 0
  AsWalk j = (j ≡ 10) × ((i : ℕ) × (i < rays_given c) × RayRefused (beside c) i)

  others_fail : (j : ℕ) → Fails j others_of → Fails j (on_entry c) ⊎ AsWalk j
  unfolding report_conditions
  others_fail j f = inl (inr (fails_later j sizes_of others_of f))

  none_later : T (all_numbers (λ k. leb (place_of k) (place_of 10)) (on_entry c))
  unfolding report_conditions record_conditions all_numbers place_of
  none_later = tt

  report_fails : (j : ℕ) → ReportRefusal c j → Fails j (on_entry c) ⊎ AsWalk j
  unfolding report_conditions rays_accepted any_hit_of place_of
  report_fails j (part_of_ray h) = inl (inl (tells_false (eqb_tells (length c.rays % 8) 0) h, tt))
  report_fails j (R.sizes_refused q) = inl (inr (fails_first j sizes_of others_of (sizes_fail c.bytes c.indices j q)))
  report_fails j (rays_over h) = others_fail 2 (inl (lt-leb (rays_given c) 65536 h, tt))
  report_fails j (ray_totals_short h) =
      others_fail 4 (inr (inl (ap (λ (b : Bool). b && leb c.panes (length c.pane_totals)) (lt-leb (rays_given c) (length c.ray_totals) h), tt)))
  report_fails j (pane_totals_short h) =
      let b = leb (rays_given c) (length c.ray_totals) in
      others_fail 4 (inr (inl (ap (λ (x : Bool). b && x) (lt-leb c.panes (length c.pane_totals) h) ∙ and-false b, tt)))
  report_fails j (R.losses_refused q) = others_fail 12 (inr (inr (inl (losses_fail c.panes c.losses q, tt))))
  report_fails j (R.ray_refused i h e) =
      others_fail 9 (inr (inr (inr (inl (one_fails (λ k. accepted_ray (ray_in c.rays k)) (rays_given c) i h e, tt)))))
  report_fails j (R.walk_refused i h q) = inr (refl, (i, h, q))

  as_walk : (i : ℕ) → i < rays_given c → RayRefused (beside c) i → ReportRefusal c 10
  unfolding any_hit_of
  as_walk i h q = R.walk_refused i h q

  -- The call is refused with the number of the first cause that holds,
  pub report_refused_first : (k : ℕ) → (report_for c).answer ≡ refused_report k ↔ FirstReportRefusal c k
  unfolding walk_conditions
  report_refused_first k =
      subst (λ (r : Report). r.answer ≡ refused_report k ↔ FirstReportRefusal c k) (alone c)
      (asked_refused_first (beside c) (agrees c) (on_entry c) entry_alone_lem all_is (in_order_lem c) (ReportRefusal c) entry_show as_walk
      report_fails none_later k)

  -- and gives totals exactly if none does.
  pub report_answered : ((made : ℕ) × Reports c made) ↔ ((j : ℕ) → ReportRefusal c j → ⊥)
  unfolding walk_conditions
  report_answered =
      subst (λ (r : Report). ((made : ℕ) × (r.answer ≡ totalled made)) ↔ ((j : ℕ) → ReportRefusal c j → ⊥)) (alone c)
      (asked_answered (beside c) (agrees c) (on_entry c) entry_alone_lem all_is (in_order_lem c) (ReportRefusal c) entry_show as_walk
      report_fails none_later)
