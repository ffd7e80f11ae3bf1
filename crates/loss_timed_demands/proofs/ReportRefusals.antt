-- The number with which a call of `report_timed` is refused is the first cause's, in the order of causes (02, [3] and [7]).
use mathlib.Core.Bool.{Bool, true, false, ◌&&◌}
use mathlib.Core.List.{List, [], ◌∷◌, ◌++◌}
use mathlib.Core.Logic.{◌⊎◌, inl, inr, ◌↔◌}
use mathlib.Core.Path.{◌≡◌, refl, ap, ◌∙◌}
use Prim.Native.Nat.{ℕ, ◌*◌, ◌%◌, ◌<◌}
use lib.Dec.{T, eqb, leb}
use lib.ListN.{length}
use borrow.Author.Tests.{leb-false, lt-leb}
use Rattle.lists.proofs.Tells.{denied, tells_false, eqb_tells, one_fails, where_fails}
use Rattle.causes.specs.Causes.{Condition, ◌unless◌, first_cause, place_of}
use Rattle.causes.specs.Sizes.{record_conditions}
use Rattle.causes.proofs.Causes.{given-same, sorted, all_numbers}
use Rattle.causes.proofs.First.{Shows, Fails, shows_append, shows_as, fails_first, fails_later}
use Rattle.ray.specs.Ray.{accepted_ray}
use Rattle.packed.specs.Packed.{ray_in, rays_accepted}
use Rattle.record_shape.specs.Record.{node_count}
use Rattle.walk.proofs.Cases.{and-false}
use Rattle.loss_walk.specs.Losses.{refused_report, losses_fit}
use Rattle.loss_walk.specs.Entry.{conditions_between}
use Rattle.loss_walk.specs.Gated.{gated_conditions}
use Rattle.timed_entry.specs.Entry.{timetable}
use Rattle.any_hit_timed.specs.Timed.{any_hit_timed_of}
use Rattle.loss_timed.specs.Timed.{hours_conditions, report_timed_of}
use Rattle.demands.specs.LossRefusals.{SizeRefusal}
use Rattle.demands.proofs.GatedReport.{on_entry, by_walks}
use Rattle.demands.proofs.GatedReportRefusals.{RayRefused, asked_refused_first, asked_answered}
use Rattle.demands.proofs.LossCauses.{sizes_show, sizes_fail, losses_show, losses_fail}
use Rattle.loss_timed_demands.specs.Report.{TimedReportCall, report_for, Reports, rays_given}
use Rattle.loss_timed_demands.specs.ReportRefusals.{ListsRefusal, spans_unfit, part_of_row, quarter_over, TimedReportRefusal}
use Rattle.loss_timed_demands.specs.ReportRefusals.{FirstTimedReportRefusal}
use Rattle.loss_timed_demands.specs.ReportRefusals as R
use Rattle.loss_timed_demands.proofs.Report.{beside, agrees}

module _ (c : TimedReportCall) where
  -- what is looked at on entry
  abbrev lengths : Bool
  lengths = eqb (length c.rays % 8) 0 && eqb (length c.quarters) (rays_given c)

  abbrev room : Bool
  room = leb (rays_given c) (length c.ray_totals) && leb c.panes (length c.pane_totals)

  abbrev size_tests : List Condition
  size_tests = record_conditions (length c.bytes) (length c.indices)

  abbrev middle : List Condition
  middle = 2 unless leb (rays_given c) 65536 ∷ 4 unless room ∷ 12 unless losses_fit c.panes c.losses ∷ []

  abbrev hours_tests : List Condition
  hours_tests = hours_conditions c.bytes (timetable c.side c.indices c.panes c.spans 0) c.quarters

  abbrev ray_test : List Condition
  ray_test = 9 unless rays_accepted c.rays ∷ []

  abbrev own_tests : List Condition
  own_tests = middle ++ (hours_tests ++ ray_test)

  abbrev tests : List Condition
  tests = 1 unless lengths ∷ size_tests ++ own_tests

  -- the cause found on entry is the first of these, whatever is looked at later
  entry_with : (later : List Condition) → first_cause (on_entry (beside c) ++ later) ≡ first_cause (tests ++ later)
  unfolding conditions_between record_conditions hours_conditions first_cause sorted place_of
  entry_with later =
      given-same (1 unless lengths ∷ size_tests ++ middle) hours_tests (ray_test ++ later) tt

  entry_is : first_cause (on_entry (beside c)) ≡ first_cause tests
  unfolding conditions_between record_conditions hours_conditions
  entry_is = entry_with []

  all_in_order : T (sorted 0 (tests ++ by_walks (beside c)))
  unfolding record_conditions hours_conditions gated_conditions sorted place_of
  all_in_order = tt

  none_after : T (all_numbers (λ k. leb (place_of k) (place_of 10)) tests)
  unfolding record_conditions hours_conditions all_numbers place_of
  none_after = tt

  -- ---- a test that fails shows its cause

  lengths_show : lengths ≡ false → TimedReportRefusal c 1
  lengths_show e = go (eqb (length c.rays % 8) 0) refl e
    where
      go : (b : Bool) → eqb (length c.rays % 8) 0 ≡ b → b && eqb (length c.quarters) (rays_given c) ≡ false → TimedReportRefusal c 1
      go false h q = R.part_of_ray (denied (eqb_tells (length c.rays % 8) 0) h)
      go true h q = R.quarters_unfit (denied (eqb_tells (length c.quarters) (rays_given c)) q)

  room_shows : room ≡ false → TimedReportRefusal c 4
  room_shows e = go (leb (rays_given c) (length c.ray_totals)) refl e
    where
      go : (b : Bool) → leb (rays_given c) (length c.ray_totals) ≡ b → b && leb c.panes (length c.pane_totals) ≡ false → TimedReportRefusal c 4
      go false h q = R.ray_totals_short (leb-false (rays_given c) (length c.ray_totals) h)
      go true h q = R.pane_totals_short (leb-false c.panes (length c.pane_totals) q)

  rays_show : rays_accepted c.rays ≡ false → TimedReportRefusal c 9
  unfolding rays_accepted
  rays_show e = let u = where_fails (λ k. accepted_ray (ray_in c.rays k)) (rays_given c) e in R.ray_refused u.0 u.1 u.2

  hours_show : Shows (TimedReportRefusal c) hours_tests
  unfolding hours_conditions
  hours_show = (
    λ e. R.lists_refused (spans_unfit e),
    λ _. (
      λ e. R.lists_refused (part_of_row (denied (eqb_tells (length c.side) (16 * node_count c.bytes)) e)),
      λ _. (λ e. R.lists_refused (quarter_over e), λ _. tt),
    ),
  )

  tests_show : Shows (TimedReportRefusal c) tests
  tests_show = (
    lengths_show,
    λ _. shows_append (TimedReportRefusal c) size_tests own_tests
        (shows_as (SizeRefusal c.bytes c.indices) (TimedReportRefusal c) (λ k. R.sizes_refused) size_tests (sizes_show c.bytes c.indices))
        (λ _. (
          λ e. R.rays_over (leb-false (rays_given c) 65536 e),
          λ _. (
            room_shows,
            λ _. (
              λ e. R.losses_refused (losses_show c.panes c.losses e),
              λ _. shows_append (TimedReportRefusal c) hours_tests ray_test hours_show (λ _. (rays_show, λ _. tt)),
            ),
          ),
        )),
  )

  -- ---- a cause that holds makes a test fail, no later than its own, or is a walk's

  abbrev AsWalk : ℕ → Type 0
  AsWalk j = (j ≡ 10) × ((i : ℕ) × (i < rays_given c) × RayRefused (beside c) i)

  others_fail : (j : ℕ) → Fails j own_tests → Fails j tests ⊎ AsWalk j
  others_fail j f = inl (inr (fails_later j size_tests own_tests f))

  hours_fail : ListsRefusal c → Fails 14 hours_tests
  unfolding hours_conditions place_of
  hours_fail (spans_unfit e) = inl (e, tt)
  hours_fail (part_of_row n) = inr (inl (tells_false (eqb_tells (length c.side) (16 * node_count c.bytes)) n, tt))
  hours_fail (quarter_over e) = inr (inr (inl (e, tt)))

  tests_fail : (j : ℕ) → TimedReportRefusal c j → Fails j tests ⊎ AsWalk j
  unfolding rays_accepted any_hit_timed_of place_of
  tests_fail j (R.part_of_ray h) =
      inl (inl (ap (λ (b : Bool). b && eqb (length c.quarters) (rays_given c)) (tells_false (eqb_tells (length c.rays % 8) 0) h), tt))
  tests_fail j (R.quarters_unfit h) =
      let b = eqb (length c.rays % 8) 0 in
      inl (inl (ap (λ (x : Bool). b && x) (tells_false (eqb_tells (length c.quarters) (rays_given c)) h) ∙ and-false b, tt))
  tests_fail j (R.sizes_refused q) = inl (inr (fails_first j size_tests own_tests (sizes_fail c.bytes c.indices j q)))
  tests_fail j (R.rays_over h) = others_fail 2 (inl (lt-leb (rays_given c) 65536 h, tt))
  tests_fail j (R.ray_totals_short h) =
      others_fail 4 (inr (inl (ap (λ (b : Bool). b && leb c.panes (length c.pane_totals)) (lt-leb (rays_given c) (length c.ray_totals) h), tt)))
  tests_fail j (R.pane_totals_short h) =
      let b = leb (rays_given c) (length c.ray_totals) in
      others_fail 4 (inr (inl (ap (λ (x : Bool). b && x) (lt-leb c.panes (length c.pane_totals) h) ∙ and-false b, tt)))
  tests_fail j (R.losses_refused q) = others_fail 12 (inr (inr (inl (losses_fail c.panes c.losses q, tt))))
  tests_fail j (R.lists_refused q) =
      others_fail 14 (fails_later 14 middle (hours_tests ++ ray_test) (fails_first 14 hours_tests ray_test (hours_fail q)))
  tests_fail j (R.ray_refused i h e) =
      others_fail 9
      (fails_later 9 middle (hours_tests ++ ray_test)
      (fails_later 9 hours_tests ray_test (inl (one_fails (λ k. accepted_ray (ray_in c.rays k)) (rays_given c) i h e, tt))))
  tests_fail j (R.walk_refused i h q) = inr (refl, (i, h, q))

  as_walk : (i : ℕ) → i < rays_given c → RayRefused (beside c) i → TimedReportRefusal c 10
  unfolding any_hit_timed_of
  as_walk i h q = R.walk_refused i h q

  -- The call is refused with the number of the first cause that holds,
  pub report_refused_first : (k : ℕ) → (report_for c).answer ≡ refused_report k ↔ FirstTimedReportRefusal c k
  unfolding report_timed_of
  report_refused_first =
      asked_refused_first (beside c) (agrees c) tests entry_is (entry_with (by_walks (beside c))) all_in_order (TimedReportRefusal c) tests_show
      as_walk tests_fail none_after

  -- and gives totals exactly if none does.
  pub report_answered : ((made : ℕ) × Reports c made) ↔ ((j : ℕ) → TimedReportRefusal c j → ⊥)
  unfolding report_timed_of
  report_answered =
      asked_answered (beside c) (agrees c) tests entry_is (entry_with (by_walks (beside c))) all_in_order (TimedReportRefusal c) tests_show
      as_walk tests_fail none_after
