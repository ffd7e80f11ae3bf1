-- What refuses a report on entry, by the tests that the code makes in turn, and what holds where nothing does; and the report by what refuses it.
use mathlib.Core.Bool.{Bool, true, false, ◌&&◌}
use mathlib.Core.List.{List, [], ◌∷◌, ◌++◌}
use mathlib.Core.Path.{◌≡◌, refl, sym, ap, ◌∙◌}
use Prim.Native.Nat.{ℕ, zero, suc, ◌%◌, ◌≤◌, ◌<◌}
use native.Mathlib.Omega.{arith}
use borrow.Author.Tests.{eq-eqb, ne_eqb, le-leb, lt-leb, leb-true, eqb-true}
use lib.Dec.{T, eqb, leb}
use lib.Ieee.{Float}
use lib.ListN.{length}
use Rattle.lists.specs.Below.{all_below}
use Rattle.lists.proofs.Tells.{both_pass}
use Rattle.causes.specs.Causes.{Condition, ◌unless◌, first_cause, given, order, place_in, place_of}
use Rattle.causes.specs.Sizes.{record_conditions, record_cause}
use Rattle.causes.proofs.Causes.{first_here, first_later, append_first, append_later, Passed, passed_none, passed_append, passed_parts, none_passed}
use Rattle.causes.proofs.Causes.{sorted}
use Rattle.causes.proofs.Sizes.{Fit, record_passed, record_fit}
use Rattle.gate.specs.Gates.{Gates}
use Rattle.packed.specs.Packed.{ray_count, rays_accepted}
use Rattle.walk.proofs.Cases.{and-false}
use Rattle.loss_walk.specs.Losses.{losses_fit, refused_report, Report}
use Rattle.loss_walk.specs.Gated.{gated_walks, gated_conditions, gated_totals, gated_report_by, gated_report, gated_report_of}
use Rattle.loss_walk.specs.Entry.{own_cause, conditions_between}
use Rattle.loss_walk.specs.Charged.{RaysEntered}

-- where no cause holds, none was found elsewhere either
record GivenNone (l r : List Condition) (k : ℕ) : Type 0 where
  pub passed : Passed l
  pub none : k ≡ 0
  pub behind : first_cause r ≡ 0

given_none : (l r : List Condition) → T (sorted 0 l) → (k : ℕ) → first_cause (l ++ given k ∷ r) ≡ 0 → GivenNone l r k
given_none l r s k e = in_front (first_cause l) refl
  where
    own : Passed l → (j : ℕ) → j ≡ k → GivenNone l r k
    own p zero z = record {
      passed = p;
      none = sym z;
      behind = sym (first_later k r (eq-eqb k 0 (sym z))) ∙ sym (append_later l (given k ∷ r) p) ∙ e;
    }
    own p (suc j) z =
        absurd (omega (arith, z, first_here {k = k} r (ne_eqb k 0 (λ y. omega (arith, y, z))), append_later l (given k ∷ r) p, e))

    in_front : (j : ℕ) → first_cause l ≡ j → GivenNone l r k
    in_front zero z = own (none_passed 0 l s z) k refl
    in_front (suc j) z = absurd (omega (arith, z, append_first l (given k ∷ r) (λ y. omega (arith, y, z)), e))

-- ---- one ray

module _ (panes : ℕ) (losses : List ℕ) (between : ℕ) where
  -- where the losses fit the cause is the other
  pub own_between : losses_fit panes losses ≡ true → own_cause panes losses between ≡ between
  unfolding first_cause
  own_between fit = first_later 12 _ fit ∙ alone between
    where
      alone : (k : ℕ) → first_cause (given k ∷ []) ≡ k
      alone zero = first_later zero [] refl
      alone (suc k) = first_here [] (ne_eqb (suc k) 0 (λ z. omega arith))

  -- where there is none they do, and the other is none either
  pub own_none : own_cause panes losses between ≡ 0 → (losses_fit panes losses ≡ true) × (between ≡ 0)
  unfolding sorted place_of order place_in
  own_none e = let g = given_none (12 unless losses_fit panes losses ∷ []) [] tt between e in (g.passed.0, g.none)

-- ---- many rays

module _ (fits : Bool) (between : ℕ) (bytes indices : List ℕ) (panes : ℕ) (losses : List ℕ) (rays : List Float) (rayRoom paneRoom : ℕ) where
  abbrev cause : ℕ
  cause = first_cause (conditions_between fits between bytes indices panes losses rays rayRoom paneRoom)

  -- behind the record's sizes,
  abbrev own : List Condition
  own =
      2 unless leb (ray_count rays) 65536 ∷ 4 unless (leb (ray_count rays) rayRoom && leb panes paneRoom) ∷ 12 unless losses_fit panes losses
      ∷ given between ∷ 9 unless rays_accepted rays ∷ []

  pub cause_lengths : (length rays % 8 ≡ 0 → ⊥) → 1 ≡ cause
  unfolding conditions_between
  cause_lengths h = sym (first_here _ (ap (λ (b : Bool). b && fits) (ne_eqb (length rays % 8) 0 h)))

  pub cause_others : fits ≡ false → 1 ≡ cause
  unfolding conditions_between
  cause_others h = sym (first_here _ (ap (λ (b : Bool). eqb (length rays % 8) 0 && b) h ∙ and-false (eqb (length rays % 8) 0)))

  module _ (whole : length rays % 8 ≡ 0) (others : fits ≡ true) where
    lengths_pass : eqb (length rays % 8) 0 && fits ≡ true
    lengths_pass = ap (λ (b : Bool). b && fits) (eq-eqb (length rays % 8) 0 whole) ∙ others

    pub cause_sizes : (record_cause (length bytes) (length indices) ≡ 0 → ⊥) → record_cause (length bytes) (length indices) ≡ cause
    unfolding conditions_between
    cause_sizes h = sym (first_later 1 _ lengths_pass ∙ append_first (record_conditions (length bytes) (length indices)) own h)

    module _ (fit : Fit (length bytes) (length indices)) where
      behind : cause ≡ first_cause own
      unfolding conditions_between
      behind =
          first_later 1 _ lengths_pass
          ∙ append_later (record_conditions (length bytes) (length indices)) own (record_passed (length bytes) (length indices) fit)

      pub cause_rays : 65536 < ray_count rays → 2 ≡ cause
      cause_rays h = sym (behind ∙ first_here _ (lt-leb (ray_count rays) 65536 h))

      module _ (few : ray_count rays ≤ 65536) where
        after_rays : cause ≡ first_cause (4 unless (leb (ray_count rays) rayRoom && leb panes paneRoom) ∷ 12 unless losses_fit panes losses
            ∷ given between ∷ 9 unless rays_accepted rays ∷ [])
        after_rays = behind ∙ first_later 2 _ (le-leb (ray_count rays) 65536 few)

        pub cause_ray_room : rayRoom < ray_count rays → 4 ≡ cause
        cause_ray_room h = sym (after_rays ∙ first_here _ (ap (λ (b : Bool). b && leb panes paneRoom) (lt-leb (ray_count rays) rayRoom h)))

        pub cause_pane_room : paneRoom < panes → 4 ≡ cause
        cause_pane_room h =
            sym (after_rays
            ∙ first_here _ (ap (λ (b : Bool). leb (ray_count rays) rayRoom && b) (lt-leb panes paneRoom h)
            ∙ and-false (leb (ray_count rays) rayRoom)))

        module _ (ray_room : ray_count rays ≤ rayRoom) (pane_room : panes ≤ paneRoom) where
          after_room : cause ≡ first_cause (12 unless losses_fit panes losses ∷ given between ∷ 9 unless rays_accepted rays ∷ [])
          after_room =
              after_rays
              ∙ first_later 4 _
              (ap (λ (b : Bool). b && leb panes paneRoom) (le-leb (ray_count rays) rayRoom ray_room) ∙ le-leb panes paneRoom pane_room)

          pub cause_losses : losses_fit panes losses ≡ false → 12 ≡ cause
          cause_losses h = sym (after_room ∙ first_here _ h)

          module _ (fitting : losses_fit panes losses ≡ true) where
            after_losses : cause ≡ first_cause (given between ∷ 9 unless rays_accepted rays ∷ [])
            after_losses = after_room ∙ first_later 12 _ fitting

            pub cause_between : (between ≡ 0 → ⊥) → between ≡ cause
            cause_between h = sym (after_losses ∙ first_here _ (ne_eqb between 0 h))

            module _ (none : between ≡ 0) where
              pub cause_accepted : rays_accepted rays ≡ false → 9 ≡ cause
              cause_accepted h = sym (after_losses ∙ first_later between _ (eq-eqb between 0 none) ∙ first_here _ h)

              pub cause_none : rays_accepted rays ≡ true → 0 ≡ cause
              cause_none h = sym (after_losses ∙ passed_none _ (eq-eqb between 0 none, (h, tt)))

  -- where nothing refuses it
  pub record Entering : Type 0 where
    pub whole : length rays % 8 ≡ 0
    pub others : fits ≡ true
    pub sizes : Fit (length bytes) (length indices)
    pub fitting : losses_fit panes losses ≡ true
    pub none : between ≡ 0
    pub entered : RaysEntered rays
    pub ray_room : ray_count rays ≤ rayRoom
    pub pane_room : panes ≤ paneRoom

  -- what is looked at before the report's own causes, from the number of rays on, and from the lengths on
  abbrev from_rays : List Condition
  from_rays =
      2 unless leb (ray_count rays) 65536 ∷ 4 unless (leb (ray_count rays) rayRoom && leb panes paneRoom) ∷ 12 unless losses_fit panes losses ∷ []

  abbrev front : List Condition
  front = 1 unless (eqb (length rays % 8) 0 && fits) ∷ record_conditions (length bytes) (length indices) ++ from_rays

  -- all tests passed
  pub entry_passed : cause ≡ 0 → Passed (conditions_between fits between bytes indices panes losses rays rayRoom paneRoom)
  unfolding conditions_between record_conditions sorted place_of
  entry_passed e =
      let g = given_none front (9 unless rays_accepted rays ∷ []) tt between e in
      passed_append front (given between ∷ 9 unless rays_accepted rays ∷ []) g.passed
      (eq-eqb between 0 g.none, none_passed 0 (9 unless rays_accepted rays ∷ []) tt g.behind)

  pub none_entering : cause ≡ 0 → Entering
  unfolding conditions_between record_conditions sorted place_of
  none_entering e =
      let g = given_none front (9 unless rays_accepted rays ∷ []) tt between e in
      let o = both_pass (eqb (length rays % 8) 0) fits g.passed.0 in
      let q = passed_parts (record_conditions (length bytes) (length indices)) from_rays g.passed.1 in
      let r = both_pass (leb (ray_count rays) rayRoom) (leb panes paneRoom) q.1.1.0 in
      record {
        whole = eqb-true (length rays % 8) 0 o.0;
        others = o.1;
        sizes = record_fit (length bytes) (length indices) q.0;
        fitting = q.1.1.1.0;
        none = g.none;
        entered = record {
          few = leb-true (ray_count rays) 65536 q.1.0;
          accepted = (none_passed 0 (9 unless rays_accepted rays ∷ []) tt g.behind).0;
        };
        ray_room = leb-true (ray_count rays) rayRoom r.0;
        pane_room = leb-true panes paneRoom r.1;
      }

-- where the walks find no cause none has a fault
pub none_walks : (gates : ℕ → Gates) (bytes indices : List ℕ) (panes : ℕ) (losses : List ℕ) (rays : List Float)
    → first_cause (gated_conditions gates bytes indices panes losses rays) ≡ 0
    → all_below (gated_walks gates bytes indices panes losses rays) (ray_count rays) ≡ true
unfolding gated_conditions sorted place_of
none_walks gates bytes indices panes losses rays e = (none_passed 0 (gated_conditions gates bytes indices panes losses rays) tt e).0

-- ---- the report, by what refuses it

module _ (gates : ℕ → Gates) (bytes indices : List ℕ) (panes : ℕ) (losses : List ℕ) (rays : List Float) (entry : List Condition)
    (ray_totals pane_totals : List ℕ) where
  -- refused with a number, both slices as they were
  abbrev refusing : ℕ → Report
  refusing k = record { answer = refused_report k; ray_totals = ray_totals; pane_totals = pane_totals }

  -- by the cause
  abbrev by_cause : ℕ → Report
  by_cause k = gated_report_by gates bytes indices panes losses rays k ray_totals pane_totals

  abbrev whole_report : Report
  whole_report = gated_report gates bytes indices panes losses rays entry ray_totals pane_totals

  -- the causes that walks find
  abbrev walks_cause : List Condition
  walks_cause = gated_conditions gates bytes indices panes losses rays

  by_number : (k : ℕ) → (k ≡ 0 → ⊥) → refusing k ≡ by_cause k
  unfolding gated_report_by
  by_number zero h = absurd (h refl)
  by_number (suc k) h = refl

  -- on entry
  pub report_entry : (k : ℕ) → k ≡ first_cause entry → (k ≡ 0 → ⊥) → refusing k ≡ whole_report
  unfolding gated_report
  report_entry k e h = by_number k h ∙ ap by_cause (e ∙ sym (append_first entry walks_cause (λ z. h (e ∙ z))))

  -- where a cause on entry holds it does not matter which gates the walks would have
  refused_alike : (others : ℕ → Gates) → (first_cause entry ≡ 0 → ⊥)
      → gated_report others bytes indices panes losses rays entry ray_totals pane_totals ≡ whole_report
  unfolding gated_report gated_report_by
  refused_alike others h = of_others (first_cause entry) refl
    where
      of_others : (k : ℕ) → first_cause entry ≡ k
          → gated_report others bytes indices panes losses rays entry ray_totals pane_totals ≡ whole_report
      of_others zero z = absurd (h z)
      of_others (suc k) z =
          ap (λ (j : ℕ). gated_report_by others bytes indices panes losses rays j ray_totals pane_totals)
          (append_first entry (gated_conditions others bytes indices panes losses rays) h ∙ z)
          ∙ report_entry (suc k) (sym z) (λ y. h (z ∙ y))

  module _ (passed : Passed entry) where
    -- by the walks alone
    behind_entry : first_cause (entry ++ walks_cause) ≡ first_cause walks_cause
    behind_entry = append_later entry walks_cause passed

    pub report_fault : (k : ℕ) → k ≡ first_cause walks_cause → (k ≡ 0 → ⊥) → refusing k ≡ whole_report
    unfolding gated_report
    report_fault k e h = by_number k h ∙ ap by_cause (e ∙ sym behind_entry)

    pub report_totals : first_cause walks_cause ≡ 0 → gated_totals gates bytes indices panes losses rays ray_totals pane_totals ≡ whole_report
    unfolding gated_report gated_report_by
    report_totals e = ap by_cause (sym (behind_entry ∙ e))

-- Where a cause of the report's own holds it does not matter which gates the walks would have.
pub own_report_alike : (gates others : ℕ → Gates) (bytes indices : List ℕ) (panes : ℕ) (losses : List ℕ) (rays : List Float) (fits : Bool)
    (between : ℕ) → (between ≡ 0 → ⊥) → (ray_totals pane_totals : List ℕ)
    → gated_report_of others bytes indices panes losses rays fits between ray_totals pane_totals
    ≡ gated_report_of gates bytes indices panes losses rays fits between ray_totals pane_totals
own_report_alike gates others bytes indices panes losses rays fits between h ray_totals pane_totals =
    refused_alike gates bytes indices panes losses rays
    (conditions_between fits between bytes indices panes losses rays (length ray_totals) (length pane_totals)) ray_totals pane_totals others
    (λ y. h (none_entering fits between bytes indices panes losses rays (length ray_totals) (length pane_totals) y).none)
