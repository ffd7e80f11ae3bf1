-- Ordering alters no report at a quarter hour (02, [6] and [7]): of two calls of the timed conversion with one tree, one leaf limit and one list of
-- spans, whichever ordering each asks for and whatever slices it is lent. Both are answered with as many nodes and levels, or both are refused with
-- one number. Over each record beside its own side table and index list a ray meets the same panes then, each the same number of times, after the
-- same number of node tests.
use mathlib.Core.Bool.{Bool, true, false}
use mathlib.Core.List.{List, ◌∷◌, ◌++◌, []}
use mathlib.Core.Path.{◌≡◌, refl, sym, ap, ap₂, subst, ◌∙◌}
use Prim.Native.Nat.{ℕ, zero, suc}
use native.Mathlib.Omega.{arith}
use lib.Dec.{leb}
use lib.ListN.{length}
use Rattle.lists.proofs.Perms.{counts_perm}
use Rattle.causes.specs.Causes.{Condition, ◌unless◌, first_cause}
use Rattle.ray.specs.declared.Ray.{Ray}
use Rattle.span.specs.Span.{quarter_fits}
use Rattle.bvh2.specs.FirstCause.{size_conditions}
use Rattle.bvh2_tables.specs.Call.{lengths_of}
use Rattle.bvh2_to_cwbvh.specs.Conversion.{index_list_of, defined_nodes, deepest_level, converted, answer_for, outcome_for}
use Rattle.bvh2_to_cwbvh.proofs.Answers as A
use Rattle.bvh2_to_cwbvh_timed.specs.TimedConversion.{TimedCall, side_size, panes_fit, put_in_order, timed_conversion_cause}
use Rattle.bvh2_to_cwbvh_timed.specs.TimedConversion.{timed_outcome_for, timed_conversion_of}
use Rattle.bvh2_to_cwbvh_timed.proofs.Answers.{timed_answers}
use Rattle.bvh2_to_cwbvh_timed.proofs.Cause.{cause_entered, cause_panes, cause_untimed}
use Rattle.bvh2_to_cwbvh_timed.proofs.Entry.{entry, entry_passed}
use Rattle.bvh2_to_cwbvh_timed.proofs.Refused.{refused_with}
use Rattle.timed.specs.Hours.{gates_at}
use Rattle.demands.specs.Call.{Call, leaf_count}
use Rattle.demands.specs.Walks.{AcceptedRay}
use Rattle.demands.proofs.Answered.{record_is, list_is}
use Rattle.ordered_reports.specs.Alike.{SizedAlike, MetAlikeBy}
use Rattle.ordered_reports.proofs.Ordering.{second_call, is_second, early_same, cause_same, ordering_same_shape, decoded_lem, left_good, sized}
use Rattle.timed_conversion_laws.specs.TimedCall.{TimedAnswers, timed_record_at, timed_list_at, timetable_left}
use Rattle.timed_conversion_laws.proofs.SideTable.{untimed_answers, record_as_untimed, list_as_untimed, side_in_front}
use Rattle.ordered_timed.specs.TimedOrdering.{SameTimedTree, SameTimedRoom, SameTimedAnswer, SamePanesAt, SameTestsAt}
use Rattle.ordered_timed.proofs.Answered.{refused_some, named}
use Rattle.ordered_timed.proofs.Trees.{timed_records_alike}

module _ (a b : TimedCall) (same : SameTimedTree a b) where
  -- the second call with the first's tree and spans is the second call
  abbrev pub second_timed : TimedCall
  second_timed = record { untimed = second_call a.untimed b.untimed same.tree; panes = a.panes; spans = a.spans; side = b.side }

  is_second_timed : second_timed ≡ b
  is_second_timed = λ i. record {
    untimed = is_second a.untimed b.untimed same.tree i;
    panes = same.panes i;
    spans = same.spans i;
    side = b.side;
  }

  abbrev s : TimedCall
  s = second_timed

  -- what holds of it holds of the second call
  pub by_second_timed : (P : TimedCall → Type 0) → P s → P b
  by_second_timed P = subst P is_second_timed

  abbrev u : Call
  u = a.untimed

  -- ---- the conversion

  module _ (room : SameTimedRoom a b) where
    abbrev entered : TimedCall → List Condition
    entered c = entry c.untimed.words (leaf_count c.untimed) c.untimed.limit (length c.side)

    -- causes 1 to 3, and 4 of the side table
    entered_same : entered a ≡ entered s
    entered_same =
        ap (λ (fit : Bool). size_conditions (length u.words) (leaf_count u) ++ 3 unless leb u.limit 3 ∷ 4 unless fit ∷ [])
        (room.side ∙ ap (λ (c : TimedCall). leb (side_size (leaf_count c.untimed)) (length c.side)) (sym is_second_timed))

    abbrev by_panes : TimedCall → ℕ
    by_panes c = refused_with c.untimed.words (leaf_count c.untimed) c.untimed.limit (lengths_of c.untimed)

    -- and where the panes do not fit
    by_panes_same : by_panes a ≡ by_panes s
    by_panes_same = ap (λ (l : List Condition). first_cause (put_in_order 14 false l)) (early_same u b.untimed same.tree room.untimed)

    timed_cause_same : timed_conversion_cause a ≡ timed_conversion_cause s
    timed_cause_same = go (first_cause (entered a)) refl
      where
        behind : first_cause (entered a) ≡ 0 → (fit : Bool) → panes_fit a.panes a.spans u.indices ≡ fit
            → timed_conversion_cause a ≡ timed_conversion_cause s
        behind z true e =
            let x = entry_passed u.words (leaf_count u) u.limit (length a.side) z in
            let y = entry_passed u.words (leaf_count u) u.limit (length b.side) (sym (ap first_cause entered_same) ∙ z) in
            cause_untimed a x e ∙ cause_same u b.untimed same.tree room.untimed ∙ sym (cause_untimed s y e)
        behind z false e =
            let x = entry_passed u.words (leaf_count u) u.limit (length a.side) z in
            let y = entry_passed u.words (leaf_count u) u.limit (length b.side) (sym (ap first_cause entered_same) ∙ z) in
            cause_panes a x e (by_panes a) refl (refused_some u.words (leaf_count u) u.limit (lengths_of u))
            ∙ by_panes_same
            ∙ sym (cause_panes s y e (by_panes s) refl (refused_some u.words (leaf_count u) u.limit (lengths_of s.untimed)))

        go : (k : ℕ) → first_cause (entered a) ≡ k → timed_conversion_cause a ≡ timed_conversion_cause s
        go zero z = behind z (panes_fit a.panes a.spans u.indices) refl
        go (suc k) z =
            cause_entered a (suc k) (sym z) (λ y. omega (arith, y))
            ∙ sym (cause_entered s (suc k) (sym z ∙ ap first_cause entered_same) (λ y. omega (arith, y)))

    answer_for_same : (k : ℕ) → timed_conversion_cause a ≡ k → answer_for u k ≡ answer_for s.untimed k
    unfolding answer_for
    answer_for_same zero e =
        let h = (A.answered u (defined_nodes u) (deepest_level u) (untimed_answers a (defined_nodes u) (deepest_level u) (timed_answers a e))).none in
        let shape = ordering_same_shape u s.untimed (record { words = refl; indices = refl; limit = refl }) h in
        ap₂ (λ (m d : ℕ). converted m d) shape.0 shape.1
    answer_for_same (suc k) e = refl

    -- Both calls answer the same, converted or refused, where both have room or neither has.
    pub timed_ordering_same_conversion : SameTimedAnswer a b
    unfolding timed_conversion_of timed_outcome_for outcome_for
    timed_ordering_same_conversion =
        by_second_timed (λ c. SameTimedAnswer a c)
        (answer_for_same (timed_conversion_cause a) refl ∙ ap (answer_for s.untimed) timed_cause_same)

  -- ---- walks over the records

  module _ (m d : ℕ) (answers : TimedAnswers a m d) (others : TimedAnswers s m d) where
    pub timed_sized : SizedAlike (leaf_count u) (timed_record_at a m) (timed_list_at a) (timed_record_at s m) (timed_list_at s)
    timed_sized =
        rw (record_as_untimed a m d answers, list_as_untimed a m d answers, record_as_untimed s m d others, list_as_untimed s m d others)
        (sized u b.untimed same.tree m d (untimed_answers a m d answers) (untimed_answers s m d others))

    module _ (quarter : ℕ) (fits : quarter_fits quarter ≡ true) {ray : Ray} (accepted : AcceptedRay ray) where
      pub timed_met : MetAlikeBy (leaf_count u) (timed_record_at a m) (timed_list_at a) (timed_record_at s m) (timed_list_at s)
          (gates_at (timetable_left a m quarter)) (gates_at (timetable_left s m quarter)) ray
      unfolding index_list_of
      timed_met =
          let x = untimed_answers a m d answers in
          let y = untimed_answers s m d others in
          let h = (A.answered u m d x).none in
          rw (
            record_as_untimed a m d answers ∙ record_is u m d x,
            list_as_untimed a m d answers ∙ list_is u m d x,
            side_in_front a m d answers,
            record_as_untimed s m d others ∙ record_is s.untimed m d y,
            list_as_untimed s m d others ∙ list_is s.untimed m d y,
            side_in_front s m d others,
          )
          (timed_records_alike u.words u.indices u.limit h.small a.panes a.spans quarter fits accepted u.ordered b.untimed.ordered (leaf_count u)
          (decoded_lem u h.accepted) (left_good u m d x) (left_good s.untimed m d y) (named a m d answers) (named s m d others))

-- ---- of two answered calls

module _ (a b : TimedCall) (same : SameTimedTree a b) (m d : ℕ) (answers : TimedAnswers a m d) (others : TimedAnswers b m d) where
  pub second_answers : TimedAnswers (second_timed a b same) m d
  second_answers = subst (λ (c : TimedCall). TimedAnswers c m d) (sym (is_second_timed a b same)) others

  module _ (quarter : ℕ) (fits : quarter_fits quarter ≡ true) (ray : Ray) (accepted : AcceptedRay ray) where
    -- At a quarter hour of a day a ray meets the same panes, each as often,
    pub timed_ordering_same_panes : SamePanesAt m a b quarter ray
    timed_ordering_same_panes =
        let p = (timed_met a b same m d answers second_answers quarter fits accepted).panes in
        by_second_timed a b same (λ c. SamePanesAt m a c quarter ray) (record { rearranged = p; as_often = (counts_perm _ _).0 p })

    -- after the same number of node tests.
    pub timed_ordering_same_tests : SameTestsAt m a b quarter ray
    timed_ordering_same_tests =
        by_second_timed a b same (λ c. SameTestsAt m a c quarter ray)
        (timed_met a b same m d answers second_answers quarter fits accepted).tests
