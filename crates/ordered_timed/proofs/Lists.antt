-- What any-hit at a quarter hour leaves in lists that have room names the same panes over both records, each as often (02, [6] and [7]).
use mathlib.Core.Bool.{true}
use mathlib.Core.List.{List}
use mathlib.Core.Path.{◌≡◌, ap, subst, ◌∙◌}
use Prim.Native.Nat.{ℕ, ◌*◌}
use native.Mathlib.Omega.{arith}
use borrow.Author.Tests.{eq-eqb}
use lib.ListN.{length, take}
use Rattle.lists.specs.Below.{all_below}
use Rattle.lists.proofs.Tells.{both_pass}
use Rattle.causes.proofs.Causes.{passed_none}
use Rattle.causes.proofs.Sizes.{Fit}
use Rattle.ray.specs.declared.Ray.{Ray}
use Rattle.span.specs.Span.{quarter_fits, spans_fit}
use Rattle.record_shape.specs.Record.{node_count}
use Rattle.walk.specs.Queries.{Ended}
use Rattle.query.specs.Met.{walk_met_by}
use Rattle.any_hit_walk.specs.AnyHit.{gated_list}
use Rattle.any_hit_walk.proofs.Found.{list_found}
use Rattle.any_hit_timed.specs.Timed.{list_timed}
use Rattle.timed.specs.Hours.{Timetable, gates_at}
use Rattle.timed_entry.specs.Entry.{timed_conditions, timed_cause}
use Rattle.bvh2_to_cwbvh_timed.specs.TimedConversion.{TimedCall, panes_fit}
use Rattle.demands.specs.Call.{leaf_count}
use Rattle.demands.specs.Walks.{AcceptedRay}
use Rattle.timed_conversion_laws.specs.TimedCall.{TimedAnswers, timed_record_at, timed_list_at, side_at, timetable_left}
use Rattle.timed_conversion_laws.proofs.Refusals.{panes_pass}
use Rattle.timed_conversion_laws.proofs.SideTable.{no_refusal, rows_left}
use Rattle.ordered_timed.specs.TimedOrdering.{SameTimedTree, positions_met_at, AllFitAt, SameListsAt}
use Rattle.ordered_timed.proofs.Ordering.{second_timed, by_second_timed, second_answers, timed_sized, timed_met}

module _ (c : TimedCall) (m d : ℕ) (answers : TimedAnswers c m d) (quarter : ℕ) (fits : quarter_fits quarter ≡ true) where
  abbrev h : Timetable
  h = timetable_left c m quarter

  -- cause 14 does not hold of what an answered call leaves
  no_hours_cause : timed_cause (timed_record_at c m) h ≡ 0
  unfolding timed_conditions panes_fit
  no_hours_cause =
      let spans = (both_pass (spans_fit c.panes c.spans) (all_below _ (length c.untimed.indices)) (panes_pass c (no_refusal c m d answers 14))).0 in
      passed_none (timed_conditions (timed_record_at c m) h)
      (spans, (eq-eqb (length (side_at c m)) (16 * node_count (timed_record_at c m)) (rows_left c m d answers), (fits, tt)))

  -- so any-hit leaves the positions met in front of a list that has room
  left_is : (long : length (timed_list_at c) ≡ leaf_count c.untimed) (sizes : Fit (length (timed_record_at c m)) (leaf_count c.untimed)) {ray : Ray}
      → AcceptedRay ray → Ended (walk_met_by (gates_at h) (timed_record_at c m) (leaf_count c.untimed) ray).ended → (before : List ℕ)
      → AllFitAt m c quarter ray before
      → take (length (positions_met_at m c quarter ray)) (list_timed (timed_record_at c m) h ray before) ≡ positions_met_at m c quarter ray
  unfolding list_timed
  left_is long sizes {ray} accepted ends before room =
      ap (λ (k : ℕ). take (length (positions_met_at m c quarter ray))
      (gated_list (gates_at h) (timed_record_at c m) k (timed_cause (timed_record_at c m) h) ray before)) long
      ∙ list_found (gates_at h) (timed_record_at c m) (leaf_count c.untimed) (timed_cause (timed_record_at c m) h) ray sizes no_hours_cause
      accepted.accepted ends before room

module _ (a b : TimedCall) (same : SameTimedTree a b) (m d : ℕ) (answers : TimedAnswers a m d) (quarter : ℕ) (fits : quarter_fits quarter ≡ true)
    (ray : Ray) (accepted : AcceptedRay ray) where
  abbrev s : TimedCall
  s = second_timed a b same

  lists_at_second : TimedAnswers s m d → SameListsAt m a s quarter ray
  lists_at_second others before other x y =
      let z = timed_sized a b same m d answers others in
      let met = timed_met a b same m d answers others quarter fits accepted in
      let fit = subst (λ (k : ℕ). Fit k (leaf_count a.untimed)) z.same_length z.fit in
      rw (
        left_is a m d answers quarter fits z.list_length z.fit accepted met.ends before x,
        left_is s m d others quarter fits z.other_length fit accepted met.other_ends other y,
      ) met.panes

  -- Lists with room are left with positions of the same panes, each as often.
  pub timed_ordering_same_lists : TimedAnswers b m d → SameListsAt m a b quarter ray
  timed_ordering_same_lists others =
      by_second_timed a b same (λ c. SameListsAt m a c quarter ray) (lists_at_second (second_answers a b same m d answers others))
