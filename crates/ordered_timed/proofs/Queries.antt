-- Ordering alters no report at a quarter hour (02, [6] and [7]): over the records of two timed conversions of one tree, each beside its own side
-- table and index list, any-hit's answers, losses and whole reports are equal, refusals too.
use mathlib.Core.Bool.{Bool, true}
use mathlib.Core.List.{List, [], ◌∷◌}
use mathlib.Core.Path.{◌≡◌, refl, sym, ap, ap₂, ◌∙◌}
use Prim.Native.Nat.{ℕ, ◌*◌, ◌/◌, ◌<◌}
use native.Mathlib.Omega.{arith}
use borrow.Author.Tests.{eqb-true}
use lib.Dec.{eqb}
use lib.Ieee.{Float}
use lib.ListN.{length, get_or}
use Rattle.lists.proofs.Tells.{all_at}
use Rattle.causes.specs.Causes.{Condition, ◌unless◌, first_cause}
use Rattle.ray.specs.declared.Ray.{Ray}
use Rattle.ray.specs.declared.Beam.{Beam}
use Rattle.ray.specs.Ray.{ray_from, accepted_ray}
use Rattle.packed.specs.Packed.{ray_in, ray_count, rays_accepted}
use Rattle.span.specs.Span.{quarter_fits, spans_fit}
use Rattle.walk.proofs.Cases.{not_false_true}
use Rattle.query.specs.Entry.{entry_cause}
use Rattle.query.specs.Result.{entered}
use Rattle.timed.specs.Hours.{Timetable, gates_at}
use Rattle.timed_entry.specs.Entry.{timed_conditions, timed_cause}
use Rattle.timed_entry.proofs.Begun.{timed_begun}
use Rattle.any_hit_walk.specs.AnyHit.{gated_any_hit}
use Rattle.any_hit_timed.specs.Timed.{any_hit_timed_of}
use Rattle.loss_walk.specs.Losses.{refused}
use Rattle.loss_walk.specs.Entry.{own_cause, conditions_between}
use Rattle.loss_walk.specs.Gated.{gated_loss, gated_report}
use Rattle.loss_walk.proofs.Causes.{own_none, none_entering}
use Rattle.loss_timed.specs.Timed.{hours_conditions, gates_by, loss_timed_of, report_timed_of}
use Rattle.loss_timed.proofs.Hours.{quarters_entered}
use Rattle.bvh2_to_cwbvh_timed.specs.TimedConversion.{TimedCall}
use Rattle.demands.specs.Call.{leaf_count}
use Rattle.demands.proofs.Rays.{ray_accepted}
use Rattle.ordered_reports.specs.Alike.{SizedAlike, MetAlikeBy}
use Rattle.ordered_reports.proofs.Alike.{beam_accepted}
use Rattle.ordered_reports.proofs.Beside.{lengths, gated_any_hit_alike, gated_loss_alike, gated_report_alike}
use Rattle.timed_conversion_laws.specs.TimedCall.{TimedAnswers, timed_record_at, timed_list_at, side_at, timetable_left}
use Rattle.timed_conversion_laws.proofs.SideTable.{table_size, side_in_front}
use Rattle.ordered_timed.specs.TimedOrdering.{SameTimedTree, SameAnyHitAt, SameLossAt, SameReportAt}
use Rattle.ordered_timed.proofs.Ordering.{second_timed, by_second_timed, second_answers, timed_sized, timed_met}

-- where cause 14 does not hold the quarter hour is one of a day
quarter_in : (bytes : List ℕ) (h : Timetable) → timed_cause bytes h ≡ 0 → quarter_fits h.quarter ≡ true
quarter_in bytes h e = not_false_true (quarter_fits h.quarter) (timed_begun bytes h e)

-- as many bytes of side table as the record has nodes
side_room : (c : TimedCall) (m d : ℕ) → TimedAnswers c m d → length (side_at c m) ≡ 16 * m
side_room c m d answers = ap length (side_in_front c m d answers) ∙ table_size c m d answers

module _ (a b : TimedCall) (same : SameTimedTree a b) (m d : ℕ) (answers : TimedAnswers a m d) (others : TimedAnswers (second_timed a b same) m d)
  where
    abbrev s : TimedCall
    s = second_timed a b same

    abbrev n : ℕ
    n = leaf_count a.untimed

    abbrev bytes : TimedCall → List ℕ
    bytes c = timed_record_at c m

    abbrev hours : TimedCall → ℕ → Timetable
    hours c quarter = timetable_left c m quarter

    alike : SizedAlike n (bytes a) (timed_list_at a) (bytes s) (timed_list_at s)
    alike = timed_sized a b same m d answers others

    sides : length (side_at a m) ≡ length (side_at s m)
    sides = side_room a m d answers ∙ sym (side_room s m d others)

    -- ---- one ray

    module _ (beam : Beam) (quarter : ℕ) where
      abbrev ray : Ray
      ray = ray_from beam

      -- cause 14 holds of both or of neither
      cause : timed_cause (bytes a) (hours a quarter) ≡ timed_cause (bytes s) (hours s quarter)
      unfolding timed_conditions
      cause =
          ap₂ (λ (x y : ℕ). first_cause (14 unless spans_fit a.panes a.spans ∷ 14 unless eqb x (16 * (y / 80)) ∷ 14 unless quarter_fits quarter ∷ []))
          sides alike.same_length

      met : timed_cause (bytes a) (hours a quarter) ≡ 0 → accepted_ray ray ≡ true
          → MetAlikeBy n (bytes a) (timed_list_at a) (bytes s) (timed_list_at s) (gates_at (hours a quarter)) (gates_at (hours s quarter)) ray
      met z h = timed_met a b same m d answers others quarter (quarter_in (bytes a) (hours a quarter) z) (beam_accepted beam h)

      any_hit_at_second : SameAnyHitAt m a s quarter ray
      unfolding any_hit_timed_of
      any_hit_at_second room =
          let g = gates_at (hours a quarter) in
          let o = gates_at (hours s quarter) in
          ap (λ (k : ℕ). gated_any_hit g (bytes a) k (timed_cause (bytes a) (hours a quarter)) ray room) alike.list_length
          ∙ gated_any_hit_alike alike g o ray (timed_cause (bytes a) (hours a quarter)) met room
          ∙ ap₂ (λ (k j : ℕ). gated_any_hit o (bytes s) k j ray room) (sym alike.other_length) cause

      loss_at_second : SameLossAt m a s quarter ray
      unfolding loss_timed_of
      loss_at_second losses =
          let g = gates_at (hours a quarter) in
          let o = gates_at (hours s quarter) in
          gated_loss_alike alike g o ray (own_cause a.panes losses (timed_cause (bytes a) (hours a quarter)))
          (λ z. met (own_none a.panes losses (timed_cause (bytes a) (hours a quarter)) z).1) a.panes losses
          ∙ ap (λ (k : ℕ). entered refused (entry_cause true (length (bytes s)) (length (timed_list_at s)) (own_cause a.panes losses k) ray)
          (gated_loss o (bytes s) (timed_list_at s) a.panes losses ray)) cause

    -- ---- many rays

    module _ (losses : List ℕ) (rays : List Float) (quarters ray_totals pane_totals : List ℕ) where
      abbrev fits : Bool
      fits = eqb (length quarters) (ray_count rays)

      abbrev own : TimedCall → ℕ
      own c = first_cause (hours_conditions (bytes c) (hours c 0) quarters)

      abbrev entry : TimedCall → List Condition
      entry c = conditions_between fits (own c) (bytes c) (timed_list_at c) a.panes losses rays (length ray_totals) (length pane_totals)

      -- the same is looked at on entry
      entry_same : entry a ≡ entry s
      unfolding conditions_between hours_conditions
      entry_same = rw (alike.same_length, lengths alike, sides) refl

      met_ray : first_cause (entry a) ≡ 0 → (i : ℕ) → i < ray_count rays
          → MetAlikeBy n (bytes a) (timed_list_at a) (bytes s) (timed_list_at s) (gates_by (hours a 0) quarters i) (gates_by (hours s 0) quarters i)
          (ray_in rays i)
      unfolding rays_accepted
      met_ray none i h =
          let e =
          none_entering fits (own a) (bytes a) (timed_list_at a) a.panes losses rays (length ray_totals) (length pane_totals) none in
          let l = eqb-true (length quarters) (ray_count rays) e.others in
          let q = quarters_entered (bytes a) (side_at a m) (timed_list_at a) a.panes a.spans quarters (sym e.none) i (omega (arith, h, l)) in
          let r = all_at (λ k. accepted_ray (ray_in rays k)) (ray_count rays) e.entered.accepted i h in
          timed_met a b same m d answers others (get_or quarters i 0) q (ray_accepted rays i r)

      report_at_second : report_timed_of (bytes a) (side_at a m) (timed_list_at a) a.panes a.spans losses rays quarters ray_totals pane_totals
          ≡ report_timed_of (bytes s) (side_at s m) (timed_list_at s) a.panes a.spans losses rays quarters ray_totals pane_totals
      unfolding report_timed_of
      report_at_second =
          gated_report_alike alike (gates_by (hours a 0) quarters) (gates_by (hours s 0) quarters) a.panes losses rays (entry a) met_ray ray_totals
          pane_totals
          ∙ ap (λ (l : List Condition). gated_report (gates_by (hours s 0) quarters) (bytes s) (timed_list_at s) a.panes losses rays l ray_totals
          pane_totals) entry_same

-- ---- of two answered calls

module _ (a b : TimedCall) (same : SameTimedTree a b) (m d : ℕ) (answers : TimedAnswers a m d) (others : TimedAnswers b m d) where
  abbrev also : TimedAnswers (second_timed a b same) m d
  also = second_answers a b same m d answers others

  -- Of any ray that a call asks for, at any quarter hour, refused or not, any-hit's answer
  pub timed_ordering_same_answer : (beam : Beam) (quarter : ℕ) → SameAnyHitAt m a b quarter (ray_from beam)
  timed_ordering_same_answer beam quarter =
      by_second_timed a b same (λ c. SameAnyHitAt m a c quarter (ray_from beam)) (any_hit_at_second a b same m d answers also beam quarter)

  -- and its loss are the same,
  pub timed_ordering_same_loss : (beam : Beam) (quarter : ℕ) → SameLossAt m a b quarter (ray_from beam)
  timed_ordering_same_loss beam quarter =
      by_second_timed a b same (λ c. SameLossAt m a c quarter (ray_from beam)) (loss_at_second a b same m d answers also beam quarter)

  -- and so is a report over any rays at any quarter hours.
  pub timed_ordering_same_report : SameReportAt m a b
  timed_ordering_same_report = by_second_timed a b same (λ c. SameReportAt m a c) (report_at_second a b same m d answers also)
