-- Closest and miss at a quarter hour test and meet nothing else (02, [7]): on any record and beside any lists, for every accepted ray, the nodes that
-- their walks test are reached by spans and the positions reported are passed by spans, their own among them; so is the position of a hit, and one
-- that blocks.
use mathlib.Core.Bool.{true}
use mathlib.Core.List.{List}
use mathlib.Core.Path.{◌≡◌, ◌∙◌}
use Prim.Native.Nat.{ℕ, ◌<◌}
use lib.Ieee.{Float}
use lib.ListN.{get_or}
use Rattle.span.specs.Span.{quarter_fits}
use Rattle.record_shape.specs.Record.{node_count}
use Rattle.walk.specs.Tests.{Tests}
use Rattle.walk.specs.Step.{Answer}
use Rattle.walk.specs.Calls.{reported}
use Rattle.walk.specs.Queries.{none, closest, miss}
use Rattle.walk.specs.Slots.{tests_of}
use Rattle.walk.proofs.Hits.{closest_came, miss_came}
use Rattle.walk.proofs.Lists.{all_in}
use Rattle.walk_record.specs.WalkRay.{WalkRay, walk_ray}
use Rattle.pane_walk.specs.Panes.{pane_of, nearer, pane_cause_between}
use Rattle.pane_walk.specs.Panes.{hit_at, refused_closest, closest_found, blocked, refused_miss, miss_found}
use Rattle.closest.proofs.Counted.{told_counts}
use Rattle.closest.proofs.Distances.{told_pane}
use Rattle.timed.specs.Reached.{PassedBySpans}
use Rattle.timed.specs.Walk.{timed_slots}
use Rattle.timed.proofs.NoOther.{query_no_other}
use Rattle.timed_entry.specs.Entry.{timed_cause}
use Rattle.closest_timed.specs.Timed.{closest_timed_of, miss_timed_of, closest_timed_walk, miss_timed_walk}
use Rattle.demands.specs.Panes.{HitCounts}
use Rattle.demands.specs.Walks.{AcceptedRay}
use Rattle.demands.proofs.Rays.{not_forged}
use Rattle.closest_timed_demands.specs.Panes.{TimedPaneCall, closest_for, miss_for, hours, closest_steps, miss_steps}
use Rattle.closest_timed_demands.specs.Panes.{WithinSpans, MetWithin, ClosestWithin, MissWithin}
use Rattle.closest_timed_demands.proofs.Given.{gives, given_answer, given_tests, hit_refused, block_refused, closest_made, miss_made}
use Rattle.closest_timed_demands.proofs.Given.{hit_counted, block_counted}

module _ (c : TimedPaneCall) (are_bytes : (i : ℕ) → get_or c.bytes i 0 < 256) (fits : quarter_fits c.quarter ≡ true)
    (accepted : AcceptedRay c.ray) where
  abbrev T : Tests WalkRay Float
  T = tests_of (timed_slots c.bytes (hours c))

  -- what refuses either on entry
  abbrev cause : ℕ
  cause = pane_cause_between c.bytes c.indices c.panes c.ray (timed_cause c.bytes (hours c))

  -- a position reported is passed by spans
  met_within : (steps : List Answer) → WithinSpans c steps → (p : ℕ) (t : Float) → HitCounts c.indices c.panes c.ray (reported steps) p t
      → MetWithin c steps p t
  met_within steps walk p t met = record { met = met; passed = all_in (PassedBySpans c.bytes (hours c)) (reported steps) walk.reports p met.reported }

  -- Closest tests and reports nothing that spans do not let through, its hit is at a position reported, and its tests are the nodes tested.
  pub closest_no_other : ClosestWithin c
  unfolding closest_timed_of
  closest_no_other =
      let o = closest_timed_walk c.bytes c.side c.indices c.panes c.spans c.quarter c.ray in
      let q = query_no_other c.bytes (hours c) are_bytes fits c.ray (not_forged accepted) (closest (pane_of c.indices c.panes) nearer) none in
      let came =
      closest_came (pane_of c.indices c.panes) nearer (node_count c.bytes) T (told_pane c.indices c.panes) told_counts
      (reported (closest_steps c)) (walk_ray c.ray) none o.accumulator q.3 in
      let within : WithinSpans c (closest_steps c) = record { tests = q.0; reports = q.1 } in
      let given = gives refused_closest closest_found o cause in record {
        walk = within;
        hit = λ p t e.
            met_within (closest_steps c) within p t
            (hit_counted c.indices c.panes c.ray (reported (closest_steps c)) o.accumulator o.walker.tests p t came
            (given_answer refused_closest closest_found o (closest_for c) given (hit_at p t) (hit_refused p t) e));
        tests = λ unrefused. given_tests refused_closest closest_found o (closest_for c) given closest_made unrefused ∙ q.2;
      }

  -- So does miss, and a position reported blocks it.
  pub miss_no_other : MissWithin c
  unfolding miss_timed_of
  miss_no_other =
      let o = miss_timed_walk c.bytes c.side c.indices c.panes c.spans c.quarter c.ray in
      let q = query_no_other c.bytes (hours c) are_bytes fits c.ray (not_forged accepted) (miss (pane_of c.indices c.panes) nearer) none in
      let came =
      miss_came (pane_of c.indices c.panes) nearer (node_count c.bytes) T (told_pane c.indices c.panes) told_counts
      (reported (miss_steps c)) (walk_ray c.ray) none o.accumulator q.3 in
      let within : WithinSpans c (miss_steps c) = record { tests = q.0; reports = q.1 } in
      let given = gives refused_miss miss_found o cause in record {
        walk = within;
        blocked_by = λ e.
            let b =
            block_counted c.indices c.panes c.ray (reported (miss_steps c)) o.accumulator o.walker.tests came
            (given_answer refused_miss miss_found o (miss_for c) given blocked block_refused e) in
            (b.0, b.1, met_within (miss_steps c) within b.0 b.1 b.2);
        tests = λ unrefused. given_tests refused_miss miss_found o (miss_for c) given miss_made unrefused ∙ q.2;
      }
