-- Nothing else is tested or reported (02, [7]): on any record and beside any lists, what a list of timed calls or any-hit tests is reached by
-- spans, and what it reports or lists is passed by spans, its own among them; and a step of any walker, whatever its lists, reports a position only
-- where its own span holds the walker's quarter hour.
use mathlib.Core.Bool.{true}
use mathlib.Core.List.{List, []}
use mathlib.Core.Path.{◌≡◌, sym, ap, ◌∙◌, subst}
use Prim.Native.Nat.{ℕ, ◌^◌, ◌<◌}
use native.Mathlib.Omega.{arith}
use lib.ListN.{length, take, get_or}
use Rattle.ray.specs.declared.Ray.{Ray}
use Rattle.span.specs.Span.{quarter_fits}
use Rattle.record_shape.specs.Record.{nodes_at}
use Rattle.walk.specs.Step.{position, refused}
use Rattle.walk.specs.Calls.{All}
use Rattle.walk.specs.Queries.{append}
use Rattle.walk.specs.Reports.{tested_nodes}
use Rattle.walk.specs.WordStep.{SteppedWords}
use Rattle.walk.proofs.Cases.{not_false_true}
use Rattle.walk_record.specs.WalkRay.{WalkRay, walk_ray}
use Rattle.walk_record.specs.Walk.{run_at, query_at, any_hit_at}
use Rattle.walk_record.proofs.WalkRay.{walk_ray_laws}
use Rattle.walk_record.proofs.Laws.{bytes_fit}
use Rattle.walk_record.proofs.Runs.{any_hit_is_run}
use Rattle.query.proofs.Entry.{entered}
use Rattle.any_hit_walk.specs.AnyHit.{listed}
use Rattle.any_hit_walk.proofs.Found.{listed_of}
use Rattle.timed.specs.Hours.{Timetable, present, drawn, gates_at}
use Rattle.timed.specs.Walk.{rays_at, timed_answers}
use Rattle.timed.specs.Reached.{ReachedBySpans, PassedBySpans}
use Rattle.timed.proofs.NoOther as N
use Rattle.timed_entry.specs.Entry.{timetable, timed_cause}
use Rattle.timed_entry.proofs.Begun.{timed_begun}
use Rattle.any_hit_timed.specs.Timed.{any_hit_timed_of, list_timed}
use Rattle.traverse_timed.specs.Walker.{TimedWords, timed_step_bytes}
use Rattle.demands.specs.Walks.{AcceptedRay}
use Rattle.demands.proofs.Rays.{not_forged}
use Rattle.timed_demands.specs.Calls.{TimedOp, timed_nodes, timed_reports, Beside}
use Rattle.timed_demands.proofs.Entry.{Enters, refuses, walks, enters}
use Rattle.timed_demands.proofs.Runs.{begun_kept}

module _ (bytes : List ℕ) (are_bytes : (i : ℕ) → get_or bytes i 0 < 256) (h : Timetable) {ray : Ray} (accepted : AcceptedRay ray) where
  -- ---- lists of calls

  -- Every node tested is reached by slots whose spans hold the quarter hour, and every position reported stands in such a slot of such a node, its
  -- own span holding it too.
  pub calls_no_other : quarter_fits h.quarter ≡ true → (l : List TimedOp) → All (Beside bytes h) l
      → All (ReachedBySpans bytes h) (timed_nodes bytes ray h.quarter l) × All (PassedBySpans bytes h) (timed_reports bytes ray h.quarter l)
  calls_no_other fits l b =
      let K = begun_kept bytes h fits ray accepted.accepted l b in
      let q = N.no_other bytes h are_bytes fits ray (not_forged accepted) K.calls in
      (subst (All (ReachedBySpans bytes h)) (sym K.tests) q.0, subst (All (PassedBySpans bytes h)) (sym K.reports) q.1)

  -- ---- any-hit

  -- the nodes that its walk tests
  abbrev pub any_hit_nodes : List ℕ
  any_hit_nodes = tested_nodes (timed_answers bytes h append [] ray)

  -- Where it lists positions they are such too; its tests are the nodes that its walk tests, and these are such.
  pub any_hit_no_other : (before : List ℕ) (count tests : ℕ)
      → any_hit_timed_of bytes h ray (length before) ≡ record { answer = listed count; tests = tests }
      → All (PassedBySpans bytes h) (take count (list_timed bytes h ray before))
      × All (ReachedBySpans bytes h) any_hit_nodes
      × (tests ≡ length any_hit_nodes)
  unfolding any_hit_timed_of list_timed any_hit_at query_at run_at
  any_hit_no_other before count tests e =
      let n = length h.indices in
      let L = listed_of (gates_at h) bytes n (timed_cause bytes h) ray before count tests e in
      let free = timed_begun bytes h (entered true (length bytes) n (timed_cause bytes h) ray L.entry).none in
      let fits : quarter_fits h.quarter ≡ true = not_false_true (quarter_fits h.quarter) free in
      let begun = N.begun bytes h are_bytes fits ray (not_forged accepted) in
      let q = N.query_no_other bytes h are_bytes fits ray (not_forged accepted) append [] in
      let same = any_hit_is_run (nodes_at bytes) (rays_at h) (walk_ray_laws (gates_at h)) (bytes_fit bytes are_bytes) n (walk_ray ray) begun in
      (subst (All (PassedBySpans bytes h)) (sym (L.front ∙ same)) q.1, q.0, L.made ∙ q.2)

-- ---- any step

module _ (bytes side indices : List ℕ) (panes : ℕ) (spans : List ℕ) (w : TimedWords) where
  abbrev at : Timetable
  at = timetable side indices panes spans w.quarter

  -- a refused step reports none
  reports_none : (k p : ℕ) → refused k ≡ position p → ⊥
  reports_none k p e = let z : ◌≡◌ {A = ℕ} 0 1 = cc in omega arith

  -- A step of any walker of 32-bit words, on any bytes and beside any lists: a position that it reports has an index word that names a pane, and
  -- that pane's span holds the walker's quarter hour.
  pub step_no_other : w.walker.positions.bits < 2 ^ 32 → (p : ℕ) → (timed_step_bytes bytes side indices panes spans w).answer ≡ position p
      → (present at p ≡ true) × (drawn at p ≡ true)
  step_no_other l p e = go (enters bytes side indices panes spans)
    where
      go : Enters bytes side indices panes spans → (present at p ≡ true) × (drawn at p ≡ true)
      go (refuses some same) = absurd (reports_none _ p (sym (ap (λ (r : SteppedWords WalkRay). r.answer) (same w.quarter w.walker)) ∙ e))
      go (walks none fit same) =
          N.step_no_other bytes at w.walker l p (sym (ap (λ (r : SteppedWords WalkRay). r.answer) (same w.quarter w.walker)) ∙ e)
