-- Whatever is called and told at a quarter hour, on any record and beside any lists: no node is tested, and no position reported, but those that
-- slots let through whose spans hold the quarter hour; and no step at all reports a position whose own span does not hold it.
use mathlib.Core.Bool.{true, false, not, ◌||◌}
use mathlib.Core.List.{List}
use mathlib.Core.Path.{◌≡◌, sym, ap, subst}
use Prim.Native.Nat.{ℕ, ◌^◌, ◌<◌}
use lib.Ieee.{Float}
use lib.ListN.{length, get_or}
use Rattle.lists.proofs.Tells.{both_pass}
use Rattle.ray.specs.declared.Ray.{Ray}
use Rattle.span.specs.Span.{holds, quarter_fits}
use Rattle.soundness.specs.Shape.{Holds}
use Rattle.node.specs.Node.{node_at}
use Rattle.node_slot.specs.Mask.{passes_slot}
use Rattle.record_shape.specs.Record.{node_count, nodes_at, shape_in, shape_at}
use Rattle.walk.specs.Step.{Answer, position}
use Rattle.walk.specs.Calls.{All, Op, Run, reported}
use Rattle.walk.specs.Queries.{Reaction}
use Rattle.walk.specs.Reports.{tested_nodes, Notes}
use Rattle.walk.specs.Listing.{PassedBy}
use Rattle.walk.specs.Slots.{tests_of}
use Rattle.walk.specs.WordStep.{WalkerWords}
use Rattle.walk.proofs.Lists.{all_map}
use Rattle.walk.proofs.Slots.{children_iff, stands_passed}
use Rattle.walk.proofs.Told.{Within, calls_within}
use Rattle.walk.proofs.Cases.{not_false_true}
use Rattle.walk.proofs.WordKept.{reports_admitted}
use Rattle.walk_record.specs.Record.{node_words_at}
use Rattle.walk_record.specs.WalkRay.{WalkRay, walk_ray, forged_ray}
use Rattle.walk_record.specs.Walk.{step_at, run_at, query_at}
use Rattle.walk_record.proofs.WalkRay.{gated_forged, walk_ray_laws}
use Rattle.walk_record.proofs.Laws.{bytes_fit}
use Rattle.walk_record.proofs.Demands.{run_on_lists}
use Rattle.walk_record.proofs.Runs.{query_tests, query_noted}
use Rattle.side_table.specs.SideTable.{side_span}
use Rattle.timed.specs.Hours.{Timetable, has_row, slot_open, present, drawn, gates_at}
use Rattle.timed.specs.Walk.{rays_at, timed_slots, timed_step, timed_run, timed_query, timed_calls, timed_answers}
use Rattle.timed.specs.Reached.{ChildBy, SpanHolds, ReachedBySpans, PassedBySpans}
use Rattle.timed.proofs.Listed.{own_span, timed_laws}

-- a slot is passed only if its span holds the quarter hour
span_holds : (bytes : List ℕ) (h : Timetable) (r : WalkRay) (v j : ℕ) → (timed_slots bytes h).passes r v j ≡ true → SpanHolds h v j
span_holds bytes h r v j e =
    (both_pass (has_row h v) (holds (side_span h.side v j) h.quarter) (both_pass (slot_open h v j) (passes_slot (node_at bytes v) r.ray j) e).0).1

-- ---- lists of calls, and the queries that make them

module _ (bytes : List ℕ) (h : Timetable) where
  -- a position in a slot whose span holds the quarter hour, and not passed over
  abbrev Standing : (v p : ℕ) → Type 0
  Standing v p =
      (j : ℕ) × Holds (shape_at bytes (length h.indices)) v j p × SpanHolds h v j × (not (present h p) || drawn h p ≡ true)

  within_spans : (r : WalkRay)
      → Within (node_count bytes) (tests_of (timed_slots bytes h)) (ChildBy (SpanHolds h) bytes) Standing (λ p. present h p ≡ true) r
  unfolding shape_in
  within_spans r = record {
    children = λ v c f l i.
        let q = (children_iff (timed_slots bytes h) _ (timed_laws bytes h) r v c f).0 i in record {
          slot = q.slot;
          child = record { of_eight_lem = q.of_eight_lem; inner = q.inner; is_child = q.is_child };
          by_slot = span_holds bytes h r v q.slot q.passes;
        };
    positions = λ v p f l i.
        let q = stands_passed (timed_slots bytes h) r v p l i in (q.slot, q.holds, span_holds bytes h r v q.slot q.passes, q.admitted);
    present = λ p e. not_false_true (present h p) e;
  }

  passed_own : (p : ℕ) → PassedBy (node_count bytes) (ChildBy (SpanHolds h) bytes) Standing p × (present h p ≡ true) → PassedBySpans bytes h p
  passed_own p q =
      let s = q.0.2 in
      (q.0.0, q.0.1, record { slot = s.0; stands = s.1; by_slot = s.2; own = own_span h p q.1 s.3 })

  module _ (are_bytes : (i : ℕ) → get_or bytes i 0 < 256) (quarter : quarter_fits h.quarter ≡ true) (ray : Ray)
      (accepted : forged_ray (walk_ray ray) ≡ false) where
    pub begun : (rays_at h).forged (walk_ray ray) ≡ false
    begun = gated_forged (gates_at h) (walk_ray ray) (ap not quarter) accepted

    -- For every list of steps and tellings from a walker just begun, refused steps included: each node tested is reached by slots whose spans hold
    -- the quarter hour, and each position reported stands in such a slot of such a node, and its own span holds it.
    pub no_other : (l : List (Op Float))
        → All (ReachedBySpans bytes h) (tested_nodes (timed_run bytes h l ray).answers)
        × All (PassedBySpans bytes h) (reported (timed_run bytes h l ray).answers)
    unfolding run_at
    no_other l =
        let a =
        calls_within (node_count bytes) (tests_of (timed_slots bytes h)) (λ r. Unit {0}) (λ x r k. tt) (ChildBy (SpanHolds h) bytes) Standing
        (λ p. present h p ≡ true) (λ r k. within_spans r) (walk_ray ray) tt l in
        let e =
        ap (λ (r : Run WalkRay). r.answers)
        (run_on_lists (nodes_at bytes) (rays_at h) (walk_ray_laws (gates_at h)) (bytes_fit bytes are_bytes) (length h.indices) (walk_ray ray)
        begun l) in (
          subst (λ (b : List Answer). All (ReachedBySpans bytes h) (tested_nodes b)) (sym e) a.0,
          subst (λ (b : List Answer). All (PassedBySpans bytes h) (reported b)) (sym e) (all_map passed_own _ a.1),
        )

    -- So it is of every query. The nodes that its steps test are as many as the tests that it counts, and what it has noted are its reactions to the
    -- positions that they report.
    pub query_no_other : {a : Type 0} (react : ℕ → WalkRay → a → Reaction Float a) (x : a)
        → All (ReachedBySpans bytes h) (tested_nodes (timed_answers bytes h react x ray))
        × All (PassedBySpans bytes h) (reported (timed_answers bytes h react x ray))
        × ((timed_query bytes h react x ray).walker.tests ≡ length (tested_nodes (timed_answers bytes h react x ray)))
        × Notes (node_count bytes) (tests_of (timed_slots bytes h)) react (walk_ray ray) x (reported (timed_answers bytes h react x ray))
        (timed_query bytes h react x ray).accumulator
    unfolding run_at query_at
    query_no_other react x =
        let all = no_other (timed_calls bytes h react x ray) in
        let N = nodes_at bytes in
        let R = rays_at h in
        let rays = walk_ray_laws (gates_at h) in
        let fields = bytes_fit bytes are_bytes in (
          all.0,
          all.1,
          query_tests N R rays fields (length h.indices) (walk_ray ray) begun react x,
          query_noted N R rays fields (length h.indices) (walk_ray ray) begun react x,
        )

  -- ---- any step

  -- Whatever walker of 32-bit words a step takes, fresh or made up: a position that it reports is there, and its own span holds the quarter hour.
  pub step_no_other : (w : WalkerWords WalkRay) → w.positions.bits < 2 ^ 32 → (p : ℕ) → (timed_step bytes h w).answer ≡ position p
      → (present h p ≡ true) × (drawn h p ≡ true)
  unfolding step_at
  step_no_other w l p e =
      let q = reports_admitted (node_count bytes) (node_words_at bytes (rays_at h)) (length h.indices) w l p e in
      let here = not_false_true (present h p) q.1 in
      (here, own_span h p here (not_false_true (not (present h p) || drawn h p) q.0))
