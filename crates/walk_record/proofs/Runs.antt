-- Each query is the run of steps and tellings that it makes, from a walker just begun, over the nodes of any record and for any rays: its walker
-- stands for what the run leaves, its tests are the nodes that the run tests, and what it has noted are its reactions to the positions that the run
-- reports.
use mathlib.Core.Bool.{Bool, false}
use mathlib.Core.List.{List, []}
use mathlib.Core.Path.{◌≡◌, sym, ap, subst, ◌∙◌}
use Prim.Native.Nat.{ℕ, ◌<◌}
use native.Mathlib.Nat.{zero-add}
use lib.ListN.{length}
use Rattle.record_shape.specs.Record.{Nodes}
use Rattle.walk.specs.Tests.{Tests}
use Rattle.walk.specs.Step.{Walker, Answer, fresh}
use Rattle.walk.specs.Calls.{All, Run, run_ops, reported}
use Rattle.walk.specs.Queries.{Reaction, QueryOutcome, steps_for, append, Pane, none, closest, miss}
use Rattle.walk.specs.Reports.{tested_nodes, Notes, up_to}
use Rattle.walk.specs.Slots.{tests_of}
use Rattle.walk.specs.WordStep.{decoded, fresh_words}
use Rattle.walk.proofs.Ends.{query_run, any_hit_run_lem}
use Rattle.walk.proofs.Reports.{run_tests, query_notes, reports_exist, miss_reports_lem, miss_listed_lem}
use Rattle.walk_record.specs.Record.{Rays, RayLaws, FieldsFitIn, slots_in, node_words_in}
use Rattle.walk_record.specs.Walk.{run_in, query_in, calls_in, any_hit_in}
use Rattle.walk_record.proofs.Demands.{run_on_lists, query_on_lists}

module _ {RayData Distance : Type 0} (N : Nodes) (R : Rays RayData Distance) (rays : RayLaws R) (fields : FieldsFitIn N) (n : ℕ) (r : RayData)
    (accepted : R.forged r ≡ false) where
  abbrev T : Tests RayData Distance
  T = tests_of (slots_in N R n)

  module _ {a : Type 0} (react : ℕ → RayData → a → Reaction Distance a) (x : a) where
    -- the answers of its steps
    abbrev pub answers_in : List Answer
    answers_in = (run_in N R (calls_in N R react x n r) (fresh_words r)).answers

    answers_are : answers_in ≡ (run_ops N.count T (calls_in N R react x n r) (fresh r)).answers
    answers_are = ap (λ (q : Run RayData). q.answers) (run_on_lists N R rays fields n r accepted (calls_in N R react x n r))

    -- After the run the walker stands for what the query's walker stands for: its ray with the reach, its tests, and what is in hand and waits.
    pub query_is_run : decoded (node_words_in N R) (run_in N R (calls_in N R react x n r) (fresh_words r)).walker
        ≡ decoded (node_words_in N R) (query_in N R react x n r).walker
    query_is_run =
        ap (λ (q : Run RayData). q.walker) (run_on_lists N R rays fields n r accepted (calls_in N R react x n r))
        ∙ query_run N.count T react (steps_for N.count) n (fresh r) x
        ∙ sym (ap (λ (o : QueryOutcome RayData a). o.walker) (query_on_lists N R rays fields n r accepted react x))

    -- Its tests are the nodes tested.
    pub query_tests : (query_in N R react x n r).walker.tests ≡ length (tested_nodes answers_in)
    query_tests =
        ap (λ (o : QueryOutcome RayData a). o.walker.tests) (query_on_lists N R rays fields n r accepted react x)
        ∙ sym (ap (λ (w : Walker RayData). w.tests) (query_run N.count T react (steps_for N.count) n (fresh r) x))
        ∙ run_tests N.count T (calls_in N R react x n r) (fresh r)
        ∙ zero-add (length (tested_nodes (run_ops N.count T (calls_in N R react x n r) (fresh r)).answers))
        ∙ ap (λ (l : List Answer). length (tested_nodes l)) (sym answers_are)

    -- The positions reported are below n,
    pub reported_exist : All (λ p. p < n) (reported answers_in)
    reported_exist =
        subst (λ (l : List Answer). All (λ p. p < n) (reported l)) (sym answers_are)
        (reports_exist N.count T react (steps_for N.count) n (fresh r) x)

    -- and what it has noted are its reactions to them.
    pub query_noted : Notes N.count T react r x (reported answers_in) (query_in N R react x n r).accumulator
    query_noted =
        subst (λ (l : List Answer). Notes N.count T react r x (reported l) (query_in N R react x n r).accumulator) (sym answers_are)
        (subst (Notes N.count T react r x (reported (run_ops N.count T (calls_in N R react x n r) (fresh r)).answers))
        (sym (ap (λ (o : QueryOutcome RayData a). o.accumulator) (query_on_lists N R rays fields n r accepted react x)))
        (query_notes N.count T react (steps_for N.count) n (fresh r) x))

  -- Any-hit's list is what the run reports.
  pub any_hit_is_run : (any_hit_in N R n r).accumulator ≡ reported (answers_in append [])
  any_hit_is_run =
      ap (λ (o : QueryOutcome RayData (List ℕ)). o.accumulator) (query_on_lists N R rays fields n r accepted append [])
      ∙ any_hit_run_lem N.count T (steps_for N.count) n (fresh r) []
      ∙ ap reported (sym (answers_are append []))

  -- Miss reports what closest does, up to the first position that stops it.
  pub miss_closest : (pane : ℕ → RayData → Pane Distance) (nearer : Distance → RayData → Bool)
      → reported (answers_in (miss pane nearer) none)
      ≡ up_to (λ p. (miss pane nearer p r none).stop) (reported (answers_in (closest pane nearer) none))
  miss_closest pane nearer =
      ap reported (answers_are (miss pane nearer) none)
      ∙ miss_reports_lem N.count T pane nearer (steps_for N.count) n (fresh r) none
      ∙ ap (λ (l : List Answer). up_to (λ p. (miss pane nearer p r none).stop) (reported l)) (sym (answers_are (closest pane nearer) none))

  -- And so it does of what any-hit lists.
  pub miss_any_hit : (pane : ℕ → RayData → Pane Distance) (nearer : Distance → RayData → Bool)
      → reported (answers_in (miss pane nearer) none) ≡ up_to (λ p. (miss pane nearer p r none).stop) (any_hit_in N R n r).accumulator
  miss_any_hit pane nearer =
      ap reported (answers_are (miss pane nearer) none)
      ∙ miss_listed_lem N.count T pane nearer (steps_for N.count) n (fresh r) []
      ∙ ap (λ (l : List Answer). up_to (λ p. (miss pane nearer p r none).stop) (reported l)) (sym (answers_are append []))
      ∙ ap (up_to (λ p. (miss pane nearer p r none).stop)) (sym any_hit_is_run)
