-- Each query is the run of steps and tellings that it makes, from the walker that `Walker::new` promises, on any record of whole nodes: its walker is
-- what the run leaves, its tests are the nodes that the run tests, and what it has noted are its reactions to the positions that the run reports.
use mathlib.Core.Bool.{Bool}
use mathlib.Core.List.{List, []}
use mathlib.Core.Path.{◌≡◌, sym, ap, subst, ◌∙◌}
use Prim.Native.Nat.{ℕ, ◌%◌, ◌<◌}
use native.Mathlib.Nat.{zero-add}
use lib.ListN.{length, get_or}
use lib.Ieee.{Float}
use Rattle.ray.specs.declared.Ray.{Ray}
use Rattle.record_shape.specs.Record.{node_count, nodes_at}
use Rattle.walk.specs.Tests.{Tests}
use Rattle.walk.specs.Step.{Walker, Answer, fresh}
use Rattle.walk.specs.Calls.{All, Run, run_ops, reported}
use Rattle.walk.specs.Queries.{Reaction, QueryOutcome, query, steps_for, append, Pane, none, closest, miss}
use Rattle.walk.specs.Reports.{tested_nodes, Notes, up_to}
use Rattle.walk.specs.Slots.{tests_of}
use Rattle.walk.specs.WordStep.{NodeWords, decoded, decoded_run}
use Rattle.walk.specs.WordQueries.{decoded_outcome}
use Rattle.walk.proofs.Ends.{query_run, any_hit_run_lem}
use Rattle.walk.proofs.Reports.{run_tests, query_notes, reports_exist, miss_reports_lem, miss_listed_lem}
use Rattle.gate.specs.Gates.{all_open}
use Rattle.walk_record.specs.WalkRay.{WalkRay, walk_ray, by_boxes}
use Rattle.walk_record.specs.Record.{slots_at, node_words_at}
use Rattle.walk_record.specs.Walk.{run_at, query_at, any_hit_at}
use Rattle.walk_record.proofs.Laws.{bytes_fit}
use Rattle.walk_record.proofs.WalkRay.{walk_ray_laws}
use Rattle.walk_record.proofs.Demands.{run_on_lists, query_on_lists}
use Rattle.traverse.proofs.Calls.{run_started}
use Rattle.demands.specs.Walks.{AcceptedRay, run}
use Rattle.demands.specs.Runs.{calls_made, answers_made}
use Rattle.demands.proofs.Rays.{not_forged}

module _ (bytes : List ℕ) (whole : length bytes % 80 ≡ 0) (are_bytes : (i : ℕ) → get_or bytes i 0 < 256) (n : ℕ) {ray : Ray}
    (accepted : AcceptedRay ray) where
  abbrev beam : WalkRay
  beam = walk_ray ray

  -- the walk in words, and the walk on the lists that these stand for
  abbrev N : NodeWords WalkRay Float
  N = node_words_at bytes by_boxes

  abbrev m : ℕ
  m = node_count bytes

  abbrev T : Tests WalkRay Float
  T = tests_of (slots_at bytes by_boxes n)

  module _ {a : Type 0} (react : ℕ → WalkRay → a → Reaction Float a) (x : a) where
    run_is : decoded_run N (run bytes ray (calls_made bytes n ray react x)) ≡ run_ops m T (calls_made bytes n ray react x) (fresh beam)
    unfolding run_at
    run_is =
        ap (decoded_run N) (run_started bytes whole ray accepted.accepted (calls_made bytes n ray react x))
        ∙ run_on_lists (nodes_at bytes) by_boxes (walk_ray_laws all_open) (bytes_fit bytes are_bytes) n beam (not_forged accepted)
        (calls_made bytes n ray react x)

    answers_are : answers_made bytes n ray react x ≡ (run_ops m T (calls_made bytes n ray react x) (fresh beam)).answers
    answers_are = ap (λ (r : Run WalkRay). r.answers) run_is

    outcome_is : decoded_outcome N (query_at bytes by_boxes react x n beam) ≡ query m T react (steps_for m) n (fresh beam) x
    unfolding query_at
    outcome_is = query_on_lists (nodes_at bytes) by_boxes (walk_ray_laws all_open) (bytes_fit bytes are_bytes) n beam (not_forged accepted) react x

    -- After the run the walker stands for what the query's walker stands for: its ray with the reach, its tests, and what is in hand and waits.
    pub query_is_run : decoded N (run bytes ray (calls_made bytes n ray react x)).walker
        ≡ decoded N (query_at bytes by_boxes react x n beam).walker
    query_is_run =
        ap (λ (r : Run WalkRay). r.walker) run_is
        ∙ query_run m T react (steps_for m) n (fresh beam) x
        ∙ sym (ap (λ (o : QueryOutcome WalkRay a). o.walker) outcome_is)

    -- Its tests are the nodes tested.
    pub query_tests : (query_at bytes by_boxes react x n beam).walker.tests ≡ length (tested_nodes (answers_made bytes n ray react x))
    query_tests =
        ap (λ (o : QueryOutcome WalkRay a). o.walker.tests) outcome_is
        ∙ sym (ap (λ (w : Walker WalkRay). w.tests) (query_run m T react (steps_for m) n (fresh beam) x))
        ∙ run_tests m T (calls_made bytes n ray react x) (fresh beam)
        ∙ zero-add (length (tested_nodes (run_ops m T (calls_made bytes n ray react x) (fresh beam)).answers))
        ∙ ap (λ (l : List Answer). length (tested_nodes l)) (sym answers_are)

    -- The positions reported are below n,
    pub reported_exist : All (λ p. p < n) (reported (answers_made bytes n ray react x))
    reported_exist =
        subst (λ (l : List Answer). All (λ p. p < n) (reported l)) (sym answers_are) (reports_exist m T react (steps_for m) n (fresh beam) x)

    -- and what it has noted are its reactions to them.
    pub query_noted : Notes m T react beam x (reported (answers_made bytes n ray react x)) (query_at bytes by_boxes react x n beam).accumulator
    query_noted =
        subst (λ (l : List Answer). Notes m T react beam x (reported l) (query_at bytes by_boxes react x n beam).accumulator) (sym answers_are)
        (subst (Notes m T react beam x (reported (run_ops m T (calls_made bytes n ray react x) (fresh beam)).answers))
        (sym (ap (λ (o : QueryOutcome WalkRay a). o.accumulator) outcome_is))
        (query_notes m T react (steps_for m) n (fresh beam) x))

  -- Any-hit's list is what the run reports.
  pub any_hit_is_run : (any_hit_at bytes by_boxes n beam).accumulator ≡ reported (answers_made bytes n ray append [])
  unfolding any_hit_at
  any_hit_is_run =
      ap (λ (o : QueryOutcome WalkRay (List ℕ)). o.accumulator) (outcome_is append [])
      ∙ any_hit_run_lem m T (steps_for m) n (fresh beam) []
      ∙ ap reported (sym (answers_are append []))

  -- They are below n.
  pub met_exist : All (λ p. p < n) (any_hit_at bytes by_boxes n beam).accumulator
  met_exist = subst (All (λ p. p < n)) (sym any_hit_is_run) (reported_exist append [])

  -- Miss reports what closest does, up to the first position that stops it.
  pub miss_closest : (pane : ℕ → WalkRay → Pane Float) (nearer : Float → WalkRay → Bool)
      → reported (answers_made bytes n ray (miss pane nearer) none)
      ≡ up_to (λ p. (miss pane nearer p beam none).stop) (reported (answers_made bytes n ray (closest pane nearer) none))
  miss_closest pane nearer =
      ap reported (answers_are (miss pane nearer) none)
      ∙ miss_reports_lem m T pane nearer (steps_for m) n (fresh beam) none
      ∙ ap (λ (l : List Answer). up_to (λ p. (miss pane nearer p beam none).stop) (reported l)) (sym (answers_are (closest pane nearer) none))

  -- And what any-hit's walk does, up to that position.
  pub miss_any_hit : (pane : ℕ → WalkRay → Pane Float) (nearer : Float → WalkRay → Bool)
      → reported (answers_made bytes n ray (miss pane nearer) none)
      ≡ up_to (λ p. (miss pane nearer p beam none).stop) (any_hit_at bytes by_boxes n beam).accumulator
  miss_any_hit pane nearer =
      ap reported (answers_are (miss pane nearer) none)
      ∙ miss_listed_lem m T pane nearer (steps_for m) n (fresh beam) []
      ∙ ap (λ (l : List Answer). up_to (λ p. (miss pane nearer p beam none).stop) (reported l)) (sym (answers_are append []))
      ∙ ap (up_to (λ p. (miss pane nearer p beam none).stop)) (sym any_hit_is_run)
