-- A query where its walk begins, and one over a record without nodes.
use mathlib.Core.Bool.{false}
use mathlib.Core.List.{List}
use mathlib.Core.Path.{◌≡◌, refl, sym, ap, ◌∙◌, subst}
use Prim.Native.Nat.{ℕ, zero, suc, ◌*◌, ◌≤◌, ◌<◌}
use native.Mathlib.Omega.{arith}
use lib.Ieee.{Float}
use lib.ListN.{length, replicate}
use borrow.Author.Tests.{le-leb}
use Rattle.words.specs.Fields.{field}
use Rattle.words.specs.Ones.{ones_below}
use Rattle.causes.proofs.Sizes.{Fit}
use Rattle.faststack.specs.Stack.{capacity}
use Rattle.ray.specs.declared.Ray.{Ray}
use Rattle.ray.specs.Ray.{octant_of}
use Rattle.gate.specs.Gates.{Gates}
use Rattle.record_shape.specs.Record.{node_count, nodes_at}
use Rattle.walk.specs.Tests.{Tests}
use Rattle.walk.specs.Step.{fresh, done, emptied, step_of}
use Rattle.walk.specs.Queries.{Reaction, QueryOutcome, query, steps_for}
use Rattle.walk.specs.Slots.{tests_of}
use Rattle.walk.specs.WordQueries.{OutcomeWords}
use Rattle.walk.proofs.WordRuns.{fresh_range}
use Rattle.walk.proofs.WordQueries.{fresh_query}
use Rattle.walk_record.specs.WalkRay.{WalkRay, walk_ray, rays_of}
use Rattle.walk_record.specs.Record.{FieldsFit, slots_at, node_words_at}
use Rattle.walk_record.specs.Walk.{step_at, query_at}
use Rattle.walk_record.proofs.WalkRay.{walk_ray_laws}
use Rattle.walk_record.proofs.Steps.{decodes, step_range, step_falls}
use Rattle.advance.specs.declared.Walk.{Walk}
use Rattle.advance.specs.Turn.{walker_of, begun}
use Rattle.query.specs.Ending.{ending}
use Rattle.query.specs.Walk.{RecordSized}
use Rattle.query.proofs.Leads.{Steady, Leads}

-- no position is in hand
no_ones : ones_below 32 0 ≡ 0
unfolding ones_below field
no_ones = refl

-- on lists, without nodes a walker just begun is done
empty_lists : {RayData Distance a : Type 0} (m : ℕ) → m ≡ 0
    → (T : Tests RayData Distance) (react : ℕ → RayData → a → Reaction Distance a) (k n : ℕ) (ray : RayData) (x : a) → n ≤ 65536
    → T.forged ray ≡ false
    → query m T react (suc k) n (fresh ray) x ≡ record { walker = (emptied (fresh ray)).walker; accumulator = x; ended = done }
unfolding query step_of
empty_lists zero e T react k n ray x h f = rw (le-leb n 65536 h, f)
empty_lists (suc m) e T react k n ray x h f = absurd (omega arith)

-- ---- over a record's bytes

-- of fitting sizes, with nodes
pub sized_of : (bytes : List ℕ) (n : ℕ) → Fit (length bytes) n → 0 < node_count bytes → RecordSized bytes n
sized_of bytes n fit some = record { whole = fit.whole; some = some; nodes = fit.small; positions = fit.few }

-- steps there are steady
pub steady : (g : Gates) (bytes : List ℕ) (n : ℕ) → RecordSized bytes n → FieldsFit bytes
    → Steady (node_count bytes) (node_words_at bytes (rays_of g)) n
unfolding step_at
steady g bytes n sized fit = record {
  some = sized.some;
  nodes = sized.nodes;
  positions = sized.positions;
  range = step_range (nodes_at bytes) (rays_of g) (walk_ray_laws g) fit n;
  falls = step_falls (nodes_at bytes) (rays_of g) (walk_ray_laws g) fit n;
  told = (walk_ray_laws g).told_accepted;
}

module _ {a : Type 0} (g : Gates) (bytes : List ℕ) (n : ℕ) (fit : FieldsFit bytes) (react : ℕ → WalkRay → a → Reaction Float a) (x : a) (ray : Ray)
    (accepted : (rays_of g).forged (walk_ray ray) ≡ false) where
  -- the walk that a loop begins with leads to the query's outcome
  pub leads_begun : (octant : ℕ) → octant ≡ octant_of ray.direction → (v : Walk) → v ≡ begun
      → Leads (node_count bytes) (node_words_at bytes (rays_of g)) n react (ending (query_at bytes (rays_of g) react x n (walk_ray ray)))
      (walker_of ray octant v (replicate capacity 0)) x
  unfolding query_at
  leads_begun octant e v f =
      subst (λ (z : Walk). Leads (node_count bytes) (node_words_at bytes (rays_of g)) n react
      (ending (query_at bytes (rays_of g) react x n (walk_ray ray)))
      (walker_of ray octant z (replicate capacity 0)) x) (sym f)
      (subst (λ (o : ℕ). Leads (node_count bytes) (node_words_at bytes (rays_of g)) n react
      (ending (query_at bytes (rays_of g) react x n (walk_ray ray)))
      (walker_of ray o begun (replicate capacity 0)) x) (sym e) (record {
        way = record {
          accepted = accepted;
          tests = omega arith;
          deep = omega arith;
          range = fresh_range (node_count bytes) (node_words_at bytes (rays_of g)) _ _ (decodes (nodes_at bytes) (rays_of g) (walk_ray_laws g) fit n)
              (walk_ray ray);
        };
        steps = steps_for (node_count bytes);
        enough = omega (arith, no_ones);
        rest = refl;
      }))

  -- without nodes nothing is noted or tested
  pub record Empty (o : OutcomeWords WalkRay a) : Type 0 where
    pub accumulator : o.accumulator ≡ x
    pub tests : o.walker.tests ≡ 0
    pub ended : o.ended ≡ done

  pub query_empty : node_count bytes ≡ 0 → n ≤ 65536 → Empty (query_at bytes (rays_of g) react x n (walk_ray ray))
  unfolding query_at
  query_empty z h =
      let e =
      fresh_query (node_count bytes) (node_words_at bytes (rays_of g)) _ _ (decodes (nodes_at bytes) (rays_of g) (walk_ray_laws g) fit n) react
      (steps_for (node_count bytes)) n
      (walk_ray ray) x accepted
      ∙ empty_lists (node_count bytes) z (tests_of (slots_at bytes (rays_of g) n)) react (25 * node_count bytes) n (walk_ray ray) x h accepted in
      record {
        accumulator = ap (λ (o : QueryOutcome WalkRay a). o.accumulator) e;
        tests = ap (λ (o : QueryOutcome WalkRay a). o.walker.tests) e;
        ended = ap (λ (o : QueryOutcome WalkRay a). o.ended) e;
      }
