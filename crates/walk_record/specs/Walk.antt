-- Steps, lists of calls and queries over a record's nodes and over its bytes, and what a ray reaches and passes there (01, "Walking").
use mathlib.Core.List.{List, []}
use Rattle.std.specs.Prelude.{ℕ}
use Rattle.ray.specs.declared.Ray.{Ray}
use Rattle.record_shape.specs.Record.{Nodes, nodes_at}
use Rattle.walk.specs.Step.{fresh}
use Rattle.walk.specs.Calls.{Op}
use Rattle.walk.specs.Listing.{listing}
use Rattle.walk.specs.Queries.{Reaction, query_calls, steps_for, append}
use Rattle.walk.specs.Slots.{tests_of, ReachedBySlots, PassedBySlots}
use Rattle.walk.specs.WordStep.{WalkerWords, SteppedWords, RunWords, fresh_words, step_words, run_words}
use Rattle.walk.specs.WordQueries.{OutcomeWords, query_words}
use Rattle.walk_record.specs.Record.{Rays, slots_in, node_words_in, slots_at}
use Rattle.walk_record.specs.WalkRay.{walk_ray, by_boxes}

module _ {RayData Distance : Type 0} (N : Nodes) (R : Rays RayData Distance) where
  -- one step of a walker, the record taken to have n positions
  unfoldable pub step_in : ℕ → WalkerWords RayData → SteppedWords RayData
  unfolding step_words
  step_in n w = step_words N.count (node_words_in N R) n w

  -- a list of calls
  unfoldable pub run_in : List (Op Distance) → WalkerWords RayData → RunWords RayData
  unfolding run_words
  run_in l w = run_words N.count (node_words_in N R) l w

  -- a query from a walker just begun, with x noted before
  unfoldable pub query_in : {a : Type 0} → (ℕ → RayData → a → Reaction Distance a) → a → ℕ → RayData → OutcomeWords RayData a
  unfolding query_words
  query_in react x n r = query_words N.count (node_words_in N R) react (steps_for N.count) n (fresh_words r) x

  -- the steps and tellings that it makes
  abbrev pub calls_in : {a : Type 0} → (ℕ → RayData → a → Reaction Distance a) → a → ℕ → RayData → List (Op Distance)
  calls_in react x n r = query_calls N.count (tests_of (slots_in N R n)) react (steps_for N.count) n (fresh r) x

  -- any-hit: what it has noted is its list
  abbrev pub any_hit_in : ℕ → RayData → OutcomeWords RayData (List ℕ)
  any_hit_in n r = query_in append [] n r

  -- the first node's listing: its passed positions, highest first, then its reached children's listings by falling slot XOR octant
  abbrev pub listing_in : ℕ → RayData → List ℕ
  listing_in n r = listing N.count (tests_of (slots_in N R n)) r 0

-- ---- over a record's bytes

module _ {RayData Distance : Type 0} (bytes : List ℕ) (R : Rays RayData Distance) where
  unfoldable pub step_at : ℕ → WalkerWords RayData → SteppedWords RayData
  unfolding step_in
  step_at n w = step_in (nodes_at bytes) R n w

  unfoldable pub run_at : List (Op Distance) → WalkerWords RayData → RunWords RayData
  unfolding run_in
  run_at l w = run_in (nodes_at bytes) R l w

  unfoldable pub query_at : {a : Type 0} → (ℕ → RayData → a → Reaction Distance a) → a → ℕ → RayData → OutcomeWords RayData a
  unfolding query_in
  query_at react x n r = query_in (nodes_at bytes) R react x n r

  unfoldable pub any_hit_at : ℕ → RayData → OutcomeWords RayData (List ℕ)
  unfolding query_at
  any_hit_at n r = query_at append [] n r

  abbrev pub listing_at : ℕ → RayData → List ℕ
  listing_at n r = listing_in (nodes_at bytes) R n r

-- ---- what a ray reaches and passes there, by boxes alone

abbrev pub Reached : List ℕ → ℕ → Ray → ℕ → Type 0
Reached bytes n ray = ReachedBySlots (slots_at bytes by_boxes n) (walk_ray ray)

abbrev pub Passed : List ℕ → ℕ → Ray → ℕ → Type 0
Passed bytes n ray = PassedBySlots (slots_at bytes by_boxes n) (walk_ray ray)
