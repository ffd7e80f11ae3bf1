-- Steps, lists of calls and queries at a quarter hour over a record's bytes (02, [7]): those of any walk, beside the gates of the lists.
use Rattle.std.specs.Prelude.{List, ℕ, Float, length}
use Rattle.ray.specs.declared.Ray.{Ray}
use Rattle.record_shape.specs.Record.{nodes_at}
use Rattle.walk.specs.Step.{Answer}
use Rattle.walk.specs.Calls.{Op}
use Rattle.walk.specs.Queries.{Reaction}
use Rattle.walk.specs.Slots.{WalkRecord}
use Rattle.walk.specs.WordStep.{WalkerWords, SteppedWords, RunWords, fresh_words}
use Rattle.walk.specs.WordQueries.{OutcomeWords}
use Rattle.walk_record.specs.Record.{Rays, slots_at}
use Rattle.walk_record.specs.WalkRay.{WalkRay, walk_ray, rays_of}
use Rattle.walk_record.specs.Walk.{step_at, run_at, query_at, calls_in, any_hit_at}
use Rattle.timed.specs.Hours.{Timetable, gates_at}

-- how a walker's ray is read then
abbrev pub rays_at : Timetable → Rays WalkRay Float
rays_at h = rays_of (gates_at h)

module _ (bytes : List ℕ) (h : Timetable) where
  -- the slots of a record as a walk sees them then
  abbrev pub timed_slots : WalkRecord WalkRay Float
  timed_slots = slots_at bytes (rays_at h) (length h.indices)

  -- one step of a walker; there are as many positions as index words
  abbrev pub timed_step : WalkerWords WalkRay → SteppedWords WalkRay
  timed_step w = step_at bytes (rays_at h) (length h.indices) w

  -- a list of calls from a walker just begun
  abbrev pub timed_run : List (Op Float) → Ray → RunWords WalkRay
  timed_run l ray = run_at bytes (rays_at h) l (fresh_words (walk_ray ray))

  -- a query, with x noted before
  abbrev pub timed_query : {a : Type 0} → (ℕ → WalkRay → a → Reaction Float a) → a → Ray → OutcomeWords WalkRay a
  timed_query react x ray = query_at bytes (rays_at h) react x (length h.indices) (walk_ray ray)

  -- the steps and tellings that it makes, and the answers of those steps
  abbrev pub timed_calls : {a : Type 0} → (ℕ → WalkRay → a → Reaction Float a) → a → Ray → List (Op Float)
  timed_calls react x ray = calls_in (nodes_at bytes) (rays_at h) react x (length h.indices) (walk_ray ray)

  abbrev pub timed_answers : {a : Type 0} → (ℕ → WalkRay → a → Reaction Float a) → a → Ray → List Answer
  timed_answers react x ray = (timed_run (timed_calls react x ray) ray).answers

  -- any-hit: what it has noted is its list
  abbrev pub timed_any_hit : Ray → OutcomeWords WalkRay (List ℕ)
  timed_any_hit ray = any_hit_at bytes (rays_at h) (length h.indices) (walk_ray ray)
