-- The run of a query (01, "Rust forms and their replacements": queries over the step).
use Rattle.std.specs.Prelude.{List, ℕ, Float}
use Rattle.ray.specs.declared.Ray.{Ray}
use Rattle.record_shape.specs.Record.{node_count}
use Rattle.walk.specs.Step.{Answer, fresh}
use Rattle.walk.specs.Queries.{Reaction, query_calls, steps_for}
use Rattle.walk.specs.Slots.{tests_of}
use Rattle.walk_record.specs.WalkRay.{WalkRay, walk_ray, by_boxes}
use Rattle.walk_record.specs.Record.{slots_at}
use Rattle.demands.specs.Walks.{Calls, answers}

module _ (bytes : List ℕ) (n : ℕ) (ray : Ray) {a : Type 0} (react : ℕ → WalkRay → a → Reaction Float a) (x : a) where
  -- the steps and tellings that a query makes on a record taken to have n positions, with x noted before
  abbrev pub calls_made : Calls
  calls_made = query_calls (node_count bytes) (tests_of (slots_at bytes by_boxes n)) react (steps_for (node_count bytes)) n (fresh (walk_ray ray)) x

  -- the answers of those steps
  abbrev pub answers_made : List Answer
  answers_made = answers bytes ray calls_made
