-- What a ray meets (01, "Walking"; 02, [3] and [7]): the positions that any-hit's walk reports, in its order, and their panes.
use Rattle.std.specs.Prelude.{List, ℕ}
use Rattle.lists.specs.At.{words_at}
use Rattle.ray.specs.declared.Ray.{Ray}
use Rattle.gate.specs.Gates.{Gates, all_open}
use Rattle.walk.specs.WordQueries.{OutcomeWords}
use Rattle.walk_record.specs.WalkRay.{WalkRay, walk_ray, rays_of}
use Rattle.walk_record.specs.Walk.{any_hit_at}

-- ---- beside any gates

module _ (g : Gates) (bytes : List ℕ) (n : ℕ) (r : Ray) where
  -- the walk over a record that is taken to have n positions
  abbrev pub walk_met_by : OutcomeWords WalkRay (List ℕ)
  walk_met_by = any_hit_at bytes (rays_of g) n (walk_ray r)

  -- the positions that it meets
  abbrev pub positions_met_by : List ℕ
  positions_met_by = walk_met_by.accumulator

  -- the node tests that it makes
  abbrev pub tests_made_by : ℕ
  tests_made_by = walk_met_by.walker.tests

-- ---- by boxes alone

module _ (bytes : List ℕ) (n : ℕ) (r : Ray) where
  abbrev pub walk_met : OutcomeWords WalkRay (List ℕ)
  walk_met = walk_met_by all_open bytes n r

  abbrev pub positions_met : List ℕ
  positions_met = positions_met_by all_open bytes n r

  abbrev pub tests_made : ℕ
  tests_made = tests_made_by all_open bytes n r

-- ---- panes

-- the panes of positions, each as often as an index word names it
abbrev pub panes_met : List ℕ → List ℕ → List ℕ
panes_met indices found = words_at indices found
