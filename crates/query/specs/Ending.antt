-- Internal: what a query is told of how its walk ended.
use Rattle.std.specs.Prelude.{ℕ}
use Rattle.walk.specs.Step as S
use Rattle.walk.specs.WordQueries.{OutcomeWords}

-- What was noted, the node tests, and the end. The rest of the walker plays no part: where a step is refused, positions that it passed over are in
-- hand still.
pub record Ending (a : Type 0) : Type 0 where
  pub noted : a
  pub tests : ℕ
  pub ended : S.Answer

abbrev pub ending : {RayData a : Type 0} → OutcomeWords RayData a → Ending a
ending o = record { noted = o.accumulator; tests = o.walker.tests; ended = o.ended }
