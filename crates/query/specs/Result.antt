-- A query's answer with its node tests beside it, and how it comes from a walk (01, "Walking"; "Causes of refusal").
use Rattle.std.specs.Prelude.{ℕ, zero, suc}
use Rattle.walk.specs.Step as S
use Rattle.walk.specs.WordQueries.{OutcomeWords}
use Rattle.walk_record.specs.WalkRay.{WalkRay}

pub record Result (A : Type 0) : Type 0 where
  pub answer : A
  pub tests : ℕ

-- a refusal: the tests beside it are 0 and no part of it
abbrev pub unanswered : {A : Type 0} → A → Result A
unanswered a = record { answer = a; tests = 0 }

-- how a walk ended, with what it noted after so many tests. (One that was not refused ends with done, or stopped at a position: law query-halts.)
unfoldable pub walked : {A N : Type 0} → (ℕ → A) → (N → ℕ → Result A) → OutcomeWords WalkRay N → S.Answer → Result A
walked refuse found o (S.tested v) = unanswered (refuse 10)
walked refuse found o (S.position p) = found o.accumulator o.walker.tests
walked refuse found o S.done = found o.accumulator o.walker.tests
walked refuse found o (S.refused k) = unanswered (refuse k)

-- refused on entry, or what the walk gives
unfoldable pub entered : {A : Type 0} → (ℕ → A) → (cause : ℕ) → Result A → Result A
entered refuse zero w = w
entered refuse (suc k) w = unanswered (refuse (suc k))
