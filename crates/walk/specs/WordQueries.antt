-- Queries over a walker of words: `specs/Queries.antt` with a step in words.
use Rattle.std.specs.Prelude.{cond, List, [], ◌∷◌}
use Prim.Native.Nat.{ℕ, zero, suc}
use Rattle.walk.specs.Step.{Answer, tested, position, done, refused}
use Rattle.walk.specs.Queries.{Reaction, QueryOutcome}
use Rattle.walk.specs.WordStep.{WalkerWords, NodeWords, step_words, tell_words, decoded}

pub record OutcomeWords (RayData a : Type 0) : Type 0 where
  pub walker : WalkerWords RayData
  pub accumulator : a
  pub ended : Answer

abbrev pub told_all_words : {RayData Distance : Type 0} → NodeWords RayData Distance → List Distance → WalkerWords RayData → WalkerWords RayData
told_all_words N [] w = w
told_all_words N (x ∷ l) w = told_all_words N l (tell_words N x w)

-- the outcome on lists that it stands for
abbrev pub decoded_outcome : {RayData Distance a : Type 0} → NodeWords RayData Distance → OutcomeWords RayData a → QueryOutcome RayData a
decoded_outcome N o = record { walker = decoded N o.walker; accumulator = o.accumulator; ended = o.ended }

module _ {RayData Distance a : Type 0} (m : ℕ) (N : NodeWords RayData Distance) (react : ℕ → RayData → a → Reaction Distance a) where
  abbrev pub follow_words : Answer → WalkerWords RayData → a → (WalkerWords RayData → a → OutcomeWords RayData a) → OutcomeWords RayData a
  follow_words (tested v) w x go = go w x
  follow_words (position p) w x go =
      let r : Reaction Distance a = react p w.ray x in
      cond r.stop (record { walker = told_all_words N r.tells w; accumulator = r.accumulator; ended = position p })
      (go (told_all_words N r.tells w) r.accumulator)
  follow_words done w x go = record { walker = w; accumulator = x; ended = done }
  follow_words (refused e) w x go = record { walker = w; accumulator = x; ended = refused e }

  unfoldable pub query_words : ℕ → ℕ → WalkerWords RayData → a → OutcomeWords RayData a
  unfolding step_words
  query_words zero n w x = record { walker = w; accumulator = x; ended = tested 0 }
  query_words (suc f) n w x = follow_words (step_words m N n w).answer (step_words m N n w).walker x (query_words f n)
