-- Queries (01, "Walking"; "Rust forms and their replacements"): steps until done, refused or satisfied, and after each reported position a reaction
-- of the query's own. Any-hit, closest and miss differ in the reaction alone.
use Rattle.std.specs.Prelude.{Bool, true, false, cond}
use mathlib.Core.List.{List, [], ◌∷◌, ◌++◌}
use Prim.Native.Nat.{ℕ, zero, suc, ◌*◌}
use Rattle.walk.specs.Tests.{Tests}
use Rattle.walk.specs.Step.{Walker, Answer, tested, position, done, refused, fresh, step_of, tell_of}
use Rattle.walk.specs.Calls.{Op, step, tell}

-- what a query does with a position: what it has noted since, which distances it tells, and whether it stops
pub record Reaction (Distance a : Type 0) : Type 0 where
  pub accumulator : a
  pub tells : List Distance
  pub stop : Bool

-- how a query ended: with done, with a refusal, or with the position at which it stopped
pub record QueryOutcome (RayData a : Type 0) : Type 0 where
  pub walker : Walker RayData
  pub accumulator : a
  pub ended : Answer

-- several distances told
abbrev pub told_all : {RayData Distance : Type 0} → Tests RayData Distance → List Distance → Walker RayData → Walker RayData
told_all T [] w = w
told_all T (x ∷ l) w = told_all T l (tell_of T x w)

abbrev pub tellings : {Distance : Type 0} → List Distance → List (Op Distance)
tellings [] = []
tellings (x ∷ l) = tell x ∷ tellings l

module _ {RayData Distance a : Type 0} (m : ℕ) (T : Tests RayData Distance) (react : ℕ → RayData → a → Reaction Distance a) where
  -- what follows an answer, `go` being the rest of the query
  abbrev pub follow : Answer → Walker RayData → a → (Walker RayData → a → QueryOutcome RayData a) → QueryOutcome RayData a
  follow (tested v) w x go = go w x
  follow (position p) w x go =
      let r : Reaction Distance a = react p w.ray x in
      cond r.stop (record { walker = told_all T r.tells w; accumulator = r.accumulator; ended = position p })
      (go (told_all T r.tells w) r.accumulator)
  follow done w x go = record { walker = w; accumulator = x; ended = done }
  follow (refused e) w x go = record { walker = w; accumulator = x; ended = refused e }

  -- at most f steps, for n positions, from a walker and with something noted already
  unfoldable pub query : ℕ → ℕ → Walker RayData → a → QueryOutcome RayData a
  unfolding step_of
  query zero n w x = record { walker = w; accumulator = x; ended = tested 0 }
  query (suc f) n w x = follow (step_of m T n w).answer (step_of m T n w).walker x (query f n)

  -- the calls that a query makes
  abbrev pub calls_after : Answer → Walker RayData → a → (Walker RayData → a → List (Op Distance)) → List (Op Distance)
  calls_after (tested v) w x go = go w x
  calls_after (position p) w x go =
      let r : Reaction Distance a = react p w.ray x in
      tellings r.tells ++ cond r.stop [] (go (told_all T r.tells w) r.accumulator)
  calls_after done w x go = []
  calls_after (refused e) w x go = []

  unfoldable pub query_calls : ℕ → ℕ → Walker RayData → a → List (Op Distance)
  unfolding step_of
  query_calls zero n w x = []
  query_calls (suc f) n w x = step n ∷ calls_after (step_of m T n w).answer (step_of m T n w).walker x (query_calls f n)

-- More steps than any query takes: a test and at most 24 positions for each node, and the last that says done.
abbrev pub steps_for : ℕ → ℕ
steps_for m = suc (25 * m)

-- ---- any-hit: each position is appended

abbrev pub append : {RayData Distance : Type 0} → ℕ → RayData → List ℕ → Reaction Distance (List ℕ)
append p r x = record { accumulator = x ++ (p ∷ []); tells = []; stop = false }

abbrev pub any_hit_run : {RayData Distance : Type 0} → ℕ → Tests RayData Distance → ℕ → RayData → QueryOutcome RayData (List ℕ)
any_hit_run m T n ray = query m T append (steps_for m) n (fresh ray) []

-- ---- closest and miss, for any panes

-- a position's pane is at a distance, or refused with a number
pub data Pane (Distance : Type 0) : Type 0 where
  distance : Distance → Pane Distance
  faulty : ℕ → Pane Distance

-- what closest and miss have noted: nothing yet, a position with its distance, or a refusal
pub data Found (Distance : Type 0) : Type 0 where
  none : Found Distance
  hit : ℕ → Distance → Found Distance
  fault : ℕ → Found Distance

module _ {RayData Distance : Type 0} (pane : ℕ → RayData → Pane Distance) (nearer : Distance → RayData → Bool) where
  -- closest: a nearer distance is noted and told, so that of equal distances the first counts
  abbrev pub lower : Bool → ℕ → Distance → Found Distance → Reaction Distance (Found Distance)
  lower true p t x = record { accumulator = hit p t; tells = t ∷ []; stop = false }
  lower false p t x = record { accumulator = x; tells = []; stop = false }

  abbrev pub lower_at : Pane Distance → ℕ → RayData → Found Distance → Reaction Distance (Found Distance)
  lower_at (distance t) p r x = lower (nearer t r) p t x
  lower_at (faulty e) p r x = record { accumulator = fault e; tells = []; stop = true }

  abbrev pub closest : ℕ → RayData → Found Distance → Reaction Distance (Found Distance)
  closest p r x = lower_at (pane p r) p r x

  -- miss: the first nearer distance ends it
  abbrev pub block_at : Pane Distance → ℕ → RayData → Found Distance → Reaction Distance (Found Distance)
  block_at (distance t) p r x = record { accumulator = cond (nearer t r) (hit p t) x; tells = []; stop = nearer t r }
  block_at (faulty e) p r x = record { accumulator = fault e; tells = []; stop = true }

  abbrev pub miss : ℕ → RayData → Found Distance → Reaction Distance (Found Distance)
  miss p r x = block_at (pane p r) p r x

-- ---- how a query ends

-- there is a next step
abbrev pub Going : Answer → Type 0
Going (tested v) = Unit {0}
Going (position p) = Unit {0}
Going done = ⊥
Going (refused e) = ⊥

-- it has ended: done, refused, or stopped at a position
abbrev pub Halted : Answer → Type 0
Halted (tested v) = ⊥
Halted (position p) = Unit {0}
Halted done = Unit {0}
Halted (refused e) = Unit {0}

-- it has ended without a refusal by the walk
abbrev pub Ended : Answer → Type 0
Ended (tested v) = ⊥
Ended (position p) = Unit {0}
Ended done = Unit {0}
Ended (refused e) = ⊥
