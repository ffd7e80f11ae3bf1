-- Closest and miss (01, "Walking"; "Causes of refusal", 6 and 10; 02, [1]): a walk over panes that are boxes of six floats, a position's pane being
-- the one that its index word names.
use Rattle.std.specs.Prelude.{Bool, cond, List, ℕ, ◌/◌, ◌%◌, eqb, ltb, length, get_or, Float}
use Rattle.std.specs.Prelude as P
use Rattle.causes.specs.declared.Refusal.{Refusal}
use Rattle.causes.specs.Refusal.{cause_number}
use Rattle.ray.specs.declared.Ray.{Ray}
use Rattle.ray.specs.Ray.{counts}
use Rattle.aabb.specs.Aabb.{accepted_box, entry_distance}
use Rattle.packed.specs.Packed.{box_in}
use Rattle.gate.specs.Gates.{Gates}
use Rattle.walk.specs.Queries.{Pane, distance, faulty, Found, none, hit, fault, closest, miss}
use Rattle.walk.specs.WordQueries.{OutcomeWords}
use Rattle.walk_record.specs.WalkRay.{WalkRay, walk_ray, rays_of}
use Rattle.walk_record.specs.Walk.{query_at}
use Rattle.query.specs.Entry.{entry_cause}
use Rattle.query.specs.Result.{Result, unanswered, walked, entered}
use Rattle.pane_walk.specs.declared.ClosestHit.{ClosestHit}
use Rattle.pane_walk.specs.declared.ClosestHit.TheVariants as C
use Rattle.pane_walk.specs.declared.Occlusion.{Occlusion}
use Rattle.pane_walk.specs.declared.Occlusion.TheVariants as M
use Rattle.pane_walk.specs.declared.ClosestFound.{ClosestFound}
use Rattle.pane_walk.specs.declared.MissFound.{MissFound}

-- ---- panes

-- pane k as a ray meets it: one that is not there is cause 10, and one whose box is not accepted is cause 6
unfoldable pub pane_met : List Float → ℕ → Ray → Pane Float
unfolding box_in
pane_met panes k r =
    cond (ltb k (length panes / 6)) (cond (accepted_box (box_in panes k)) (distance (entry_distance (box_in panes k) r)) (faulty 6)) (faulty 10)

-- position p as a ray meets it: one that is not there is cause 10
unfoldable pub position_met : List ℕ → List Float → ℕ → Ray → Pane Float
unfolding pane_met
position_met indices panes p r = cond (ltb p (length indices)) (pane_met panes (get_or indices p 0) r) (faulty 10)

-- the pane of a position
unfoldable pub pane_of : List ℕ → List Float → ℕ → WalkRay → Pane Float
unfolding pane_met
pane_of indices panes p b = pane_met panes (get_or indices p 0) b.ray

-- a distance that counts for a walk's ray
abbrev pub nearer : Float → WalkRay → Bool
nearer t b = counts b.ray t

-- ---- answers

-- closest: the position that is hit and how far off, or that none is, or a refusal
pub data ClosestAnswer : Type 0 where
  hit_at : (position : ℕ) → Float → ClosestAnswer
  no_hit : ClosestAnswer
  refused_closest : (number : ℕ) → ClosestAnswer

-- miss: no pane's distance counts, or one does, or a refusal
pub data MissAnswer : Type 0 where
  missed : MissAnswer
  blocked : MissAnswer
  refused_miss : (number : ℕ) → MissAnswer

-- what was found by a walk of so many tests: a pane's fault is the query's
unfoldable pub closest_found : Found Float → ℕ → Result ClosestAnswer
closest_found none tests = record { answer = no_hit; tests = tests }
closest_found (hit p t) tests = record { answer = hit_at p t; tests = tests }
closest_found (fault k) tests = unanswered (refused_closest k)

unfoldable pub miss_found : Found Float → ℕ → Result MissAnswer
miss_found none tests = record { answer = missed; tests = tests }
miss_found (hit p t) tests = record { answer = blocked; tests = tests }
miss_found (fault k) tests = unanswered (refused_miss k)

-- ---- the queries, beside any gates

-- the first of causes 1 and 2, of the query's own cause between 2 and 9, 0 for none, and of 9
abbrev pub pane_cause_between : List ℕ → List ℕ → List Float → Ray → (between : ℕ) → ℕ
pane_cause_between bytes indices panes r between = entry_cause (eqb (length panes % 6) 0) (length bytes) (length indices) between r

module _ (g : Gates) (bytes indices : List ℕ) (panes : List Float) (r : Ray) where
  -- the walks that they take: closest notes and tells each distance that counts, so of equal ones the first does; miss stops at the first
  abbrev pub gated_closest_walk : OutcomeWords WalkRay (Found Float)
  gated_closest_walk = query_at bytes (rays_of g) (closest (pane_of indices panes) nearer) none (length indices) (walk_ray r)

  abbrev pub gated_miss_walk : OutcomeWords WalkRay (Found Float)
  gated_miss_walk = query_at bytes (rays_of g) (miss (pane_of indices panes) nearer) none (length indices) (walk_ray r)

  -- what these give
  abbrev pub gated_closest_walked : Result ClosestAnswer
  gated_closest_walked = walked refused_closest closest_found gated_closest_walk gated_closest_walk.ended

  abbrev pub gated_miss_walked : Result MissAnswer
  gated_miss_walked = walked refused_miss miss_found gated_miss_walk gated_miss_walk.ended

  -- and what the queries give with their own cause between 2 and 9
  abbrev pub gated_closest : (between : ℕ) → Result ClosestAnswer
  gated_closest between = entered refused_closest (pane_cause_between bytes indices panes r between) gated_closest_walked

  abbrev pub gated_miss : (between : ℕ) → Result MissAnswer
  gated_miss between = entered refused_miss (pane_cause_between bytes indices panes r between) gated_miss_walked

-- ---- the cases of the results in the requirements' terms

unfoldable pub closest_answer : ClosestHit → ClosestAnswer
closest_answer (C.Hit p t) = hit_at p t
closest_answer C.NoHit = no_hit
closest_answer (C.Refused refusal) = refused_closest (cause_number refusal)

unfoldable pub miss_answer : Occlusion → MissAnswer
miss_answer M.Missed = missed
miss_answer M.Blocked = blocked

-- the results with their tests
abbrev pub closest_result : ClosestFound → Result ClosestAnswer
closest_result r = record { answer = closest_answer r.answer; tests = r.tests }

-- Internal: closest's answer, or why it is refused.
unfoldable pub closest_given : P.Result ClosestFound Refusal → Result ClosestAnswer
unfolding closest_answer
closest_given (P.Ok found) = closest_result found
closest_given (P.Err refusal) = unanswered (refused_closest (cause_number refusal))

unfoldable pub miss_result : P.Result MissFound Refusal → Result MissAnswer
unfolding miss_answer
miss_result (P.Ok found) = record { answer = miss_answer found.answer; tests = found.tests }
miss_result (P.Err refusal) = unanswered (refused_miss (cause_number refusal))

-- a pane as it was met
unfoldable pub pane_of_met : P.Result Float Refusal → Pane Float
pane_of_met (P.Ok t) = distance t
pane_of_met (P.Err refusal) = faulty (cause_number refusal)
