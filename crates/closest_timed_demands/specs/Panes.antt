-- What is claimed of closest and miss at a quarter hour (02, [7]; 01, "Walking"): that they test and meet nothing out of its hours.
use Rattle.std.specs.Prelude.{true, ◌⊎◌, ◌↔◌, ◌≡◌, ℕ, Float, length}
use Rattle.std.specs.Float.Ieee.{lt}
use mathlib.Core.List.{List, Nodup}
use Rattle.ray.specs.declared.Ray.{Ray}
use Rattle.ray.specs.Ray.{counts, seen_at}
use Rattle.walk.specs.Step.{Answer}
use Rattle.walk.specs.Calls.{All, reported}
use Rattle.walk.specs.Queries.{none, closest, miss}
use Rattle.walk.specs.Reports.{tested_nodes, up_to, Nearest}
use Rattle.query.specs.Result.{Result}
use Rattle.pane_walk.specs.Panes.{pane_of, nearer, ClosestAnswer, hit_at, no_hit, refused_closest, MissAnswer, missed, blocked, refused_miss}
use Rattle.timed.specs.Hours.{Timetable}
use Rattle.timed.specs.Walk.{timed_answers}
use Rattle.timed.specs.Reached.{ReachedBySpans, PassedBySpans, PassedAt}
use Rattle.closest_timed.specs.Timed.{pane_timetable, closest_timed_of, miss_timed_of}
use Rattle.demands.specs.Panes.{HitCounts, distance_of}

-- what `closest_timed` and `miss_timed` are called with
pub record TimedPaneCall : Type 0 where
  pub bytes : List ℕ
  pub side : List ℕ
  pub indices : List ℕ
  pub panes : List Float
  pub spans : List ℕ
  pub quarter : ℕ
  pub ray : Ray

module _ (c : TimedPaneCall) where
  -- what they answer, with their tests
  abbrev pub closest_for : Result ClosestAnswer
  closest_for = closest_timed_of c.bytes c.side c.indices c.panes c.spans c.quarter c.ray

  abbrev pub miss_for : Result MissAnswer
  miss_for = miss_timed_of c.bytes c.side c.indices c.panes c.spans c.quarter c.ray

  -- the lists that they read, at their quarter hour
  abbrev pub hours : Timetable
  hours = pane_timetable c.side c.indices c.panes c.spans c.quarter

  -- the answers of the steps that their walks make
  abbrev pub closest_steps : List Answer
  closest_steps = timed_answers c.bytes hours (closest (pane_of c.indices c.panes) nearer) none c.ray

  abbrev pub miss_steps : List Answer
  miss_steps = timed_answers c.bytes hours (miss (pane_of c.indices c.panes) nearer) none c.ray

  -- ---- on any record and beside any lists

  -- Each node tested is reached by slots whose spans hold the quarter hour; each position reported stands in such a slot of such a node, and the span
  -- of its own pane holds it too.
  pub record WithinSpans (steps : List Answer) : Type 0 where
    pub tests : All (ReachedBySpans c.bytes hours) (tested_nodes steps)
    pub reports : All (PassedBySpans c.bytes hours) (reported steps)

  -- A position so reported, its pane met at distance t, and t counts: it is not below the ray's start, and is below its reach (02, [1]).
  pub record MetWithin (steps : List Answer) (p : ℕ) (t : Float) : Type 0 where
    pub met : HitCounts c.indices c.panes c.ray (reported steps) p t
    pub passed : PassedBySpans c.bytes hours p

  -- of closest: a hit is at such a position, at its pane's distance; and the tests of an answer that is no refusal are the nodes tested
  pub record ClosestWithin : Type 0 where
    pub walk : WithinSpans closest_steps
    pub hit : (p : ℕ) (t : Float) → closest_for.answer ≡ hit_at p t → MetWithin closest_steps p t
    pub tests : ((k : ℕ) → ¬ (closest_for.answer ≡ refused_closest k)) → closest_for.tests ≡ length (tested_nodes closest_steps)

  -- of miss: where it is blocked there is such a position; and its tests likewise
  pub record MissWithin : Type 0 where
    pub walk : WithinSpans miss_steps
    pub blocked_by : miss_for.answer ≡ blocked → (p : ℕ) × (t : Float) × MetWithin miss_steps p t
    pub tests : ((k : ℕ) → ¬ (miss_for.answer ≡ refused_miss k)) → miss_for.tests ≡ length (tested_nodes miss_steps)

  -- ---- over a sound record, beside lists that fit and panes without a fault

  -- the distance at which the ray enters a position's pane, and where it sees that pane: nowhere, if it enters it before its start (02, [1])
  abbrev pub enters_at : ℕ → Float
  enters_at = distance_of c.indices c.panes c.ray

  abbrev pub sees_at : ℕ → Float
  sees_at p = seen_at c.ray (enters_at p)

  -- what their walks report
  pub record ReportsAt : Type 0 where
    -- Closest reports no position twice, and only those that all boxes and spans let through.
    pub once : Nodup (reported closest_steps)
    pub passed : All (PassedAt c.bytes hours c.ray) (reported closest_steps)
    -- Miss reports the same, up to the first that is seen below the reach.
    pub as_closest : reported miss_steps ≡ up_to (λ p. lt (sees_at p) c.ray.tmax) (reported closest_steps)

  -- All boxes and spans down to position p let the ray through, its pane's own span too, so that any-hit lists it; and its pane is at a distance that
  -- counts.
  abbrev pub InTheWay : ℕ → Type 0
  InTheWay p = PassedAt c.bytes hours c.ray p × (counts c.ray (enters_at p) ≡ true)

  -- what both answer
  pub record AnswersAt : Type 0 where
    -- no refusal
    pub closest_answers : (closest_for.answer ≡ no_hit) ⊎ ((p : ℕ) × (t : Float) × (closest_for.answer ≡ hit_at p t))
    pub miss_answers : (miss_for.answer ≡ missed) ⊎ (miss_for.answer ≡ blocked)
    -- A hit is the nearest position reported that is seen, the first met of equal ones, at its pane's distance.
    pub nearest_hit : (p : ℕ) (t : Float) → closest_for.answer ≡ hit_at p t
        → (t ≡ enters_at p) × Nearest lt sees_at c.ray.tmax (reported closest_steps) p
    -- Miss is blocked exactly if closest has a hit, and exactly if some position is in the way.
    pub blocked_hit : miss_for.answer ≡ blocked ↔ ((p : ℕ) × (t : Float) × (closest_for.answer ≡ hit_at p t))
    pub blocked_met : miss_for.answer ≡ blocked ↔ ((p : ℕ) × InTheWay p)
