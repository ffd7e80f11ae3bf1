-- What closest and miss are to answer over panes without a fault, in terms of the positions that their walks report (01, "Walking"; "Corners of each
-- file", cwbvh/mod.rs; 02, [1]). Told distances prune the walk, so these need not be all positions that the ray passes.
use Rattle.std.specs.Prelude.{true, false, ◌⊎◌, ◌↔◌, ◌≡◌, ℕ, ◌/◌, ◌%◌, ◌<◌, Float, length, get_or}
use mathlib.Core.List.{List, Nodup}
use Rattle.std.specs.Float.Ieee.{lt}
use Rattle.ray.specs.declared.Ray.{Ray}
use Rattle.ray.specs.Ray.{seen_at}
use Rattle.aabb.specs.Aabb.{accepted_box, entry_distance}
use Rattle.walk.specs.Step.{Answer}
use Rattle.walk.specs.Calls.{All, reported}
use Rattle.walk.specs.Listing.{In}
use Rattle.walk.specs.Queries.{distance, none, closest, miss}
use Rattle.walk.specs.Reports.{tested_nodes, up_to, NoneBelow, Nearest, Blocks}
use Rattle.walk_record.specs.Walk.{Passed}
use Rattle.packed.specs.Packed.{box_in}
use Rattle.closest.specs.Panes.{pane_met, pane_of, nearer, hit_at, no_hit, missed, blocked, closest_of, miss_of}
use Rattle.demands.specs.Runs.{answers_made}

-- Panes of six floats each, every one with an accepted box, and every index word the number of one.
pub record Panes (indices : List ℕ) (panes : List Float) : Type 0 where
  pub whole : length panes % 6 ≡ 0
  pub accepted : (k : ℕ) → k < length panes / 6 → accepted_box (box_in panes k) ≡ true
  pub named : (p : ℕ) → p < length indices → get_or indices p 0 < length panes / 6

-- A position that was reported, its pane met at distance t, and t counts: it is not below the ray's start, and is below its reach.
pub record HitCounts (indices : List ℕ) (panes : List Float) (ray : Ray) (reports : List ℕ) (p : ℕ) (t : Float) : Type 0 where
  pub reported : In p reports
  pub met : pane_met panes (get_or indices p 0) ray ≡ distance t
  pub not_before_start : lt t ray.tmin ≡ false
  pub below_reach : lt t ray.tmax ≡ true

-- the distance at which a ray enters a position's pane
abbrev pub distance_of : List ℕ → List Float → Ray → ℕ → Float
distance_of indices panes ray p = entry_distance (box_in panes (get_or indices p 0)) ray

module _ (bytes indices : List ℕ) (panes : List Float) (ray : Ray) where
  -- the answers of the steps that closest and miss make, and the positions that these report, in order
  abbrev pub closest_steps : List Answer
  closest_steps = answers_made bytes (length indices) ray (closest (pane_of indices panes) nearer) none

  abbrev pub miss_steps : List Answer
  miss_steps = answers_made bytes (length indices) ray (miss (pane_of indices panes) nearer) none

  abbrev pub closest_reports : List ℕ
  closest_reports = reported closest_steps

  abbrev pub miss_reports : List ℕ
  miss_reports = reported miss_steps

  -- the distance at which the ray enters the pane of one of these
  abbrev enters_at : ℕ → Float
  enters_at = distance_of indices panes ray

  -- and where it sees that pane: nowhere, if it enters it before its start
  abbrev sees_at : ℕ → Float
  sees_at p = seen_at ray (enters_at p)

  -- what closest answers
  pub record ClosestAnswers : Type 0 where
    -- no refusal
    pub answers : ((closest_of bytes indices panes ray).answer ≡ no_hit)
        ⊎ ((p : ℕ) × (t : Float) × ((closest_of bytes indices panes ray).answer ≡ hit_at p t))
    -- A hit is the nearest position reported that is seen, the first met of equal ones, at its pane's distance, and that is below the reach.
    pub hit : (p : ℕ) (t : Float)
        → (closest_of bytes indices panes ray).answer ≡ hit_at p t ↔ (t ≡ enters_at p) × Nearest lt sees_at ray.tmax closest_reports p
    -- No hit: no position reported is seen below the reach.
    pub no_hit_lem : (closest_of bytes indices panes ray).answer ≡ no_hit ↔ NoneBelow lt sees_at ray.tmax closest_reports
    -- No position is reported twice; each is one that the ray passes, so that any-hit lists it too; and each has a pane, met at its distance.
    pub once : Nodup closest_reports
    pub passed : All (Passed bytes (length indices) ray) closest_reports
    pub met : All (λ p. pane_met panes (get_or indices p 0) ray ≡ distance (enters_at p)) closest_reports
    -- its tests are the nodes tested
    pub tests : (closest_of bytes indices panes ray).tests ≡ length (tested_nodes closest_steps)

  -- what miss answers
  pub record MissAnswers : Type 0 where
    -- no refusal
    pub answers : ((miss_of bytes indices panes ray).answer ≡ missed) ⊎ ((miss_of bytes indices panes ray).answer ≡ blocked)
    -- Blocked: the last position reported is seen below the reach, and none before it.
    pub blocked_iff : (miss_of bytes indices panes ray).answer ≡ blocked ↔ ((p : ℕ) × Blocks lt sees_at ray.tmax miss_reports p)
    -- Missed: none is.
    pub missed_iff : (miss_of bytes indices panes ray).answer ≡ missed ↔ NoneBelow lt sees_at ray.tmax miss_reports
    -- It reports what closest does, up to the first that is seen below the reach. So it misses exactly if closest has no hit, and
    -- is blocked exactly if closest has one.
    pub as_closest : miss_reports ≡ up_to (λ p. lt (sees_at p) ray.tmax) closest_reports
    pub missed_no_hit : (miss_of bytes indices panes ray).answer ≡ missed ↔ (closest_of bytes indices panes ray).answer ≡ no_hit
    pub blocked_hit : (miss_of bytes indices panes ray).answer ≡ blocked
        ↔ ((p : ℕ) × (t : Float) × ((closest_of bytes indices panes ray).answer ≡ hit_at p t))
    -- its tests are the nodes tested
    pub tests : (miss_of bytes indices panes ray).tests ≡ length (tested_nodes miss_steps)
