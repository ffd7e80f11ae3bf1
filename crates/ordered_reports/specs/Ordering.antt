-- What is claimed of ordering (02, [6]): of two calls of the conversion that are given one tree and one leaf limit. Either may ask for ordering or
-- not, and the slices lent may be any.
use Rattle.std.specs.Prelude.{◌↔◌, ◌≡◌, ℕ, ◌≤◌, Float, length}
use mathlib.Core.List.{List, Perm}
use Rattle.lists.specs.Counts.{count}
use Rattle.ray.specs.declared.Ray.{Ray}
use Rattle.query.specs.Met.{positions_met, tests_made, panes_met}
use Rattle.any_hit.specs.AnyHit.{any_hit_of}
use Rattle.closest.specs.Panes.{no_hit, closest_of, miss_of}
use Rattle.loss.specs.Loss.{loss_of, report_of}
use Rattle.bvh2_tables.specs.Call.{lengths_of}
use Rattle.bvh2_tables.specs.Tables.{slices_fit}
use Rattle.demands.specs.Call.{Call, leaf_count, record_at, list_at}
use Rattle.demands.specs.Walks.{list_left}
use Rattle.demands.specs.Panes.{Panes}

-- ---- two calls

-- the same words, index words and leaf limit
pub record SameTree (a b : Call) : Type 0 where
  pub words : a.words ≡ b.words
  pub indices : a.indices ≡ b.indices
  pub limit : a.limit ≡ b.limit

-- the slices lent have room in both, or in neither
abbrev pub SameRoom : Call → Call → Type 0
SameRoom a b = slices_fit (leaf_count a) (lengths_of a) ≡ slices_fit (leaf_count b) (lengths_of b)

-- ---- what a ray meets in the record of m nodes that a call left

-- the panes of positions, by the index list that the call left
abbrev pub panes_of : Call → List ℕ → List ℕ
panes_of c found = panes_met (list_at c) found

module _ (m : ℕ) (c : Call) (ray : Ray) where
  -- the positions met, and the node tests
  abbrev pub positions_met_in : List ℕ
  positions_met_in = positions_met (record_at c m) (leaf_count c) ray

  abbrev pub tests_made_in : ℕ
  tests_made_in = tests_made (record_at c m) (leaf_count c) ray

  -- a list has room for them
  abbrev pub AllFit : List ℕ → Type 0
  AllFit before = length positions_met_in ≤ length before

  -- and what any-hit, lent such a list, leaves in it
  abbrev pub left_in : List ℕ → List ℕ
  left_in before = list_left (record_at c m) ray (leaf_count c) before

module _ (m : ℕ) (a b : Call) where
  module _ (ray : Ray) where
    -- The ray meets the same panes in both records, each the same number of times,
    pub record SamePanes : Type 0 where
      pub rearranged : Perm (panes_of a (positions_met_in m a ray)) (panes_of b (positions_met_in m b ray))
      pub as_often : (k : ℕ) → count k (panes_of a (positions_met_in m a ray)) ≡ count k (panes_of b (positions_met_in m b ray))

    -- and makes the same number of node tests.
    abbrev pub SameTests : Type 0
    SameTests = tests_made_in m a ray ≡ tests_made_in m b ray

    -- The public call of any-hit answers the same, whatever the room: so many positions after so many tests, or the length needed, or a refusal.
    abbrev pub SameAnyHit : Type 0
    SameAnyHit = (room : ℕ) → any_hit_of (record_at a m) (leaf_count a) ray room ≡ any_hit_of (record_at b m) (leaf_count b) ray room

    -- What it leaves in lists with room names the same panes, each as often.
    abbrev pub SameLists : Type 0
    SameLists = (before other : List ℕ) → AllFit m a ray before → AllFit m b ray other
        → Perm (panes_of a (left_in m a ray before)) (panes_of b (left_in m b ray other))

    -- The ray's loss, for so many panes and any losses: the sum and its tests, or the same refusal.
    abbrev pub SameLoss : Type 0
    SameLoss = (panes : ℕ) (losses : List ℕ)
        → loss_of (record_at a m) (list_at a) panes losses ray ≡ loss_of (record_at b m) (list_at b) panes losses ray

    -- Over panes without a fault miss misses in both records, or is blocked in both,
    abbrev pub SameMiss : Type 0
    SameMiss = (panes : List Float) → Panes a.indices panes
        → (miss_of (record_at a m) (list_at a) panes ray).answer ≡ (miss_of (record_at b m) (list_at b) panes ray).answer

    -- and closest has a hit in both, or in neither.
    abbrev pub SameHit : Type 0
    SameHit = (panes : List Float) → Panes a.indices panes
        → (closest_of (record_at a m) (list_at a) panes ray).answer ≡ no_hit ↔ (closest_of (record_at b m) (list_at b) panes ray).answer ≡ no_hit

  -- A report, over any rays: all ray totals, all pane totals and the tests, or the same refusal, with the slices lent as they are then left.
  abbrev pub SameReport : Type 0
  SameReport = (panes : ℕ) (losses : List ℕ) (rays : List Float) (ray_totals pane_totals : List ℕ)
      → report_of (record_at a m) (list_at a) panes losses rays ray_totals pane_totals
      ≡ report_of (record_at b m) (list_at b) panes losses rays ray_totals pane_totals
