-- What is claimed of ordering at a quarter hour (02, [6] and [7]): of two calls of the timed conversion that are given one tree, one leaf limit and
-- one list of spans. Either may ask for ordering or not, and the slices lent may be any.
use Rattle.std.specs.Prelude.{◌≡◌, ℕ, ◌≤◌, Float, leb, length, take}
use mathlib.Core.List.{List, Perm}
use Rattle.lists.specs.Counts.{count}
use Rattle.ray.specs.declared.Ray.{Ray}
use Rattle.query.specs.Met.{positions_met_by, tests_made_by, panes_met}
use Rattle.timed.specs.Hours.{gates_at}
use Rattle.any_hit_timed.specs.Timed.{any_hit_timed_of, list_timed}
use Rattle.loss_timed.specs.Timed.{loss_timed_of, report_timed_of}
use Rattle.bvh2_to_cwbvh_timed.specs.TimedConversion.{TimedCall, side_size, timed_conversion_of}
use Rattle.timed_conversion_laws.specs.TimedCall.{timed_record_at, timed_list_at, side_at, timetable_left}
use Rattle.demands.specs.Call.{leaf_count}
use Rattle.ordered_reports.specs.Ordering.{SameTree, SameRoom}

-- ---- two calls

-- the same words, index words and leaf limit, and the same spans of as many panes
pub record SameTimedTree (a b : TimedCall) : Type 0 where
  pub tree : SameTree a.untimed b.untimed
  pub panes : a.panes ≡ b.panes
  pub spans : a.spans ≡ b.spans

-- the slices lent have room in both, or in neither, and so has the one for the side table
pub record SameTimedRoom (a b : TimedCall) : Type 0 where
  pub untimed : SameRoom a.untimed b.untimed
  pub side : leb (side_size (leaf_count a.untimed)) (length a.side) ≡ leb (side_size (leaf_count b.untimed)) (length b.side)

-- both answer the same: as many nodes and levels, or a refusal with one number
abbrev pub SameTimedAnswer : TimedCall → TimedCall → Type 0
SameTimedAnswer a b = (timed_conversion_of a).untimed.answer ≡ (timed_conversion_of b).untimed.answer

-- ---- what a call leaves, and what a ray meets of it

module _ (m : ℕ) (c : TimedCall) (quarter : ℕ) (ray : Ray) where
  -- the positions that the ray meets at a quarter hour in the record of m nodes, beside the side table and the index list, their panes, and its node
  -- tests
  abbrev pub positions_met_at : List ℕ
  positions_met_at = positions_met_by (gates_at (timetable_left c m quarter)) (timed_record_at c m) (leaf_count c.untimed) ray

  abbrev pub panes_met_at : List ℕ
  panes_met_at = panes_met (timed_list_at c) positions_met_at

  abbrev pub tests_made_at : ℕ
  tests_made_at = tests_made_by (gates_at (timetable_left c m quarter)) (timed_record_at c m) (leaf_count c.untimed) ray

  -- a list has room for the positions,
  abbrev pub AllFitAt : List ℕ → Type 0
  AllFitAt before = length positions_met_at ≤ length before

  -- and the panes of what any-hit, lent such a list, leaves in front of it
  abbrev pub panes_left_at : List ℕ → List ℕ
  panes_left_at before =
      panes_met (timed_list_at c) (take (length positions_met_at) (list_timed (timed_record_at c m) (timetable_left c m quarter) ray before))

module _ (m : ℕ) (a b : TimedCall) where
  module _ (quarter : ℕ) (ray : Ray) where
    -- The ray meets the same panes over both records, each the same number of times,
    pub record SamePanesAt : Type 0 where
      pub rearranged : Perm (panes_met_at m a quarter ray) (panes_met_at m b quarter ray)
      pub as_often : (k : ℕ) → count k (panes_met_at m a quarter ray) ≡ count k (panes_met_at m b quarter ray)

    -- and makes the same number of node tests.
    abbrev pub SameTestsAt : Type 0
    SameTestsAt = tests_made_at m a quarter ray ≡ tests_made_at m b quarter ray

    -- The call of any-hit answers the same, whatever the room: so many positions after so many tests, or the length needed, or a refusal.
    abbrev pub SameAnyHitAt : Type 0
    SameAnyHitAt = (room : ℕ) → any_hit_timed_of (timed_record_at a m) (timetable_left a m quarter) ray room
        ≡ any_hit_timed_of (timed_record_at b m) (timetable_left b m quarter) ray room

    -- What it leaves in lists with room names the same panes, each as often.
    abbrev pub SameListsAt : Type 0
    SameListsAt = (before other : List ℕ) → AllFitAt m a quarter ray before → AllFitAt m b quarter ray other
        → Perm (panes_left_at m a quarter ray before) (panes_left_at m b quarter ray other)

    -- The ray's loss, for any losses: the sum and its tests, or the same refusal.
    abbrev pub SameLossAt : Type 0
    SameLossAt = (losses : List ℕ) → loss_timed_of (timed_record_at a m) (side_at a m) (timed_list_at a) a.panes a.spans losses quarter ray
        ≡ loss_timed_of (timed_record_at b m) (side_at b m) (timed_list_at b) b.panes b.spans losses quarter ray

  -- A report, over any rays at any quarter hours: all ray totals, all pane totals and the tests, or the same refusal, with the slices lent as they
  -- are then left.
  abbrev pub SameReportAt : Type 0
  SameReportAt = (losses : List ℕ) (rays : List Float) (quarters ray_totals pane_totals : List ℕ)
      → report_timed_of (timed_record_at a m) (side_at a m) (timed_list_at a) a.panes a.spans losses rays quarters ray_totals pane_totals
      ≡ report_timed_of (timed_record_at b m) (side_at b m) (timed_list_at b) b.panes b.spans losses rays quarters ray_totals pane_totals
