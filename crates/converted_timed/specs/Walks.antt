-- What is claimed of walks at a quarter hour over what a timed conversion left (02, [7]; 01, "Walking"), all of it in one record.
use Rattle.std.specs.Prelude.{◌≡◌, ℕ, ◌≤◌, length}
use mathlib.Core.List.{List}
use Rattle.ray.specs.declared.Ray.{Ray}
use Rattle.record_shape.specs.Record.{DeepestLevel}
use Rattle.walk.specs.Calls.{All, Answered}
use Rattle.timed.specs.Hours.{Timetable}
use Rattle.demands.specs.Walks as U
use Rattle.timed_demands.specs.Calls.{TimedOp, timed_run_of, Brings, Beside}
use Rattle.timed_demands.specs.Walks.{CheckedAt, LongEnough, ListsAt, TestsAt, LacksAt, FilteredAt, StepsAt}
use Rattle.converted_timed.specs.Losses.{EachLoss, loss_call, LossAt}

-- of a ray at the quarter hour of h, over a record of n positions with deepest level d and the lists of h
pub record TimedWalks (bytes : List ℕ) (h : Timetable) (n d : ℕ) (ray : Ray) : Type 0 where
  -- The record is sound, of n positions and with that deepest level, and the lists are such as a timed call takes beside it.
  pub checked : CheckedAt bytes h
  pub positions : length h.indices ≡ n
  pub deepest : DeepestLevel bytes n d
  -- With a list that is long enough any-hit is not refused. Its list has a position exactly where all boxes and spans down to it pass and the pane's
  -- own span holds the quarter hour, once each;
  pub any_hit_lists : (before : List ℕ) → LongEnough bytes h ray (length before) → ListsAt bytes h ray before
  -- one with room for every position is long enough;
  pub any_hit_lists_all : (before : List ℕ) → n ≤ length before → ListsAt bytes h ray before
  -- with one that is not it is refused 11, with the number of those positions.
  pub any_hit_lacks : (before : List ℕ) → ¬ (LongEnough bytes h ray (length before)) → LacksAt bytes h ray before
  -- The node tests that it counts are as many as the nodes to which all boxes and spans pass.
  pub any_hit_tests : TestsAt bytes h ray
  -- Its list is the untimed call's without the positions whose own spans do not hold the quarter hour, in the same sequence.
  pub any_hit_filtered : (before : List ℕ) → U.LongEnough bytes ray n (length before) → FilteredAt bytes h ray before
  -- For every list of steps and tellings, each step with the lists of h or with others that refuse it: no position is reported twice, only those
  -- passed are, and no more groups wait than the deepest level;
  pub steps : (l : List TimedOp) → All (Beside bytes h) l → StepsAt bytes h ray d l
  -- and where all bring the lists of h no step is refused.
  pub no_step_refused : (l : List TimedOp) → All (Brings bytes h) l → All Answered (timed_run_of bytes ray h.quarter l).answers
  -- For every list of losses that fits: the ray's loss.
  pub loss : (losses : List ℕ) → EachLoss h.panes losses → LossAt (loss_call bytes h losses ray) n
