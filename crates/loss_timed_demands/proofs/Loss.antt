-- A ray's loss at a quarter hour (02, [3] and [7]), on any bytes: the sum over the list that any-hit writes for that ray and quarter hour, in walk
-- order, in rising order, and by panes. It is one beside the gates of the quarter hour.
use mathlib.Core.List.{List}
use mathlib.Core.Path.{◌≡◌}
use Prim.Native.Nat.{ℕ, ◌+◌, ◌*◌, ◌≤◌}
use lib.ListN.{get_or}
use Rattle.lists.specs.Sums.{sum}
use Rattle.gate.specs.Gates.{Gates}
use Rattle.record_shape.specs.Record.{node_count}
use Rattle.loss_walk.specs.Losses.{summed}
use Rattle.timed.specs.Hours.{gates_at}
use Rattle.timed_entry.specs.Entry.{timed_cause}
use Rattle.any_hit_timed.specs.Timed.{any_hit_timed_of, list_timed}
use Rattle.loss_timed.specs.Timed.{loss_timed_of}
use Rattle.demands.proofs.GatedLoss.{called, summed_most, summed_listed, summed_rising, summed_panes}
use Rattle.loss_timed_demands.specs.Loss.{TimedLossCall, hours, Loses, times_named, Room, listed_in, InWalkOrder, InRisingOrder}

module _ (c : TimedLossCall) where
  -- its gates, and what is found of cause 14
  abbrev pub gates : Gates
  gates = gates_at (hours c)

  abbrev pub between : ℕ
  between = timed_cause c.bytes (hours c)

  module _ (loss : ℕ) (loses : Loses c loss) where
    gives : (called gates between c.bytes c.indices c.panes c.losses c.ray).answer ≡ summed loss
    unfolding loss_timed_of
    gives = loses

    -- A loss is at most 25 losses of 1,000,000 to each node, and one.
    pub loss_most : loss ≤ (25 * node_count c.bytes + 1) * 1000000
    loss_most = summed_most gates between c.bytes c.indices c.panes c.losses c.ray loss gives

    module _ (before : List ℕ) (room : Room c before) where
      -- A loss is the sum over the list that any-hit writes for the ray and quarter hour, in its order, with any-hit's tests.
      pub loss_in_walk_order : InWalkOrder c loss before
      unfolding loss_timed_of any_hit_timed_of list_timed
      loss_in_walk_order = summed_listed gates between c.bytes c.indices c.panes c.losses c.ray loss gives before room

      -- It is the sum over that list in rising order,
      pub loss_rising : InRisingOrder c loss before
      unfolding list_timed
      loss_rising = summed_rising gates between c.bytes c.indices c.panes c.losses c.ray loss gives before room

      -- and the sum over all panes of a pane's loss as often as the list's positions name it.
      pub loss_by_panes : loss ≡ sum (λ k. times_named c (listed_in c before) k * get_or c.losses k 0) c.panes
      unfolding list_timed
      loss_by_panes = summed_panes gates between c.bytes c.indices c.panes c.losses c.ray loss gives before room
