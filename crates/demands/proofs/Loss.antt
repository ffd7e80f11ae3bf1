-- A ray's loss (02, [3]), on any bytes: the sum over any-hit's list in walk order, in rising order, and by panes. It is one beside gates that are all
-- open.
use mathlib.Core.List.{List}
use mathlib.Core.Path.{◌≡◌, ap, ◌∙◌, subst}
use Prim.Native.Nat.{ℕ, ◌+◌, ◌*◌, ◌≤◌}
use lib.ListN.{length, get_or}
use Rattle.lists.specs.Sums.{sum}
use Rattle.gate.specs.Gates.{all_open}
use Rattle.record_shape.specs.Record.{node_count}
use Rattle.query.specs.Result.{Result}
use Rattle.any_hit.specs.AnyHit.{any_hit_of, list_after}
use Rattle.loss.specs.Loss.{LossAnswer, summed, loss_of}
use Rattle.loss.proofs.Causes.{loss_alone}
use Rattle.demands.specs.Sums.{SumsListed}
use Rattle.demands.specs.Loss.{LossCall, Loses, met, taken, times_named, Room, listed_in, InWalkOrder, InRisingOrder}
use Rattle.demands.proofs.GatedLoss.{called, summed_most, summed_listed, summed_rising, summed_panes}

module _ (c : LossCall) (loss : ℕ) (loses : Loses c loss) where
  alone : called all_open 0 c.bytes c.indices c.panes c.losses c.ray ≡ loss_of c.bytes c.indices c.panes c.losses c.ray
  alone = loss_alone c.bytes c.indices c.panes c.losses c.ray

  gives : (called all_open 0 c.bytes c.indices c.panes c.losses c.ray).answer ≡ summed loss
  gives = ap (λ (r : Result LossAnswer). r.answer) alone ∙ loses

  -- A loss is at most 25 losses of 1,000,000 to each node, and one.
  pub loss_most : loss ≤ (25 * node_count c.bytes + 1) * 1000000
  loss_most = summed_most all_open 0 c.bytes c.indices c.panes c.losses c.ray loss gives

  module _ (before : List ℕ) (room : Room c before) where
    -- A loss is the sum over the list that any-hit writes for the ray, in its order, with any-hit's tests.
    pub loss_in_walk_order : InWalkOrder c loss before
    unfolding any_hit_of list_after
    loss_in_walk_order =
        subst (λ (t : ℕ). SumsListed (met c) (taken c) loss t (any_hit_of c.bytes (length c.indices) c.ray (length before)) (listed_in c before))
        (ap (λ (r : Result LossAnswer). r.tests) alone)
        (summed_listed all_open 0 c.bytes c.indices c.panes c.losses c.ray loss gives before room)

    -- It is the sum over that list in rising order,
    pub loss_rising : InRisingOrder c loss before
    unfolding list_after
    loss_rising = summed_rising all_open 0 c.bytes c.indices c.panes c.losses c.ray loss gives before room

    -- and the sum over all panes of a pane's loss as often as the list's positions name it.
    pub loss_by_panes : loss ≡ sum (λ k. times_named c (listed_in c before) k * get_or c.losses k 0) c.panes
    unfolding list_after
    loss_by_panes = summed_panes all_open 0 c.bytes c.indices c.panes c.losses c.ray loss gives before room
