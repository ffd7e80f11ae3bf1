-- What is claimed of a node's children, seated with ordering and without (02, [5]). `children` are their numbers, in gathered order as their boxes.
use Rattle.std.specs.Prelude.{Bool, true, false, cond, ◌≡◌, List, ℕ, ◌<◌, length, take, get_or, Float}
use mathlib.Core.List.{Perm}
use Rattle.lists.specs.Counts.{upto}
use Rattle.aabb.specs.declared.Aabb.{Aabb}
use Rattle.order.specs.Assign.{Pair, cost_in, assigned_arrays}
use Rattle.order.specs.Lists.{padded}
use Rattle.order.specs.Order.{cost_table, no_child, seating_of}
use Rattle.order.specs.declared.Assignment.{Assignment}
use Rattle.order.specs.declared.Seating.{Seating}
use Rattle.order_laws.specs.Seated.{seated_in, SeatedByRound}

module _ (parent : Aabb) (boxes : List Aabb) where
  -- what a child costs in a slot, and what `assign` gives by it
  abbrev pub node_cost : Pair → Float
  node_cost = cost_in (cost_table parent boxes)

  abbrev pub by_cost : Assignment
  by_cost = assigned_arrays node_cost (length boxes)

  -- Every child has a place in the order, by one search each.
  pub record AllPlaces : Type 0 where
    pub count : by_cost.count ≡ length boxes
    pub rounds : by_cost.rounds ≡ length boxes
    pub rearranged : Perm (take by_cost.count by_cost.seated) (upto 0 (length boxes))

  module _ (children : List ℕ) where
    -- what `seat_children` gives
    abbrev pub seating : Bool → Seating
    seating ordered = seating_of ordered parent boxes children

    -- With ordering the rounds are those by cost: each seats the child that 01's rule names, and it stands in the slot that it took there.
    pub record SeatedByCost : Type 0 where
      pub rule : SeatedByRound node_cost (length boxes) by_cost
      pub count : (seating true).count ≡ by_cost.count
      pub rounds : (seating true).rounds ≡ by_cost.rounds
      pub seated : (k : ℕ) → k < by_cost.count → get_or (seating true).seated k no_child ≡ get_or children (seated_in by_cost k).child no_child
      pub slots : (k : ℕ) → k < by_cost.count
          → get_or (seating true).slots (seated_in by_cost k).slot no_child ≡ get_or (seating true).seated k no_child

    -- Without ordering they stay as they were gathered, by no search.
    pub record AsGathered : Type 0 where
      pub slots : (seating false).slots ≡ padded no_child children
      pub seated : (seating false).seated ≡ padded no_child children
      pub count : (seating false).count ≡ length children
      pub rounds : (seating false).rounds ≡ 0

    -- Every child is seated, and with ordering by one search each.
    pub record AllSeated (ordered : Bool) : Type 0 where
      pub count : (seating ordered).count ≡ length boxes
      pub rounds : (seating ordered).rounds ≡ cond ordered (length boxes) 0
      pub rearranged : Perm (take (seating ordered).count (seating ordered).seated) children
