use mathlib.Core.Path.{◌≡◌, sym, ap₂}
use mathlib.Core.List.{List}
use Prim.Native.Nat.{ℕ, min}
use native.Mathlib.Omega.{arith}
use lib.ListN.{length, take, length-take}
use Rattle.order.specs.Assign.{Pair, rounds_of, arrays_of}
use Rattle.order.specs.Order.{slots_of}
use Rattle.order.proofs.Slots.{ordered_slots}
use Rattle.order.proofs.by_cost.Goals as goal

pub returns : goal.returns
unfolding slots_of
returns c =
    let a = c.args in
    let bs = take a.count a.boxes in
    let n : length bs ≡ min a.count 8 = omega (arith, length-take a.count a.boxes) in
    rw (c.assign.ensures, c.direction_costs.ensures)
    (ap₂ (λ (m : ℕ) (ps : List Pair). arrays_of (rounds_of m ps) ps) (sym n) (ordered_slots a.parent bs (min a.count 8) n))
