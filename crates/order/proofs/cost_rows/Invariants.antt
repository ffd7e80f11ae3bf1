-- The invariant: the rows below c are the children's, the others the greatest f32.
use mathlib.Core.Path.{◌≡◌}
use mathlib.Core.List.{map}
use lib.ListN.{take}
use Rattle.order.specs.Lists.{eight_of, padded}
use Rattle.order.specs.Order.{direction_cost, no_row}
use Rattle.order.proofs.cost_rows.Given as goal

abbrev pub invariant-loop-c : goal.invariant-loop-c
invariant-loop-c l = l.cost ≡ padded no_row (map (λ b. eight_of (direction_cost l.p b)) (take l.c l.boxes))
