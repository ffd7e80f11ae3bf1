-- The invariant: the array is that of the slots, of the children and of those seated, of i children.
use mathlib.Core.Path.{◌≡◌}
use Rattle.order.specs.Assign.{arrays_of}
use Rattle.order.specs.Order.{gathered_order}
use Rattle.order.specs.declared.Assignment.{Assignment}
use Rattle.order.proofs.as_gathered.Given as goal

abbrev pub invariant-loop-i : goal.invariant-loop-i
invariant-loop-i l =
    ◌≡◌ {A = Assignment} (record { slot = l.own; child = l.own; seated = l.own; count = l.i; rounds = 0 }) (arrays_of 0 (gathered_order l.i))
