-- `measured_orders`: the answers keep their length.
use mathlib.Core.Path.{◌≡◌}
use lib.ListN.{length}
use Rattle.measured.proofs.measured_orders.Given as goal

abbrev pub invariant-loop-i : goal.invariant-loop-i
invariant-loop-i l = length l.out ≡ length l.initial.out
