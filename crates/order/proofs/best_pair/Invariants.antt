-- The invariant: b is the least open pair of the children below c.
use mathlib.Core.Path.{◌≡◌}
use Rattle.order.specs.Scan.{best_open}
use Rattle.order.proofs.best_pair.Given as goal

abbrev pub invariant-loop-c : goal.invariant-loop-c
invariant-loop-c l = l.b ≡ best_open l.cost l.slot l.child l.c
