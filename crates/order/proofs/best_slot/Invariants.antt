-- The invariant: b is the least open pair of the slots below s.
use mathlib.Core.Path.{◌≡◌}
use Rattle.order.specs.Scan.{best_slot}
use Rattle.order.proofs.best_slot.Given as goal

abbrev pub invariant-loop-s : goal.invariant-loop-s
invariant-loop-s l = l.b ≡ best_slot l.row l.child l.c l.s
