use mathlib.Core.Path.{◌≡◌}
use Rattle.walk.specs.Words.{waiting_depth}
use Rattle.advance.proofs.due_group.Given as goal

abbrev pub invariant-loop-below : goal.invariant-loop-below
invariant-loop-below l = waiting_depth l.stack l.below ≡ waiting_depth l.stack l.depth
