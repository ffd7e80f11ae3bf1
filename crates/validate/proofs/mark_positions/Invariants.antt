use Rattle.validate.proofs.Reading.{Marking}
use Rattle.validate.proofs.mark_positions.Given as goal

abbrev pub invariant-loop-slot : goal.invariant-loop-slot
invariant-loop-slot l = Marking l.record l.n l.i l.slot l.initial.work l.work
