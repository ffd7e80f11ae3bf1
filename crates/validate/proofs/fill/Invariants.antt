use Rattle.validate.proofs.Filling.{Filling}
use Rattle.validate.proofs.fill.Given as goal

abbrev pub invariant-loop-j : goal.invariant-loop-j
invariant-loop-j l = Filling l.initial.work l.a l.k l.v l.work l.j
