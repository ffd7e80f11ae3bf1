use Rattle.validate.proofs.Answering.{Passing}
use Rattle.validate.proofs.pass.Given as goal

abbrev pub invariant-loop-i : goal.invariant-loop-i
invariant-loop-i l = Passing l.record l.n l.m l.work l.i l.deepest
