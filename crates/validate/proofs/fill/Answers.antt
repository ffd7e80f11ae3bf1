use native.Mathlib.Omega.{arith}
use Rattle.validate.proofs.Filling.{filling_blocked, filling_done}
use Rattle.validate.proofs.fill.Goals as goal

pub returns-then-marked : goal.returns-then-marked
returns-then-marked c = filling_blocked _ _ _ _ _ _ c.loop-j.invariant _ c.loop-j-test.true
    (λ e. omega (arith, c.if-marked.true))

pub returns : goal.returns
returns c = filling_done _ _ _ _ _ _ c.loop-j.invariant c.loop-j.auto.j-end c.loop-j-test.false
