use Rattle.std.proofs.Common.{length, refl, arith}
use borrow.Author.Tests.{lt-ltb, le-ltb}
use Rattle.loss_walk.specs.Charged.{pane_at}
use Rattle.loss_walk.proofs.pane_at.Goals as goal

pub returns-then-there : goal.returns-then-there
unfolding pane_at
returns-then-there c =
    let a = c.args in
    (rw (lt-ltb a.p (length a.indices.now) c.if-p-indices.true) refl, c.if-there.true)

pub returns-else-there : goal.returns-else-there
unfolding pane_at
returns-else-there c =
    let a = c.args in
    (refl, rw (lt-ltb a.p (length a.indices.now) c.if-p-indices.true) c.if-there.false)

pub returns-else-p-indices : goal.returns-else-p-indices
unfolding pane_at
returns-else-p-indices c =
    let a = c.args in
    (refl, rw (le-ltb a.p (length a.indices.now) c.if-p-indices.false) (omega arith))
