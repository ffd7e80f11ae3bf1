use Rattle.advance.proofs.Dues.{due_top}
use Rattle.advance.specs.Turn.{group_of}
use mathlib.Core.Path.{ap, ◌∙◌}
use Rattle.walk.specs.Words.{unpacked}
use Rattle.advance.proofs.due_group.Goals as goal

pub returns-then-group-ge-CHILDREN-clause-value : goal.returns-then-group-ge-CHILDREN-clause-value
returns-then-group-ge-CHILDREN-clause-value c =
    let a = c.args in
    due_top (group_of a.current) a.stack.now a.depth c.if-untested.false c.loop-below.below c.loop-below.invariant c.loop-below-test.true _
    (c.from-group.ensures ∙ ap unpacked c.top.ensures) c.if-group-ge-CHILDREN.true
