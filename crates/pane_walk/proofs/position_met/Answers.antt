use Rattle.std.proofs.Common.{sym, ◌∙◌}
use Rattle.pane_walk.specs.Panes.{pane_of_met}
use Rattle.pane_walk.proofs.Panes.{position_there, position_past}
use Rattle.pane_walk.proofs.position_met.Goals as goal

pub returns-then-p-on : goal.returns-then-p-on
returns-then-p-on c =
    let a = c.args in
    c.pane_met.ensures ∙ sym (position_there a.on.indices.now a.on.panes.now a.p a.ray c.if-p-on.true)

pub returns-else-p-on : goal.returns-else-p-on
unfolding pane_of_met
returns-else-p-on c =
    let a = c.args in
    sym (position_past a.on.indices.now a.on.panes.now a.p a.ray c.if-p-on.false)
