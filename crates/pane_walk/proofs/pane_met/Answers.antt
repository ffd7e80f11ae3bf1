use Rattle.std.proofs.Common.{sym, ap, ◌∙◌}
use Rattle.std.specs.Float.Ieee.{Float}
use Rattle.walk.specs.Queries.{distance}
use Rattle.pane_walk.specs.Panes.{pane_of_met}
use Rattle.pane_walk.proofs.Panes.{met_nowhere, met_faulty, met_at}
use Rattle.pane_walk.proofs.pane_met.Goals as goal

pub returns-then-k-panes : goal.returns-then-k-panes
unfolding pane_of_met
returns-then-k-panes c = let a = c.args in met_nowhere a.panes.now a.k a.ray c.if-k-panes.true

pub returns-then-not-accepted : goal.returns-then-not-accepted
unfolding pane_of_met
returns-then-not-accepted c =
    let a = c.args in
    met_faulty a.panes.now a.k a.ray c.if-k-panes.false
    c.box_at-bounds.result c.box_at-bounds.ensures (sym c.accepted.ensures ∙ c.if-not-accepted.true)

pub returns : goal.returns
unfolding pane_of_met
returns c =
    let a = c.args in
    ap (λ (t : Float). distance t) c.intersect_ray.ensures
    ∙ met_at a.panes.now a.k a.ray c.if-k-panes.false
    c.box_at-bounds.result c.box_at-bounds.ensures (sym c.accepted.ensures ∙ c.if-not-accepted.false)
