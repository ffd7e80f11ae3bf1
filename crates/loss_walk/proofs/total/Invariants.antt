use Rattle.std.proofs.Common.{◌*◌, ◌≤◌}
use Rattle.loss_walk.specs.Charged.{Totalling}
use Rattle.loss_walk.proofs.total.Given as goal

abbrev pub invariant-loop-i : goal.invariant-loop-i
invariant-loop-i g l =
    (l.tests ≤ l.i * 4294967296)
    × Totalling (g.W.Walks.gates l.walks) l.scene.bytes.now l.scene.indices.now l.scene.panes l.scene.losses.now l.rays l.i l.tests
    l.initial.ray_totals l.initial.pane_totals l.ray_totals l.pane_totals
