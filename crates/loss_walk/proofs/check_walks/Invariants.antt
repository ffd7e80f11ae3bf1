use Rattle.std.proofs.Common.{◌≡◌, true}
use Rattle.lists.specs.Below.{all_below}
use Rattle.loss_walk.specs.Gated.{gated_walks}
use Rattle.loss_walk.proofs.check_walks.Given as goal

abbrev pub invariant-loop-i : goal.invariant-loop-i
invariant-loop-i g l =
    all_below (gated_walks (g.W.Walks.gates l.walks) l.scene.bytes.now l.scene.indices.now l.scene.panes l.scene.losses.now l.rays) l.i ≡ true
