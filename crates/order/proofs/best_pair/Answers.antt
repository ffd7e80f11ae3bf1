use mathlib.Core.Path.{refl, ◌∙◌}
use Rattle.order.specs.Lists.{keep}
use Rattle.order.specs.Assign.{pairs, open_pairs, least_pair}
use Rattle.order.specs.Scan.{best_open}
use Rattle.order.proofs.Scan.{pair_taken, pair_left}
use Rattle.order.proofs.best_pair.Goals as goal

pub loop-c-init : goal.loop-c-init
unfolding best_open pairs open_pairs least_pair keep
loop-c-init c = refl

pub loop-c-preserved : goal.loop-c-preserved
loop-c-preserved c =
    let a = c.args in
    elim c.if-slot-c-eq8.branch [
      | goal.then-slot-c-eq8 w ↦
          pair_taken a.cost.now a.slot.now a.child.now c.loop-c.c c.loop-c.b w.best_slot.result c.if-slot-c-eq8.b w.if-slot-c-eq8.true
          c.loop-c.invariant w.best_slot.ensures (w.b-is ∙ w.cheaper_of-b.ensures)
      | goal.else-slot-c-eq8 w ↦
          pair_left a.cost.now a.slot.now a.child.now c.loop-c.c c.loop-c.b c.if-slot-c-eq8.b w.if-slot-c-eq8.false
          c.loop-c.invariant w.b-is
    ]
