use mathlib.Core.Path.{refl, ◌∙◌}
use Rattle.order.specs.Lists.{keep}
use Rattle.order.specs.Assign.{row_pairs, open_pairs, least_pair}
use Rattle.order.specs.Scan.{best_slot}
use Rattle.order.proofs.Scan.{slot_taken, slot_left}
use Rattle.order.proofs.best_slot.Goals as goal

pub loop-s-init : goal.loop-s-init
unfolding best_slot row_pairs open_pairs least_pair keep
loop-s-init c = refl

pub loop-s-preserved : goal.loop-s-preserved
loop-s-preserved c =
    let a = c.args in
    elim c.if-child-s-eq8.branch [
      | goal.then-child-s-eq8 w ↦
          slot_taken a.row a.child.now a.c c.loop-s.s c.loop-s.b c.if-child-s-eq8.b w.if-child-s-eq8.true c.loop-s.invariant
          (w.b-is ∙ w.cheaper_of-b.ensures)
      | goal.else-child-s-eq8 w ↦
          slot_left a.row a.child.now a.c c.loop-s.s c.loop-s.b c.if-child-s-eq8.b w.if-child-s-eq8.false c.loop-s.invariant w.b-is
    ]
