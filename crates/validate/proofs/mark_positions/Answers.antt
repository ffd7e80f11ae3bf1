use Rattle.validate.proofs.Reading.{marking_none, marking_next, marking_blocked, marking_done}
use Rattle.validate.proofs.mark_positions.Goals as goal

pub loop-slot-init : goal.loop-slot-init
loop-slot-init c = marking_none _ _ _ _

pub returns-then-not-mark_slot : goal.returns-then-not-mark_slot
returns-then-not-mark_slot c =
    marking_blocked _ _ _ _ _ c.requires _ _ _ _ _
    c.loop-slot-test.true c.loop-slot.invariant
    c.mark_slot.ensures _ c.if-not-mark_slot.true

pub loop-slot-preserved : goal.loop-slot-preserved
loop-slot-preserved c =
    marking_next _ _ _ _ _ c.requires _ _ _ _ _
    c.loop-slot-test.true c.loop-slot.invariant
    c.mark_slot.ensures c.mark_slot.auto.work c.if-not-mark_slot.false

pub returns : goal.returns
returns c = marking_done _ _ _ _ _ _ c.loop-slot.auto.slot-end c.loop-slot-test.false c.loop-slot.invariant
