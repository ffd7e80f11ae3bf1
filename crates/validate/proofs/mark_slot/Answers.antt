use Rattle.validate.proofs.Reading.{slot_read, slot_room, slot_marked}
use Rattle.validate.proofs.mark_slot.Goals as goal

pub fill-requires : goal.fill-requires
fill-requires c =
    slot_room _ _ _ _ _ c.requires.0 _ _ _
    c.requires.1
    (slot_read _ _ _ _ _ _ _ _ _ _ _ c.requires.0.sized.nodes c.node_ref-node.ensures
    c.imask.ensures c.primitive_base_idx.ensures
    c.child_meta-meta.ensures c.child_primitives-start.ensures.0
    c.leaf_count-count.ensures)

pub returns : goal.returns
returns c =
    slot_marked _ _ _ _ _ _ _ _ _
    (slot_read _ _ _ _ _ _ _ _ _ _ _ c.requires.0.sized.nodes c.node_ref-node.ensures
    c.imask.ensures c.primitive_base_idx.ensures
    c.child_meta-meta.ensures c.child_primitives-start.ensures.0
    c.leaf_count-count.ensures)
    c.fill.ensures
