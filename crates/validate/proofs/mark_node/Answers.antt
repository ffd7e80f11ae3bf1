use Rattle.validate.proofs.Reading.{children_room, children_taken, node_ends}
use Rattle.validate.proofs.mark_node.Goals as goal

pub fill-requires : goal.fill-requires
fill-requires c =
    children_room _ _ _ _ _ c.requires.0 _ _ _ _ c.node_ref-node.ensures
    c.child_base_idx-base.ensures c.imask.ensures c.child_count-count.ensures.0

pub returns-else-fill : goal.returns-else-fill
returns-else-fill c =
    rw c.if-fill.false
    (children_taken _ _ _ _ _ c.requires.0 _ _ _ _ c.node_ref-node.ensures
    c.child_base_idx-base.ensures c.imask.ensures c.child_count-count.ensures.0
    _ _ _ _ c.fill.ensures c.if-fill.false)

pub returns-then-fill : goal.returns-then-fill
returns-then-fill c =
    node_ends _ _ _ _ _ c.requires.0 _ _ _ _ c.node_ref-node.ensures
    c.child_base_idx-base.ensures c.imask.ensures c.child_count-count.ensures.0
    _ _ _ _ c.fill.ensures _ c.if-fill.true c.mark_positions.ensures
