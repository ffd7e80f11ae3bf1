use Rattle.node.specs.Node.{node_from}
use Rattle.node.proofs.NodeRef.point.Goals as goal

pub returns : goal.returns
unfolding node_from
returns c = rw (c.load_u32.ensures.value, c.load_u32-2.ensures.value, c.load_u32-3.ensures.value)
