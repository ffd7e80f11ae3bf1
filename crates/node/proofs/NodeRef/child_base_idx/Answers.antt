use Rattle.node.specs.Node.{node_from}
use Rattle.node.proofs.NodeRef.child_base_idx.Goals as goal

pub returns : goal.returns
unfolding node_from
returns c = c.load_u32.ensures.value
