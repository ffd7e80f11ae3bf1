use Rattle.emit_tree.proofs.WholeTree.{whole_ready, whole_done}
use Rattle.emit_tree.proofs.emit.Goals as goal

pub emit_node-requires : goal.emit_node-requires
emit_node-requires c = whole_ready c.args.root _ c.args.ordered _ _ c.requires

pub returns : goal.returns
returns c = λ h. whole_done c.args.root c.args.indices.now c.args.ordered c.args.bytes.now c.args.out.now _ _ c.emit_node.result h c.emit_node.ensures
