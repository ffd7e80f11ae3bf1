use native.Mathlib.Omega.{arith}
use Rattle.tree_words.proofs.Writing.{node_copied}
use Rattle.tree_words.proofs.copy_node.Goals as goal

pub returns : goal.returns
returns c =
    node_copied c.args.from.now c.args.words.now c.args.u c.args.v c.args.link _ _ _ c.requires.0 c.requires.1 (omega arith) (omega arith)
    c.copy_from_slice.ensures.after
