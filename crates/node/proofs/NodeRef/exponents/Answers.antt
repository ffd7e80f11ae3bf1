use Rattle.node.specs.Node.{node_from}
use mathlib.Core.Path.{refl}
use Rattle.node.proofs.NodeRef.exponents.Goals as goal

pub returns : goal.returns
unfolding node_from
returns c = refl
