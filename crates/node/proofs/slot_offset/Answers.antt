use native.Mathlib.Omega.{arith}
use Rattle.node.specs.Node.{slot_offset}
use mathlib.Core.Path.{refl}
use Rattle.node.proofs.slot_offset.Goals as goal

pub returns : goal.returns
unfolding slot_offset
returns c = (refl, omega arith)
