use mathlib.Core.Path.{sym, ap, ◌∙◌}
use native.Mathlib.Omega.{arith}
use Rattle.bvh2_to_cwbvh_timed.specs.TimedConversion.{side_size}
use Rattle.bvh2_to_cwbvh_timed.proofs.Sizes.{side_none, side_some}
use Rattle.bvh2_to_cwbvh_timed.proofs.side_size.Goals as goal

pub returns-then-tree-eq0 : goal.returns-then-tree-eq0
returns-then-tree-eq0 c = sym (ap side_size c.if-tree-eq0.true ∙ side_none)

pub returns-else-tree-eq0 : goal.returns-else-tree-eq0
returns-else-tree-eq0 c = let s = side_some c.args.tree.leaves (omega arith) in omega arith
