use mathlib.Core.Path.{sym, ap, ◌∙◌}
use native.Mathlib.Omega.{arith}
use Rattle.bvh2_tables.specs.Tables.{record_size}
use Rattle.bvh2_tables.proofs.Room.{size_none, size_some}
use Rattle.bvh2_tables.proofs.record_size.Goals as goal

pub returns-then-tree-eq0 : goal.returns-then-tree-eq0
returns-then-tree-eq0 c = sym (ap record_size c.if-tree-eq0.true ∙ size_none)

pub returns-else-tree-eq0 : goal.returns-else-tree-eq0
returns-else-tree-eq0 c = let s = size_some c.args.tree.leaves (omega arith) in omega arith
