use Rattle.side_table.specs.Laid.{Laid}
use Rattle.side_table.proofs.Written.{Filled}
use Rattle.side_table.proofs.write_side.Given as goal

-- the nodes behind are written
abbrev pub invariant-loop-v : goal.invariant-loop-v
invariant-loop-v l = (h : Laid l.«record» l.list l.spans l.nodes) → Filled l.spans h.indices h.tree l.initial.side l.side l.v
