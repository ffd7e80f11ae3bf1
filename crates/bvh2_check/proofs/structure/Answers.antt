use mathlib.Core.Path.{sym}
use Rattle.bvh2.proofs.First.{structure_none}
use Rattle.bvh2_check.proofs.Verdict.{none}
use Rattle.bvh2_check.proofs.structure.Goals as goal

pub invariant_of-result : goal.invariant_of-result
invariant_of-result c = let t = c.args.tree in record { accepted = (structure_none _ _ t.sized).0 (sym (none _ _ c.if-tree-eq0.true)) }

pub returns-then-tree-eq0-clause-value : goal.returns-then-tree-eq0-clause-value
returns-then-tree-eq0-clause-value c = none _ _ c.if-tree-eq0.true

pub invariant_of-result-2 : goal.invariant_of-result-2
invariant_of-result-2 c = let t = c.args.tree in record { accepted = (structure_none _ _ t.sized).0 (sym c.in_ok-judge_cleared.ensures.value) }
