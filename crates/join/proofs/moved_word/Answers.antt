use mathlib.Core.Path.{◌∙◌, ap}
use native.Mathlib.Omega.{arith}
use Rattle.bvh2.specs.Said.{said}
use Rattle.bvh2.specs.Words.{children, position, malformed}
use Rattle.bvh2.specs.Causes.{LinkInside}
use Rattle.join.proofs.Moving.{moved_children, moved_position}
use Rattle.join.proofs.moved_word.Goals as goal
use Rattle.join.proofs.moved_word.Goals.{In-Children, In-Position}

-- where the pair and the position are, in a tree of at most 65,536 leaves
few_children : (c : In-Children) → LinkInside 65536 (children c.in-Children.first)
few_children c = rw c.in-Children.is at c.requires

few_positions : (c : In-Position) → LinkInside 65536 (position c.in-Position.position)
few_positions c = rw c.in-Position.is at c.requires

pub overflow_add-result : goal.overflow_add-result
unfolding LinkInside
overflow_add-result c = omega (arith, few_children (goal.at.overflow_add-result c).In-Children, c.args.by.few_nodes)

pub overflow_cast-result : goal.overflow_cast-result
unfolding LinkInside
overflow_cast-result c = omega (arith, few_children (goal.at.overflow_cast-result c).In-Children, c.args.by.few_nodes)

pub overflow_add-result-in-Position : goal.overflow_add-result-in-Position
unfolding LinkInside
overflow_add-result-in-Position c = omega (arith, few_positions (goal.at.overflow_add-result-in-Position c).In-Position)

pub overflow_add-result-in-Position-2 : goal.overflow_add-result-in-Position-2
unfolding LinkInside
overflow_add-result-in-Position-2 c = omega (arith, few_positions (goal.at.overflow_add-result-in-Position-2 c).In-Position, c.args.by.few_positions)

pub overflow_cast-result-in-Position : goal.overflow_cast-result-in-Position
unfolding LinkInside
overflow_cast-result-in-Position c = omega (arith, few_positions (goal.at.overflow_cast-result-in-Position c).In-Position, c.args.by.few_positions)

pub unreachable-requires : goal.unreachable-requires
unfolding LinkInside
unreachable-requires c = let h : LinkInside 65536 malformed = rw c.in-Malformed.is at c.requires in h

pub returns-in-Children : goal.returns-in-Children
returns-in-Children c = λ word e. moved_children _ _ word _ (e ∙ ap said c.in-Children.is)

pub returns-in-Position : goal.returns-in-Position
returns-in-Position c = λ word e. moved_position _ _ word _ (e ∙ ap said c.in-Position.is)
