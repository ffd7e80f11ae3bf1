use Rattle.validate.proofs.Reading.{inner_none, leaf_code}
use Rattle.validate.proofs.leaf_count.Goals as goal

pub returns-else-is_leaf : goal.returns-else-is_leaf
returns-else-is_leaf c = inner_none _ _ _ c.is_leaf.ensures c.if-is_leaf.false

pub returns-then-is_leaf : goal.returns-then-is_leaf
returns-then-is_leaf c = leaf_code _ _ _ _ c.is_leaf.ensures c.if-is_leaf.true c.child_primitives.ensures.1
