use Rattle.std.proofs.Common.{arith}
use Rattle.children.proofs.Branches.{left_shallower, right_shallower}
use Rattle.replay_trees.proofs.Below.{small}
use Rattle.replay_trees.proofs.gathered.+same_below.Goals as goal

pub overflow_mul-branch : goal.overflow_mul-branch
overflow_mul-branch t c = omega (arith, small c.args.branch)

pub overflow_add-from : goal.overflow_add-from
overflow_add-from t c = omega (arith, small c.args.branch)

pub same_children-requires : goal.same_children-requires
same_children-requires t c = omega (arith, c.requires, small c.args.branch)

pub same_below-requires : goal.same_below-requires
same_below-requires t c = (omega (arith, c.decreases, left_shallower c.in-Children.ensures.says c.left.ensures), c.requires)

pub same_below-requires-then-same_below : goal.same_below-requires-then-same_below
same_below-requires-then-same_below t c =
    (omega (arith, c.decreases, right_shallower c.in-Children.ensures.says c.right.ensures), c.requires)
