use mathlib.Core.Path.{◌∙◌}
use native.Mathlib.Omega.{arith}
use Rattle.wide_level.proofs.Steps.{joined, root_leaf, root_joined}
use Rattle.wide_level.proofs.deepest_level.Goals as goal

pub returns-in-Children : goal.returns-in-Children
returns-in-Children c =
    let e = c.decision-decision.ensures in
    root_joined c.args.root (λ limit k. c.max.ensures ∙ joined (omega arith) c.in-Children.ensures.says e.left e.right c.left.ensures
    c.added_levels-in_first.ensures.by_index c.right.ensures c.added_levels-in_second.ensures.by_index limit k)

pub returns-in-Position : goal.returns-in-Position
returns-in-Position c = λ limit ordered h. root_leaf c.args.root c.in-Position.ensures.says limit ordered
