use mathlib.Core.Path.{◌∙◌}
use native.Mathlib.Omega.{arith}
use Rattle.join.proofs.Depths.{root_in_tree, spare_empty, first_over, second_left}
use Rattle.join.proofs.edge_to_spare.Goals as goal

pub returns-then-first-eq0 : goal.returns-then-first-eq0
returns-then-first-eq0 c = spare_empty _ _ _ _ c.then-first-eq0.either

pub within_depth-requires : goal.within_depth-requires
within_depth-requires c = root_in_tree _ _ c.args.trees.first.accepted (omega arith)

pub within_depth-requires-then-within_depth : goal.within_depth-requires-then-within_depth
within_depth-requires-then-within_depth c = root_in_tree _ _ c.args.trees.second.accepted (omega arith)

pub returns-then-within_depth : goal.returns-then-within_depth
returns-then-within_depth c =
    let t = c.args.trees in
    second_left _ _ _ _ t.first.accepted t.second.accepted c.if-first-eq0.false c.if-second-eq0.false _ _ c.within_depth.ensures
    c.if-within_depth.true c.within_depth-then-within_depth.ensures

pub returns-else-within_depth : goal.returns-else-within_depth
returns-else-within_depth c =
    let t = c.args.trees in
    c.if-within_depth.false
    ∙ first_over _ _ _ _ t.first.accepted t.second.accepted c.if-first-eq0.false c.if-second-eq0.false _ c.within_depth.ensures
    c.if-within_depth.false
