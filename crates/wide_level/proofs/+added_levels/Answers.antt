-- What the definitions say one step down is in proofs/Steps.
use mathlib.Core.Path.{◌∙◌}
use Prim.Native.Nat.{ℕ, ◌<◌}
use native.Mathlib.Omega.{arith}
use Rattle.bvh2.specs.Tree.{depth}
use Rattle.children.specs.Branches.{subtree_of}
use Rattle.children.proofs.Branches.{edges_most, left_shallower, right_shallower}
use Rattle.wide_level.proofs.Steps.{Own, own_inner, own_opened, joined, has_children, as_leaf_lem, as_own}
use Rattle.wide_level.proofs.+added_levels.Goals as goal
use Rattle.wide_level.proofs.+added_levels.Goals.{After-link, After-max-below, in-Internal, in-Distribute}

own : (t : ℕ) (c : After-link t) → Own c.decision-decision.result.kind c.match-decision.own
own t c = elim c.match-decision.branch [
  | in-Internal w ↦ own_inner w.in-Internal.is w.own-is
  | in-Distribute w ↦ own_opened w.in-Distribute.is w.own-is
]

pub returns-in-Leaf-clause-by_index : goal.returns-in-Leaf-clause-by_index
returns-in-Leaf-clause-by_index t c = as_leaf_lem c.args.branch c.requires c.decision-decision.ensures.kind c.in-Leaf.is

pub unreachable-requires : goal.unreachable-requires
unreachable-requires t c =
    has_children c.args.branch c.requires c.decision-decision.ensures.kind (own t (goal.at.unreachable-requires t c).After-link)
    c.link.ensures.says c.in_default.not-Children

pub added_levels-in_first-requires : goal.added_levels-in_first-requires
added_levels-in_first-requires t c =
    (omega (arith, c.decreases, left_shallower c.in-Children.ensures.says c.left.ensures), omega (arith, c.decision-decision.ensures.few))

pub added_levels-in_second-requires : goal.added_levels-in_second-requires
added_levels-in_second-requires t c =
    (omega (arith, c.decreases, right_shallower c.in-Children.ensures.says c.right.ensures), omega (arith, c.decision-decision.ensures.few))

-- fewer levels than edges
less : (t : ℕ) (c : After-max-below t) → c.max-below.result < depth (subtree_of c.args.branch)
less t c =
    let e = c.in-Children.ensures.says in
    omega (
      arith,
      c.max-below.ensures,
      c.added_levels-in_first.ensures.upper_bound,
      c.added_levels-in_second.ensures.upper_bound,
      left_shallower e c.left.ensures,
      right_shallower e c.right.ensures,
    )

pub overflow_add-result : goal.overflow_add-result
overflow_add-result t c =
    let p = goal.at.overflow_add-result t c in
    omega (arith, less t p.After-max-below, edges_most c.args.branch, (own t p.After-link).few)

pub returns-clause-upper_bound : goal.returns-clause-upper_bound
returns-clause-upper_bound t c =
    let p = goal.at.returns-clause-upper_bound t c in
    omega (arith, less t p.After-max-below, (own t p.After-link).few)

pub returns-clause-by_index : goal.returns-clause-by_index
returns-clause-by_index t c =
    let e = c.decision-decision.ensures in
    as_own c.args.branch c.requires e.kind (own t (goal.at.returns-clause-by_index t c).After-link)
    (λ limit k. c.max-below.ensures ∙ joined c.requires c.in-Children.ensures.says e.left e.right c.left.ensures
    c.added_levels-in_first.ensures.by_index c.right.ensures c.added_levels-in_second.ensures.by_index limit k)
