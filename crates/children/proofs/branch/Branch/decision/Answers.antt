use native.Mathlib.Omega.{arith}
use Rattle.children.proofs.Branches.{here, few_splits}
use Rattle.children.proofs.branch.Branch.decision.Goals as goal

pub decision_at-requires : goal.decision_at-requires
decision_at-requires c = omega (arith, c.requires, (here c.args.self).decisions)

pub returns-clause-few : goal.returns-clause-few
returns-clause-few c =
    let e = c.decision_at.ensures in omega (arith, e.left, e.right, few_splits c.args.self c.args.entry c.requires)
