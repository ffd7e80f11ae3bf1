use native.Mathlib.Omega.{arith}
use Rattle.children.proofs.Branches.{here, accepted}
use Rattle.children.proofs.branch.Branch.node_box.Goals as goal

pub node_box-requires : goal.node_box-requires
node_box-requires c = omega (arith, (here c.args.self).words)

pub returns-clause-accepted : goal.returns-clause-accepted
returns-clause-accepted c = rw c.node_box.ensures (accepted c.args.self)
