use native.Mathlib.Omega.{arith}
use Rattle.children.proofs.Branches.{here, formed_link}
use Rattle.children.proofs.branch.Branch.link.Goals as goal

pub node_link-requires : goal.node_link-requires
node_link-requires c = omega (arith, (here c.args.self).words)

pub returns-clause-formed : goal.returns-clause-formed
returns-clause-formed c = formed_link c.args.self
