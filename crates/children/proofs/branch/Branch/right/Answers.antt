use mathlib.Core.Path.{refl}
use native.Mathlib.Omega.{arith}
use Rattle.children.proofs.Branches.{inside}
use Rattle.children.proofs.branch.Branch.right.Goals as goal

pub overflow_add-result : goal.overflow_add-result
overflow_add-result c = omega (arith, (inside c.args.self c.requires).second)

pub invariant_of-result : goal.invariant_of-result
invariant_of-result c = record { tabled = (inside c.args.self c.requires).right }

pub returns : goal.returns
returns c = record { tree = refl; node = refl }
