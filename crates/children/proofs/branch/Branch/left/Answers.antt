use mathlib.Core.Path.{refl}
use Rattle.children.proofs.Branches.{inside}
use Rattle.children.proofs.branch.Branch.left.Goals as goal

pub invariant_of-result : goal.invariant_of-result
invariant_of-result c = record { tabled = (inside c.args.self c.requires).left }

pub returns : goal.returns
returns c = record { tree = refl; node = refl }
