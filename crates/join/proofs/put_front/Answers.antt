use mathlib.Core.Path.{ap, ◌∙◌}
use native.Mathlib.Omega.{arith}
use Rattle.lists.specs.Splice.{splice}
use Rattle.join.proofs.Moving.{map_none, none_fits}
use Rattle.join.proofs.put_front.Goals as goal

pub put_moved-requires : goal.put_moved-requires
put_moved-requires c = (omega (arith, c.requires), none_fits c.args.list.now (λ i. (c.type_inv.list i).fits))

pub returns : goal.returns
returns c = c.put_moved.ensures ∙ ap (splice c.args.out.now 0) (map_none c.args.list.now)
