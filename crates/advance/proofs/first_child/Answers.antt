use Rattle.advance.proofs.Groups.{high_found}
use Rattle.advance.proofs.first_child.Goals as goal

pub hit_child-requires : goal.hit_child-requires
hit_child-requires c =
    (high_found c.args.g.bits c.highest-top.result c.highest-top.ensures c.requires.0, c.highest-top.ensures.within, c.requires.1)
