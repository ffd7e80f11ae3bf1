use mathlib.Core.Path.{refl}
use Rattle.std.proofs.Common.{rules}
use Rattle.bvh2.specs.FirstCause.{is_inside}
use Rattle.bvh2.specs.Words.{link_at}
use Rattle.lists.proofs.Ranges.{all_in_range}
use Rattle.bvh2_check.proofs.links_inside.Goals as goal

pub returns : goal.returns
returns c =
    let t = c.args.tree in
    all_in_range (λ v. is_inside t.leaves (link_at t.words.now v)) _ c.all.ensures.ran (rw c.nodes.ensures refl) (λ x b q k. search rules)
