use mathlib.Core.Path.{refl}
use Rattle.std.proofs.Common.{rules}
use Rattle.aabb.specs.Aabb.{accepted_box}
use Rattle.bvh2.specs.Words.{box_at}
use Rattle.lists.proofs.Ranges.{all_in_range}
use Rattle.bvh2_check.proofs.boxes_accepted.Goals as goal

pub returns : goal.returns
returns c = all_in_range (λ v. accepted_box (box_at c.args.tree.words.now v)) _ c.all.ensures.ran (rw c.nodes.ensures refl) (λ x b q k. search rules)
