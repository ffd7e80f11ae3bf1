use mathlib.Core.Path.{ap, ◌∙◌}
use mathlib.Core.Bool.{not}
use Rattle.bvh2_check.proofs.Complete.{set_any}
use Rattle.bvh2_check.proofs.all_marked.Goals as goal

pub returns : goal.returns
returns c = ap not c.contains.ensures.value ∙ set_any _ _ c.requires
