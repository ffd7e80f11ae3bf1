use mathlib.Core.Path.{ap, ◌∙◌}
use lib.Count.{ones}
use Rattle.words.proofs.Masks.{above_mask, ones_below_lem}
use Rattle.words.proofs.rank.Goals as goal

pub returns : goal.returns
returns c = ap ones (above_mask 32 c.args.slot c.args.imask c.requires) ∙ ones_below_lem c.args.slot c.args.imask
