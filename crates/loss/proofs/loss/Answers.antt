use Rattle.std.proofs.Common.{◌∙◌}
use Rattle.loss.proofs.Causes.{loss_alone}
use Rattle.loss.proofs.loss.Goals as goal

pub returns : goal.returns
returns c = c.loss.ensures ∙ loss_alone _ _ _ _ _
