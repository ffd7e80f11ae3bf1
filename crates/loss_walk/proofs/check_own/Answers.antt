use Rattle.std.proofs.Common.{sym, ◌∙◌}
use Rattle.causes.proofs.Causes.{first_here}
use Rattle.loss_walk.proofs.Causes.{own_between}
use Rattle.loss_walk.proofs.check_own.Goals as goal

pub returns-then-losses_fit : goal.returns-then-losses_fit
returns-then-losses_fit c = sym (own_between c.args.panes c.args.losses.now _ (sym c.losses_fit.ensures ∙ c.if-losses_fit.true))

pub returns-else-losses_fit : goal.returns-else-losses_fit
returns-else-losses_fit c = sym (first_here _ (sym c.losses_fit.ensures ∙ c.if-losses_fit.false))
