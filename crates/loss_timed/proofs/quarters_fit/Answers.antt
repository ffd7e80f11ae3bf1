use Rattle.std.proofs.Common.{refl, ◌∙◌, rules}
use Rattle.std.proofs.lemmas.Iterator.{YieldsList-from_slice}
use Rattle.std.proofs.lemmas.Iterator.Search.{all_from_yields_List}
use Rattle.lists.proofs.Each.{each_below}
use Rattle.span.specs.Span.{quarter_fits}
use Rattle.loss_timed.specs.Timed.{quarters_fit}
use Rattle.loss_timed.proofs.quarters_fit.Goals as goal

pub returns : goal.returns
unfolding quarters_fit
returns c =
    all_from_yields_List quarter_fits _ _ _ c.all.ensures.ran (YieldsList-from_slice c.args.quarters.now cc) (λ x b q k. search rules)
    ∙ each_below quarter_fits quarter_fits (λ w. refl) c.args.quarters.now
