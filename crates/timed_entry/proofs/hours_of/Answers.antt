use Rattle.std.proofs.Common.{sym, ◌∙◌}
use borrow.Author.Tests.{eq-eqb, ne_eqb, eqb-true}
use Rattle.lists.proofs.Tells.{both_pass}
use Rattle.lists.specs.Below.{all_below}
use Rattle.causes.proofs.Causes.{first_here, first_later, passed_none}
use Rattle.span.specs.Span.{span_at, span_fits, spans_fit}
use Rattle.timed_entry.specs.Entry.{timed_conditions}
use Rattle.timed_entry.proofs.hours_of.Goals as goal

pub returns-then-not-spans_fit-clause-value : goal.returns-then-not-spans_fit-clause-value
unfolding timed_conditions
returns-then-not-spans_fit-clause-value c = sym (first_here _ (sym c.spans_fit.ensures ∙ c.if-not-spans_fit.true))

pub returns-then-side-rows-clause-value : goal.returns-then-side-rows-clause-value
unfolding timed_conditions
returns-then-side-rows-clause-value c =
    sym (first_later 14 _ (sym c.spans_fit.ensures ∙ c.if-not-spans_fit.false) ∙ first_here _ (ne_eqb _ _ c.if-side-rows.true))

pub returns-then-not-quarter_fits-clause-value : goal.returns-then-not-quarter_fits-clause-value
unfolding timed_conditions
returns-then-not-quarter_fits-clause-value c =
    sym (first_later 14 _ (sym c.spans_fit.ensures ∙ c.if-not-spans_fit.false) ∙ first_later 14 _ (eq-eqb _ _ c.if-side-rows.false)
    ∙ first_here _ (sym c.quarter_fits.ensures ∙ c.if-not-quarter_fits.true))

pub invariant_of-result : goal.invariant_of-result
unfolding spans_fit
invariant_of-result c =
    let a = c.args in
    record {
      fits = eqb-true _ _ (both_pass _ (all_below (λ k. span_fits (span_at a.spans.now k)) a.panes)
          (sym c.spans_fit.ensures ∙ c.if-not-spans_fit.false)).0;
    }

pub returns-clause-value : goal.returns-clause-value
unfolding timed_conditions
returns-clause-value c =
    sym (passed_none _ (
      sym c.spans_fit.ensures ∙ c.if-not-spans_fit.false,
      (eq-eqb _ _ c.if-side-rows.false, (sym c.quarter_fits.ensures ∙ c.if-not-quarter_fits.false, tt)),
    ))
