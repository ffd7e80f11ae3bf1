use Rattle.std.proofs.Common.{◌≡◌, [], sym, ◌∙◌, rules}
use Rattle.causes.specs.Refusal.{cause_number, cause_in}
use Rattle.causes.proofs.Causes.{first_here, passed_none}
use Rattle.causes.proofs.Refusals.{some_number}
use Rattle.loss_timed.proofs.Hours.{hours_first, hours_last}
use Rattle.loss_timed.proofs.hours_over.Goals as goal

pub returns-in_err-hours-clause-value : goal.returns-in_err-hours-clause-value
returns-in_err-hours-clause-value c =
    let a = c.args in
    let f = c.in_err-hours.field-0.0 in
    let own : cause_in c.from_residual.result ≡ cause_number f = search rules in
    let found = c.in_err-hours.ensures.value in
    own ∙ found
    ∙ hours_first a.«record».now a.side.now a.indices.now a.panes a.spans.now a.quarters.now (λ z. some_number f (found ∙ z))

pub returns-then-not-quarters_fit-clause-value : goal.returns-then-not-quarters_fit-clause-value
returns-then-not-quarters_fit-clause-value c =
    let a = c.args in
    sym (first_here [] (sym c.quarters_fit.ensures ∙ c.if-not-quarters_fit.true))
    ∙ hours_last a.«record».now a.side.now a.indices.now a.panes a.spans.now a.quarters.now (sym c.in_ok-hours.ensures.value)

pub returns-clause-value : goal.returns-clause-value
returns-clause-value c =
    let a = c.args in
    sym (passed_none _ (sym c.quarters_fit.ensures ∙ c.if-not-quarters_fit.false, tt))
    ∙ hours_last a.«record».now a.side.now a.indices.now a.panes a.spans.now a.quarters.now (sym c.in_ok-hours.ensures.value)
