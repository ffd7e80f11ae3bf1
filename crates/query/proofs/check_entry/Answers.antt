use mathlib.Core.Path.{sym, ap, ◌∙◌}
use Rattle.std.proofs.Common.{rules, ◌≡◌}
use Rattle.causes.specs.Refusal.{cause_number, cause_in}
use Rattle.causes.proofs.Sizes.{none_record}
use Rattle.causes.proofs.Refusals.{ok_none, some_number}
use Rattle.query.proofs.Entry.{entry_unfit, entry_sizes, entry_between, entry_ray, entry_none}
use Rattle.query.proofs.check_entry.Goals as goal

pub returns-then-not-fits : goal.returns-then-not-fits
returns-then-not-fits c = let a = c.args in sym (entry_unfit a.fits a.bytes a.n (cause_in a.between) a.ray c.if-not-fits.true)

pub returns-in_err-record_sizes : goal.returns-in_err-record_sizes
returns-in_err-record_sizes c =
    let a = c.args in
    let f = c.in_err-record_sizes.field-0.0 in
    let own : cause_in c.from_residual.result ≡ cause_number f = search rules in
    let same = c.in_err-record_sizes.ensures in
    let h = entry_sizes a.fits a.bytes a.n (cause_in a.between) a.ray c.if-not-fits.false (λ z. some_number f (same ∙ z)) in
    own ∙ same ∙ sym h

pub returns-in_err-between : goal.returns-in_err-between
returns-in_err-between c =
    let a = c.args in
    let f = c.in_err-between.field-0.0 in
    let own : cause_in c.from_residual-in_err-between.result ≡ cause_number f = search rules in
    let same : cause_in a.between ≡ cause_number f = ap cause_in c.in_err-between.was in
    let fit = none_record _ _ (ok_none c.in_ok-record_sizes.was c.record_sizes.ensures) in
    own ∙ sym same ∙ sym (entry_between a.fits a.bytes a.n (cause_in a.between) a.ray c.if-not-fits.false fit (λ z. some_number f (sym same ∙ z)))

pub returns-then-not-accepted : goal.returns-then-not-accepted
returns-then-not-accepted c =
    let a = c.args in
    let fit = none_record _ _ (ok_none c.in_ok-record_sizes.was c.record_sizes.ensures) in
    sym (entry_ray a.fits a.bytes a.n (cause_in a.between) a.ray c.if-not-fits.false fit (ap cause_in c.in_ok-between.was)
    (sym c.accepted.ensures ∙ c.if-not-accepted.true))

pub returns : goal.returns
returns c =
    let a = c.args in
    let fit = none_record _ _ (ok_none c.in_ok-record_sizes.was c.record_sizes.ensures) in
    sym (entry_none a.fits a.bytes a.n (cause_in a.between) a.ray c.if-not-fits.false fit (ap cause_in c.in_ok-between.was)
    (sym c.accepted.ensures ∙ c.if-not-accepted.false))
