use mathlib.Core.Path.{sym, ◌∙◌}
use native.Mathlib.Omega.{arith}
use Rattle.std.proofs.Common.{rules, ◌≡◌}
use Rattle.causes.specs.Refusal.{cause_number, cause_in}
use Rattle.causes.proofs.Sizes.{Fit, none_record}
use Rattle.causes.proofs.Refusals.{ok_none, some_number}
use Rattle.record_shape.proofs.Check.{cause_sizes, cause_short, cause_none}
use Rattle.validate.proofs.check_call.Goals as goal
use Rattle.validate.proofs.check_call.Goals.{In_ok-record_sizes}

pub returns-in_err-record_sizes : goal.returns-in_err-record_sizes
returns-in_err-record_sizes c =
    let f = c.in_err-record_sizes.field-0.0 in
    let own : cause_in c.from_residual.result ≡ cause_number f = search rules in
    let same = c.in_err-record_sizes.ensures in
    own ∙ same ∙ sym (cause_sizes _ _ _ (λ z. some_number f (same ∙ z)))

-- the sizes fit
fit : (c : In_ok-record_sizes) → let a = c.args in Fit a.long a.n
fit c = none_record _ _ (ok_none c.in_ok-record_sizes.was c.record_sizes.ensures)

pub overflow_add-long : goal.overflow_add-long
overflow_add-long c = let f = fit c in omega arith

pub returns-then-words-long : goal.returns-then-words-long
returns-then-words-long c = sym (cause_short _ _ _ (fit (goal.at.returns-then-words-long c).In_ok-record_sizes) c.if-words-long.true)

pub returns : goal.returns
returns c = sym (cause_none _ _ _ (fit (goal.at.returns c).In_ok-record_sizes) c.if-words-long.false)
