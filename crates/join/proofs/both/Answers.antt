use mathlib.Core.Path.{sym, ap, ◌∙◌}
use Rattle.std.proofs.Common.{rules}
use Rattle.causes.specs.Refusal.{cause_in}
use Rattle.join.proofs.First.{both_refused, first_refused, first_given}
use Rattle.join.proofs.both.Goals as goal

pub returns-in-Ok-Ok-clause-value : goal.returns-in-Ok-Ok-clause-value
returns-in-Ok-Ok-clause-value g c = let k = c.in-Ok-Ok in sym (ap cause_in k.is-1) ∙ first_given _ _ k.is-0

pub returns-in-Err-Err-clause-value : goal.returns-in-Err-Err-clause-value
returns-in-Err-Err-clause-value g c = let k = c.in-Err-Err in both_refused _ _ k.is-0 k.is-1 (search rules)

pub returns-in-Err-Ok-clause-value : goal.returns-in-Err-Ok-clause-value
returns-in-Err-Ok-clause-value g c = let k = c.in-Err-Ok in first_refused _ _ k.is-0 k.is-1

pub returns-in-Ok-Err-clause-value : goal.returns-in-Ok-Err-clause-value
returns-in-Ok-Err-clause-value g c = let k = c.in-Ok-Err in sym (ap cause_in k.is-1) ∙ first_given _ _ k.is-0
