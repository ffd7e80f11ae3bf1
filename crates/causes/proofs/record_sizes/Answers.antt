use mathlib.Core.Path.{sym}
use native.Mathlib.Omega.{arith}
use Rattle.causes.proofs.Sizes.{record_unfit, record_over, record_none}
use Rattle.causes.proofs.record_sizes.Goals as goal

pub returns-then-bytes-ne0 : goal.returns-then-bytes-ne0
returns-then-bytes-ne0 c = sym (record_unfit _ _ c.if-bytes-ne0.true)

pub returns-then-n-gt65536 : goal.returns-then-n-gt65536
returns-then-n-gt65536 c = sym (record_over _ _ c.if-bytes-ne0.false (λ h. omega (arith, h.0, c.if-n-gt65536.true)))

pub returns-then-long : goal.returns-then-long
returns-then-long c = sym (record_over _ _ c.if-bytes-ne0.false (λ h. omega (arith, h.1, c.if-long.true)))

pub returns : goal.returns
returns c = sym (record_none _ _ (record { whole = c.if-bytes-ne0.false; few = c.if-n-gt65536.false; small = c.if-long.false }))
