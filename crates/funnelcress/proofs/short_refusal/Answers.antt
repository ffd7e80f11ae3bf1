use Rattle.std.proofs.Common.{refl, rules}
use Rattle.funnelcress.specs.Queries.{short_cause}
use Rattle.funnelcress.proofs.QueryNumbers.{short_min}
use Rattle.funnelcress.proofs.short_refusal.Goals as goal

pub returns-in-Ok : goal.returns-in-Ok
unfolding short_cause
returns-in-Ok c = rw c.in-Ok.is refl

pub returns-in-Err : goal.returns-in-Err
returns-in-Err c = rw c.in-Err.is (short_min _ _ (search rules))
