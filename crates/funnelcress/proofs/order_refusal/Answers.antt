use Rattle.causes.proofs.Refusals.{some_number}
use Rattle.funnelcress.proofs.Converted.{sizes_first, then_three}
use Rattle.funnelcress.proofs.order_refusal.Goals as goal

pub returns-in-Ok : goal.returns-in-Ok
returns-in-Ok c = then_three _ _ c.in-Ok.ensures.value

pub returns-in-Err : goal.returns-in-Err
returns-in-Err c = sizes_first _ _ _ c.in-Err.ensures.value (some_number _)
