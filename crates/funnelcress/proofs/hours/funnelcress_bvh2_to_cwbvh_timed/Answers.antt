use native.Mathlib.Omega.{arith}
use Rattle.funnelcress.proofs.Converted.{timed_by_either, timed_by_other}
use Rattle.funnelcress.proofs.hours.funnelcress_bvh2_to_cwbvh_timed.Goals as goal

pub returns-then-order-gt1 : goal.returns-then-order-gt1
returns-then-order-gt1 c =
    timed_by_other _ _ (omega (arith, c.if-order-gt1.true)) _ _ c.refusal_number.ensures c.order_refusal.ensures

pub returns : goal.returns
returns c =
    timed_by_either _ _ (omega (arith, c.if-order-gt1.false)) _ _ _ _ _ _ _ c.conversion_number.ensures
    c.bvh2_to_cwbvh_timed.ensures
