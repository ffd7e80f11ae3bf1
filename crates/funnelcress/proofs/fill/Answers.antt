use mathlib.Core.Path.{subst}
use native.Mathlib.Omega.{arith}
use Rattle.aabb.specs.declared.Aabb.{Aabb}
use Rattle.funnelcress.proofs.Filled.{filling_none, filling_turn}
use Rattle.funnelcress.proofs.fill.Goals as goal

pub loop-i-init : goal.loop-i-init
loop-i-init g c = λ f h. filling_none f _

pub loop-i-preserved : goal.loop-i-preserved
loop-i-preserved g c =
    let met = subst (λ (b : Aabb). goal.F-post g c.args.answer b c.answer.result) c.box_at.ensures c.answer.ensures in
    λ f h. filling_turn (c.loop-i.invariant f h) _ (omega arith) (h _ _ met)
