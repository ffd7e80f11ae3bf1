use mathlib.Core.Path.{sym, subst}
use native.Mathlib.Omega.{arith}
use Rattle.funnelcress.specs.Queries.{ClosestFits}
use Rattle.funnelcress.proofs.QueryAnswers.{closest_unfit, closest_short, closest_fit}
use Rattle.funnelcress.proofs.QueryBounds.{closest_fits}
use Rattle.funnelcress.proofs.funnelcress_closest.Goals as goal

pub returns-then-ray-ne-RAY : goal.returns-then-ray-ne-RAY
returns-then-ray-ne-RAY c =
    let a = c.args in
    let s = closest_unfit a.ray.now a.record.now a.indices.now a.panes.now _ a.out.now c.refusal_number.ensures c.if-ray-ne-RAY.true in
    record { value = s.0; out_after = s.1 }

pub returns-then-out-eq0 : goal.returns-then-out-eq0
returns-then-out-eq0 c =
    let a = c.args in
    let s = closest_short a.ray.now a.record.now a.indices.now a.panes.now _ c.if-ray-ne-RAY.false c.ray_at-r.ensures _ _ _ a.out.now
    c.if-out-eq0.true c.check_entry-entry.ensures c.short_refusal.ensures c.refusal_number-then-out-eq0.ensures in
    record { value = s.0; out_after = s.1 }

pub closest_number-requires : goal.closest_number-requires
closest_number-requires c = (subst ClosestFits (sym c.closest.ensures) (closest_fits _ _ _ _), omega (arith, c.if-out-eq0.false))

pub returns : goal.returns
returns c =
    let a = c.args in
    let s = closest_fit a.ray.now a.record.now a.indices.now a.panes.now _ c.if-ray-ne-RAY.false c.beam_at-beam.ensures _ _ a.out.now _
    c.if-out-eq0.false c.closest.ensures c.closest_number.ensures.value c.closest_number.ensures.out_after in
    record { value = s.0; out_after = s.1 }
