use mathlib.Core.Path.{sym, subst}
use Rattle.funnelcress.specs.Queries.{AnyHitFits}
use Rattle.funnelcress.proofs.QueryAnswers.{any_hit_unfit, list_unfit, any_hit_fit, list_fit}
use Rattle.funnelcress.proofs.QueryBounds.{any_hit_fits}
use Rattle.funnelcress.proofs.funnelcress_any_hit.Goals as goal

pub returns-then-ray-ne-RAY : goal.returns-then-ray-ne-RAY
returns-then-ray-ne-RAY c = record {
  value = any_hit_unfit _ _ _ _ _ c.refusal_number.ensures c.if-ray-ne-RAY.true;
  list_after = list_unfit _ _ _ _ c.if-ray-ne-RAY.true;
}

pub any_hit_number-requires : goal.any_hit_number-requires
any_hit_number-requires c = subst AnyHitFits (sym c.any_hit.ensures.result_value) (any_hit_fits _ _ _ _)

pub returns : goal.returns
returns c =
    let g = c.if-ray-ne-RAY.false in
    let e = c.beam_at-beam.ensures in
    record {
      value = any_hit_fit _ _ _ _ g e _ _ _ c.any_hit_number.ensures c.any_hit.ensures.result_value;
      list_after = list_fit _ _ _ _ g e _ _ c.any_hit.ensures.list_after;
    }
