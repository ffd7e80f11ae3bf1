use mathlib.Core.Path.{sym, subst}
use Rattle.funnelcress.specs.Queries.{MissFits}
use Rattle.funnelcress.proofs.QueryAnswers.{miss_unfit, miss_fit}
use Rattle.funnelcress.proofs.QueryBounds.{miss_fits}
use Rattle.funnelcress.proofs.funnelcress_miss.Goals as goal

pub returns-then-ray-ne-RAY : goal.returns-then-ray-ne-RAY
returns-then-ray-ne-RAY c = miss_unfit _ _ _ _ _ c.refusal_number.ensures c.if-ray-ne-RAY.true

pub miss_number-requires : goal.miss_number-requires
miss_number-requires c = subst MissFits (sym c.miss.ensures) (miss_fits _ _ _ _)

pub returns : goal.returns
returns c =
    miss_fit _ _ _ _ _ c.if-ray-ne-RAY.false c.beam_at-beam.ensures _ _ c.miss_number.ensures c.miss.ensures
