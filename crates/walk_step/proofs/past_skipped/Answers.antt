use Rattle.std.proofs.Common.{◌≡◌, sym, refl, ap, ◌∙◌, arith}
use Rattle.words.specs.Ones.{ones_below}
use Rattle.walk.specs.Words.{Group}
use Rattle.walk.proofs.Words.{rest_lt}
use Rattle.walk.proofs.WordEnds.{ones_rest}
use Rattle.advance.specs.Turn.{group_of}
use Rattle.walk_step.specs.Parts.{passes_over}
use Rattle.walk_step.proofs.Parts.{whole_empty, whole_first, left_rest}
use Rattle.walk_step.proofs.past_skipped.Goals as goal

pub loop-held-init : goal.loop-held-init
loop-held-init g c = (omega (arith, c.ranges.bits.fits), refl)

pub loop-held-smaller : goal.loop-held-smaller
loop-held-smaller g c =
    let e : c.rest_of-held.result.bits ≡ _ = ap (λ (q : Group). q.bits) c.rest_of-held.ensures in
    omega (arith, ap (ones_below 32) e, ones_rest (group_of c.loop-held.held) c.loop-held-test.true c.loop-held.invariant.0)

pub loop-held-preserved : goal.loop-held-preserved
loop-held-preserved g c =
    let e : c.rest_of-held.result.bits ≡ _ = ap (λ (q : Group). q.bits) c.rest_of-held.ensures in
    let held = group_of c.loop-held.held in (
      omega (arith, e, rest_lt held c.loop-held.invariant.0),
      left_rest (passes_over (g.G.Gate.gates c.args.gate)) held c.first_position.result c.first_position.ensures
          (sym c.passes_over-stays.ensures ∙ c.if-stays.false) c.loop-held-test.true c.loop-held.invariant.0 (group_of c.rest_of-held.result)
          c.rest_of-held.ensures
          ∙ c.loop-held.invariant.1,
    )

pub returns-then-stays : goal.returns-then-stays
returns-then-stays g c =
    whole_first (passes_over (g.G.Gate.gates c.args.gate)) (group_of c.loop-held.held) c.first_position.result c.first_position.ensures
    (sym c.passes_over-stays.ensures ∙ c.if-stays.true)
    ∙ c.loop-held.invariant.1

pub returns : goal.returns
returns g c =
    whole_empty (passes_over (g.G.Gate.gates c.args.gate)) (group_of c.loop-held.held) (omega (arith, c.loop-held-test.false))
    ∙ c.loop-held.invariant.1
