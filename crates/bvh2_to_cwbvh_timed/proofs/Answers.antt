-- The timed conversion's answers by their causes, and what stands in its slices then.
use mathlib.Core.Bool.{true}
use mathlib.Core.Logic.{◌↔◌}
use mathlib.Core.Path.{◌≡◌, refl, ap, ◌∙◌}
use Prim.Native.Nat.{ℕ, zero, suc, ◌<◌}
use native.Mathlib.Omega.{arith}
use Rattle.lists.specs.Splice.{splice}
use Rattle.bvh2_tables.specs.Call.{Call}
use Rattle.bvh2_to_cwbvh.specs.Conversion.{defined_nodes, deepest_level, converted, refused, answer_for, output_after, outcome_for, conversion_of}
use Rattle.bvh2_to_cwbvh.proofs.Answers.{zero_cause, some_cause, cause_refuses, Kept, cause_keeps}
use Rattle.bvh2_to_cwbvh_timed.specs.TimedConversion.{TimedCall, defined_side, timed_conversion_cause, TimedOutcome, timed_outcome_for}
use Rattle.bvh2_to_cwbvh_timed.specs.TimedConversion.{timed_conversion_of}
use Rattle.bvh2_to_cwbvh_timed.proofs.Cause.{panes, room, cause_untimed}

module _ (c : TimedCall) where
  abbrev call : Call
  call = c.untimed

  by_cause : (k : ℕ) → timed_conversion_cause c ≡ k → timed_conversion_of c ≡ timed_outcome_for c k
  unfolding timed_conversion_of
  by_cause k e = ap (timed_outcome_for c) e

  -- ---- refused
  pub timed_refused_cause : (k : ℕ) → (timed_conversion_of c).untimed.answer ≡ refused k ↔ ((timed_conversion_cause c ≡ k) × (0 < k))
  unfolding timed_conversion_of timed_outcome_for outcome_for
  timed_refused_cause k = (some_cause call (timed_conversion_cause c) k, λ h. cause_refuses call (timed_conversion_cause c) k h.0 h.1)

  module _ (k : ℕ) (e : (timed_conversion_of c).untimed.answer ≡ refused k) where
    -- all but the side table as such a cause leaves it in the untimed conversion,
    pub timed_keeps : Kept call (timed_conversion_of c).untimed k
    unfolding timed_outcome_for
    timed_keeps =
        let h = (timed_refused_cause k).0 e in
        cause_keeps call (timed_conversion_of c).untimed k (ap (λ (o : TimedOutcome). o.untimed) (by_cause k h.0)) h.1

    -- and the side table as it was
    pub side_stays : (timed_conversion_of c).side ≡ c.side
    unfolding timed_outcome_for output_after
    side_stays =
        let h = (timed_refused_cause k).0 e in ap (λ (o : TimedOutcome). o.side) (by_cause k h.0) ∙ go k h.1
      where
        go : (k : ℕ) → 0 < k → output_after k (defined_side c) c.side ≡ c.side
        go zero h = absurd (omega arith)
        go (suc k) h = refl

  -- ---- not refused
  pub timed_no_cause : (m d : ℕ) → (timed_conversion_of c).untimed.answer ≡ converted m d → timed_conversion_cause c ≡ 0
  unfolding timed_conversion_of timed_outcome_for outcome_for
  timed_no_cause m d e = (zero_cause call (timed_conversion_cause c) m d e).0

  module _ (e : timed_conversion_cause c ≡ 0) where
    pub timed_answers : (timed_conversion_of c).untimed.answer ≡ converted (defined_nodes call) (deepest_level call)
    unfolding timed_outcome_for outcome_for answer_for
    timed_answers = ap (λ (o : TimedOutcome). o.untimed.answer) (by_cause 0 e)

    pub side_laid : (timed_conversion_of c).side ≡ splice c.side 0 (defined_side c)
    unfolding timed_outcome_for output_after
    side_laid = ap (λ (o : TimedOutcome). o.side) (by_cause 0 e)

  -- ---- the side table has room, and the panes fit: as the untimed conversion
  pub timed_alike : room c ≡ true → panes c ≡ true → (timed_conversion_of c).untimed ≡ conversion_of call
  unfolding timed_conversion_of timed_outcome_for conversion_of
  timed_alike f e = ap (outcome_for call) (cause_untimed c f e)
