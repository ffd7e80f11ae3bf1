-- The ways in which a timed conversion ends, and the outcome of each.
use mathlib.Core.List.{List}
use mathlib.Core.Path.{◌≡◌, refl, sym, ap, ◌∙◌}
use Prim.Native.Nat.{ℕ, zero, suc, ◌<◌}
use native.Mathlib.Omega.{arith}
use lib.Ieee.{Float}
use Rattle.float.specs.Compare.{plus_zero}
use Rattle.lists.specs.Splice.{splice}
use Rattle.cost.specs.Table.{word_of, cost_of}
use Rattle.bvh2_tables.specs.Call.{leaf_count}
use Rattle.bvh2_tables.specs.Tables.{work_after}
use Rattle.bvh2_to_cwbvh.specs.Conversion.{refused, answer_for, output_after, Outcome, outcome_for, conversion_cause, conversion_of}
use Rattle.bvh2_to_cwbvh.proofs.Endings.{ended}
use Rattle.bvh2_to_cwbvh_timed.specs.TimedConversion.{TimedCall, defined_side, timed_conversion_cause, TimedOutcome, timed_outcome_for}
use Rattle.bvh2_to_cwbvh_timed.specs.TimedConversion.{timed_conversion_of}

abbrev pub timed_ended : Outcome → List ℕ → TimedOutcome
timed_ended o side = record { untimed = o; side = side }

module _ (c : TimedCall) where
  -- refused with cause k before the untimed conversion is made
  pub refused_ends : (k : ℕ) (ds₁ : List ℕ) (cs₁ : List Float) → timed_conversion_cause c ≡ k → (k ≡ 0 → ⊥)
      → (let u = c.untimed in ds₁ ≡ work_after 0 (word_of u.limit) u.words (leaf_count u) k u.decisions)
      → (let u = c.untimed in cs₁ ≡ work_after plus_zero (cost_of u.limit) u.words (leaf_count u) k u.costs)
      → timed_ended (ended (refused k) ds₁ cs₁ c.untimed.bytes c.untimed.list) c.side ≡ timed_conversion_of c
  unfolding timed_conversion_of timed_outcome_for outcome_for answer_for output_after
  refused_ends zero ds₁ cs₁ e h f g = absurd (h refl)
  refused_ends (suc k) ds₁ cs₁ e h f g =
      let o : timed_ended (ended (refused (suc k)) ds₁ cs₁ c.untimed.bytes c.untimed.list) c.side ≡ timed_outcome_for c (suc k) =
      λ i. timed_ended (ended (refused (suc k)) (f i) (g i) c.untimed.bytes c.untimed.list) c.side in
      o ∙ ap (timed_outcome_for c) (sym e)

  -- as the untimed conversion
  module _ (e : timed_conversion_cause c ≡ conversion_cause c.untimed) where
    pub untimed_ends : (o : Outcome) (side₁ : List ℕ) → o ≡ conversion_of c.untimed
        → side₁ ≡ output_after (conversion_cause c.untimed) (defined_side c) c.side → timed_ended o side₁ ≡ timed_conversion_of c
    unfolding timed_conversion_of timed_outcome_for conversion_of
    untimed_ends o side₁ f g =
        let p : timed_ended o side₁ ≡ timed_outcome_for c (conversion_cause c.untimed) = λ i. timed_ended (f i) (g i) in
        p ∙ ap (timed_outcome_for c) (sym e)

  -- the side table then: written, or as it was
  pub side_written : conversion_cause c.untimed ≡ 0
      → splice c.side 0 (defined_side c) ≡ output_after (conversion_cause c.untimed) (defined_side c) c.side
  unfolding output_after
  side_written e = ap (λ (k : ℕ). output_after k (defined_side c) c.side) (sym e)

  pub side_kept : 0 < conversion_cause c.untimed → c.side ≡ output_after (conversion_cause c.untimed) (defined_side c) c.side
  unfolding output_after
  side_kept h = go (conversion_cause c.untimed) h
    where
      go : (k : ℕ) → 0 < k → c.side ≡ output_after k (defined_side c) c.side
      go zero h = absurd (omega arith)
      go (suc k) h = refl
