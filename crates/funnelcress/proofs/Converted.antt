-- Conversion by a word of order, timed or not: what it ends with for 0 or 1, and for any other.
use mathlib.Core.Path.{◌≡◌, refl, ap, ◌∙◌}
use mathlib.Core.Bool.{Bool, false}
use mathlib.Core.List.{List}
use Prim.Native.Nat.{ℕ, zero, suc, ◌+◌, ◌≤◌, ◌<◌}
use native.Mathlib.Omega.{arith}
use lib.Dec.{eqb}
use lib.ListN.{length}
use lib.Ieee.{Float}
use Rattle.bvh2.specs.FirstCause.{sizes_cause}
use Rattle.bvh2_tables.specs.Call.{Call, leaf_count}
use Rattle.bvh2_to_cwbvh.specs.Conversion.{conversion_of}
use Rattle.std.specs.Prelude.{Result}
use Rattle.causes.specs.declared.Refusal.{Refusal}
use Rattle.bvh2_to_cwbvh.specs.declared.Converted.{Converted}
use Rattle.bvh2_to_cwbvh.specs.Answer.{conversion_answer, outcome_of}
use Rattle.bvh2_to_cwbvh_timed.specs.TimedConversion.{TimedCall, timed_conversion_of}
use Rattle.bvh2_to_cwbvh_timed.specs.Answer.{timed_outcome_of}
use Rattle.funnelcress.specs.Converted.{order_cause, by_order, order_refused, conversion_by, conversion_number, Handed, handed}
use Rattle.funnelcress.specs.Timed.{timed_conversion_by, handed_timed}

-- ---- what refuses another order, for a cause of the sizes or none
abbrev or_three : ℕ → ℕ
or_three k = elim k [ zero ↦ 3 | suc j ↦ suc j ]

pub sizes_first : (words n k : ℕ) → k ≡ sizes_cause words n → (k ≡ 0 → ⊥) → k ≡ order_cause words n
unfolding order_cause
sizes_first words n k e h = pick k h ∙ ap or_three e
  where
    pick : (k : ℕ) → (k ≡ 0 → ⊥) → k ≡ or_three k
    pick zero h = absurd (h refl)
    pick (suc k) h = refl

pub then_three : (words n : ℕ) → 0 ≡ sizes_cause words n → 3 ≡ order_cause words n
unfolding order_cause
then_three words n e = ap or_three e

-- ---- by a word of order, for any kind of outcome
module _ {A : Type 0} (order : ℕ) (either : Bool → A) (other : A) where
  -- 0 or 1
  pub as_either : order ≤ 1 → either (eqb order 1) ≡ by_order order either other
  unfolding by_order
  as_either h = go order h
    where
      go : (k : ℕ) → k ≤ 1 → either (eqb k 1) ≡ by_order k either other
      go zero h = refl
      go (suc zero) h = refl
      go (suc (suc k)) h = absurd (omega arith)

  -- any other
  pub as_other : 1 < order → other ≡ by_order order either other
  unfolding by_order
  as_other h = go order h
    where
      go : (k : ℕ) → 1 < k → other ≡ by_order k either other
      go zero h = absurd (omega arith)
      go (suc zero) h = absurd (omega arith)
      go (suc (suc k)) h = refl

-- ---- what the caller has at the end
abbrev holding : (number : ℕ) (decisions : List ℕ) (costs : List Float) (bytes list : List ℕ) → Handed
holding number decisions costs bytes list = record { number = number; decisions = decisions; costs = costs; bytes = bytes; list = list }

-- the number of an answer, with an outcome that has it
pub handed_answer : (number : ℕ) (v : Result Converted Refusal) (ds : List ℕ) (cs : List Float) (bytes list : List ℕ)
    → number ≡ conversion_number (conversion_answer v)
    → holding number ds cs bytes list ≡ handed (outcome_of v ds cs bytes list)
handed_answer number v ds cs bytes list e = λ i. holding (e i) ds cs bytes list

-- the number of a refused order, with every slice as it was
pub handed_order : (c : Call) (number cause : ℕ) → number ≡ 0x2_0000_0000 + cause → cause ≡ order_cause (length c.words) (leaf_count c)
    → holding number c.decisions c.costs c.bytes c.list ≡ handed (order_refused c)
unfolding conversion_number order_refused
handed_order c number cause e k = ap (λ (j : ℕ). holding j c.decisions c.costs c.bytes c.list) (e ∙ ap (λ (j : ℕ). 0x2_0000_0000 + j) k)

-- ---- the conversion
module _ (order : ℕ) (call : Bool → Call) where
  pub by_either : order ≤ 1 → (number : ℕ) (v : Result Converted Refusal) (ds₁ : List ℕ) (cs₁ : List Float) (bytes₁ list₁ : List ℕ)
      → number ≡ conversion_number (conversion_answer v) → outcome_of v ds₁ cs₁ bytes₁ list₁ ≡ conversion_of (call (eqb order 1))
      → holding number ds₁ cs₁ bytes₁ list₁ ≡ handed (conversion_by order call)
  unfolding conversion_by
  by_either h number v ds₁ cs₁ bytes₁ list₁ e o =
      handed_answer number v ds₁ cs₁ bytes₁ list₁ e ∙ ap handed (o ∙ as_either order (λ ordered. conversion_of (call ordered)) _ h)

  pub by_other : 1 < order → (number cause : ℕ) → number ≡ 0x2_0000_0000 + cause
      → cause ≡ order_cause (length (call false).words) (leaf_count (call false))
      → let c = call false in holding number c.decisions c.costs c.bytes c.list ≡ handed (conversion_by order call)
  unfolding conversion_by
  by_other h number cause e k =
      handed_order (call false) number cause e k ∙ ap handed (as_other order (λ ordered. conversion_of (call ordered)) _ h)

-- ---- the timed conversion
module _ (order : ℕ) (call : Bool → TimedCall) where
  pub timed_by_either : order ≤ 1 → (number : ℕ) (v : Result Converted Refusal) (ds₁ : List ℕ) (cs₁ : List Float) (bytes₁ list₁ side₁ : List ℕ)
      → number ≡ conversion_number (conversion_answer v)
      → timed_outcome_of v ds₁ cs₁ bytes₁ list₁ side₁ ≡ timed_conversion_of (call (eqb order 1))
      → record { untimed = holding number ds₁ cs₁ bytes₁ list₁; side = side₁ } ≡ handed_timed (timed_conversion_by order call)
  unfolding timed_conversion_by
  timed_by_either h number v ds₁ cs₁ bytes₁ list₁ side₁ e o =
      ap (λ (u : Handed). record { untimed = u; side = side₁ }) (handed_answer number v ds₁ cs₁ bytes₁ list₁ e)
      ∙ ap handed_timed (o ∙ as_either order (λ ordered. timed_conversion_of (call ordered)) _ h)

  pub timed_by_other : 1 < order → (number cause : ℕ) → number ≡ 0x2_0000_0000 + cause
      → let c = (call false).untimed in
      cause ≡ order_cause (length c.words) (leaf_count c)
      → record { untimed = holding number c.decisions c.costs c.bytes c.list; side = (call false).side }
      ≡ handed_timed (timed_conversion_by order call)
  unfolding timed_conversion_by
  timed_by_other h number cause e k =
      ap (λ (u : Handed). record { untimed = u; side = (call false).side }) (handed_order (call false).untimed number cause e k)
      ∙ ap handed_timed (as_other order (λ ordered. timed_conversion_of (call ordered)) _ h)
