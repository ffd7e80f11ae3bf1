-- Every answer of conversion, timed or not, fits its number, and no two share one.
use mathlib.Core.Path.{◌≡◌, refl, ap, ap₂, subst}
use mathlib.Core.Bool.{Bool, true, false, cond}
use mathlib.Core.List.{List, [], ◌∷◌}
use Prim.Native.Nat.{ℕ, zero, suc, ◌≤◌}
use native.Mathlib.Omega.{arith}
use lib.Dec.{leb}
use Rattle.causes.specs.Causes.{Condition, ◌unless◌, first_cause, place_of}
use Rattle.bvh2.proofs.Decoded.{accepted_decoded}
use Rattle.bvh2_tables.specs.Call.{Call, leaf_count, Lengths, lengths_of}
use Rattle.bvh2_tables.specs.Tables.{Prepared}
use Rattle.wide_tree.proofs.Ordered.{node-count}
use Rattle.bvh2_to_cwbvh.specs.Conversion.{nodes_of, conversion_conditions, conversion_cause, ConversionAnswer, converted, refused}
use Rattle.bvh2_to_cwbvh.specs.Conversion.{answer_for, Outcome, outcome_for, conversion_of}
use Rattle.bvh2_to_cwbvh.proofs.Answers.{answered, answers_none}
use Rattle.bvh2_to_cwbvh_timed.specs.TimedConversion.{TimedCall, put_in_order, timed_conversion_conditions, timed_conversion_cause}
use Rattle.bvh2_to_cwbvh_timed.specs.TimedConversion.{TimedOutcome, timed_outcome_for, timed_conversion_of}
use Rattle.bvh2_to_cwbvh_timed.proofs.Cause.{panes, room}
use Rattle.funnelcress.specs.Converted.{by_order, order_refused, conversion_by, conversion_number}
use Rattle.funnelcress.specs.Timed.{timed_conversion_by}

-- a node count fits sixteen bits, and a level goes to 31
unfoldable pub Fits : ConversionAnswer → Type 0
Fits (converted nodes level) = (nodes ≤ 65535) × (level ≤ 31)
Fits (refused number) = Unit {0}

-- answers with the same number are the same
pub numbers_apart : (a b : ConversionAnswer) → Fits a → Fits b → conversion_number a ≡ conversion_number b → a ≡ b
unfolding conversion_number Fits
numbers_apart (converted m l) (converted n k) h i e = ap₂ converted (omega arith) (omega arith)
numbers_apart (converted m l) (refused n) h i e = absurd (omega arith)
numbers_apart (refused m) (converted n k) h i e = absurd (omega arith)
numbers_apart (refused m) (refused n) h i e = ap refused (omega arith)

-- ---- every answer fits
few_nodes : (ws : List ℕ) (n limit : ℕ) (ordered : Bool) (l : Lengths) → Prepared ws n limit l → nodes_of ws n limit ordered ≤ 65535
unfolding nodes_of
few_nodes ws zero limit ordered l p = omega arith
few_nodes ws (suc n) limit ordered l p =
    let t = (accepted_decoded ws (suc n) (omega arith)).0 p.accepted in omega (arith, node-count ordered limit ws (suc n) t p.small, t.few)

conversion_fits : (c : Call) → Fits (conversion_of c).answer
unfolding Fits
conversion_fits c = go _ refl
  where
    go : (a : ConversionAnswer) → (conversion_of c).answer ≡ a → Fits a
    go (converted m d) e =
        let h = answered c m d e in
        (omega (arith, h.nodes, few_nodes c.words (leaf_count c) c.limit c.ordered (lengths_of c) h.none), omega (arith, h.level, h.low))
    go (refused k) e = tt

-- a timed call without a cause is an untimed one without
none_put : (j : ℕ) (b : Bool) (l : List Condition) → (j ≡ 0 → ⊥) → first_cause (put_in_order j b l) ≡ 0 → first_cause l ≡ 0
unfolding put_in_order first_cause
none_put j b [] h e = refl
none_put j b (k unless a ∷ l) h e = go (leb (place_of j) (place_of k)) a (none_put j b l h) e
  where
    in_front : (b : Bool) (m : List Condition) → first_cause (j unless b ∷ m) ≡ 0 → first_cause m ≡ 0
    in_front true m e = e
    in_front false m e = absurd (h e)

    go : (o a : Bool) → (first_cause (put_in_order j b l) ≡ 0 → first_cause l ≡ 0)
        → first_cause (cond o (j unless b ∷ k unless a ∷ l) (k unless a ∷ put_in_order j b l)) ≡ 0 → first_cause (k unless a ∷ l) ≡ 0
    go true a r e = in_front b (k unless a ∷ l) e
    go false true r e = r e
    go false false r e = e

untimed_none : (c : TimedCall) → timed_conversion_cause c ≡ 0 → conversion_cause c.untimed ≡ 0
unfolding timed_conversion_conditions
untimed_none c e =
    let untimed = conversion_conditions c.untimed.words (leaf_count c.untimed) c.untimed.limit c.untimed.ordered (lengths_of c.untimed) in
    none_put 14 (panes c) untimed (λ z. omega (arith, z))
    (none_put 4 (room c) (put_in_order 14 (panes c) untimed) (λ z. omega (arith, z)) e)

timed_conversion_fits : (c : TimedCall) → Fits (timed_conversion_of c).untimed.answer
unfolding timed_conversion_of timed_outcome_for outcome_for answer_for Fits
timed_conversion_fits c = go (timed_conversion_cause c) refl
  where
    go : (k : ℕ) → timed_conversion_cause c ≡ k → Fits (answer_for c.untimed k)
    go zero e = subst Fits (answers_none c.untimed (untimed_none c e)) (conversion_fits c.untimed)
    go (suc k) e = tt

-- what holds of each outcome holds by a word of order
each_order : {A : Type 0} (P : A → Type 0) (order : ℕ) (either : Bool → A) (other : A)
    → ((ordered : Bool) → P (either ordered)) → P other → P (by_order order either other)
unfolding by_order
each_order P zero either other h k = h false
each_order P (suc zero) either other h k = h true
each_order P (suc (suc n)) either other h k = k

pub answer_fits : (order : ℕ) (call : Bool → Call) → Fits (conversion_by order call).answer
unfolding conversion_by order_refused Fits
answer_fits order call =
    each_order (λ (o : Outcome). Fits o.answer) order (λ ordered. conversion_of (call ordered)) _ (λ ordered. conversion_fits (call ordered)) tt

pub timed_answer_fits : (order : ℕ) (call : Bool → TimedCall) → Fits (timed_conversion_by order call).untimed.answer
unfolding timed_conversion_by order_refused Fits
timed_answer_fits order call =
    each_order (λ (o : TimedOutcome). Fits o.untimed.answer) order (λ ordered. timed_conversion_of (call ordered)) _
    (λ ordered. timed_conversion_fits (call ordered)) tt
