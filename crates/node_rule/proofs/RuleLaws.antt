-- The node rule as a test and as a statement agree, part by part.
use mathlib.Core.Path.{◌≡◌, refl, sym, subst}
use mathlib.Core.Logic.{◌⊎◌, inl, inr, ◌↔◌}
use Prim.Native.Nat.{ℕ, zero, suc, ◌+◌, ◌/◌, ◌%◌, ◌<◌, ◌≤◌}
use native.Mathlib.Nat.{not-suc-le-zero, eq-or-lt_of_le, le_of_suc-le-suc}
use native.Mathlib.Omega.{arith}
use lib.Dec.{T, leb}
use lib.Ieee.{binary32, of_bits}
use lib.ListN.{get_or}
use Rattle.float.specs.Compare.{in_bounds}
use Rattle.words.specs.Ones.{ones_below}
use Rattle.node.specs.declared.Node.{Node}
use Rattle.node.specs.Node.{inner_bit, code_count}
use Rattle.node_rule.specs.Rule.{point_ok, exponent_ok, head_ok, children_ok, leaf_top, slot_ok, slots_ok, node_rule, Exponent, Head, Children}
use Rattle.node_rule.specs.Rule.{LeafTop}
use Rattle.node_rule.specs.Rule.{one, two, three, SlotRule, empty, child, leaf, SlotOf, Rule}
use Rattle.node_rule.specs.Tells.{Tells}
use Rattle.node_rule.proofs.Answers.{says, asked, swap, said, test_tells, leb_tells, ltb_tells, eqb_tells, and_tells, or_tells}

exponent_tells : (e : ℕ) → Tells (Exponent e) (exponent_ok e)
unfolding exponent_ok
exponent_tells e = and_tells (53 ≤ e) (e ≤ 161) (leb 53 e) (leb e 161) (leb_tells 53 e) (leb_tells e 161)

pub head_tells : (v : Node) → Tells (Head v) (head_ok v)
unfolding head_ok point_ok
head_tells v =
    swap _ (Head v) _
    (λ h. record { px = h.0.0.0.0.0; py = h.0.0.0.0.1; pz = h.0.0.0.1; ex = h.0.0.1; ey = h.0.1; ez = h.1 })
    (λ h. (((((h.px, h.py), h.pz), h.ex), h.ey), h.ez))
    (and_tells _ _ _ _ (and_tells _ _ _ _ (and_tells _ _ _ _
    (and_tells _ _ _ _ (and_tells _ _ _ _ (test_tells (in_bounds (of_bits binary32 v.px))) (test_tells (in_bounds (of_bits binary32 v.py))))
    (test_tells (in_bounds (of_bits binary32 v.pz)))) (exponent_tells v.ex)) (exponent_tells v.ey)) (exponent_tells v.ez))

pub children_tells : (v : Node) (m i : ℕ) → Tells (Children v m i) (children_ok v m i)
unfolding children_ok
children_tells v m i =
    swap _ (Children v m i) _ to from
    (or_tells _ _ _ _ (eqb_tells v.imask 0) (and_tells _ _ _ _ (ltb_tells i v.child_base_idx)
    (leb_tells (v.child_base_idx + ones_below 8 v.imask) m)))
  where
    to : (v.imask ≡ 0) ⊎ ((i < v.child_base_idx) × (v.child_base_idx + ones_below 8 v.imask ≤ m)) → Children v m i
    to (inl e) = record { later = λ p. absurd (omega arith); exist = λ p. absurd (omega arith) }
    to (inr h) = record { later = λ p. h.0; exist = λ p. h.1 }

    go : (k : ℕ) → v.imask ≡ k → Children v m i → (v.imask ≡ 0) ⊎ ((i < v.child_base_idx) × (v.child_base_idx + ones_below 8 v.imask ≤ m))
    go zero e c = inl e
    go (suc k) e c = inr (c.later (omega arith), c.exist (omega arith))

    from : Children v m i → (v.imask ≡ 0) ⊎ ((i < v.child_base_idx) × (v.child_base_idx + ones_below 8 v.imask ≤ m))
    from = go v.imask refl

top_tells : (top : ℕ) → Tells (LeafTop top) (leaf_top top)
unfolding leaf_top
top_tells top =
    swap (((top ≡ 1) ⊎ (top ≡ 3)) ⊎ (top ≡ 7)) (LeafTop top) _ to from
    (or_tells _ _ _ _ (or_tells _ _ _ _ (eqb_tells top 1) (eqb_tells top 3)) (eqb_tells top 7))
  where
    to : ((top ≡ 1) ⊎ (top ≡ 3)) ⊎ (top ≡ 7) → LeafTop top
    to (inl (inl e)) = one e
    to (inl (inr e)) = two e
    to (inr e) = three e

    from : LeafTop top → ((top ≡ 1) ⊎ (top ≡ 3)) ⊎ (top ≡ 7)
    from (one e) = inl (inl e)
    from (two e) = inl (inr e)
    from (three e) = inr e

module _ (meta bit slot base n : ℕ) where
  abbrev Three : Type 0
  Three =
      (((meta ≡ 0) × (bit ≡ 0)) ⊎ ((meta ≡ 56 + slot) × (bit ≡ 1)))
      ⊎ (((LeafTop (meta / 32) × (bit ≡ 0)) × (meta % 32 + code_count meta ≤ 24)) × (base + meta % 32 + code_count meta ≤ n))

  slot_to : Three → SlotRule meta bit slot base n
  slot_to (inl (inl h)) = empty h.0 h.1
  slot_to (inl (inr h)) = child h.0 h.1
  slot_to (inr h) = leaf h.0.0.0 h.0.0.1 h.0.1 h.1

  slot_from_lem : SlotRule meta bit slot base n → Three
  slot_from_lem (empty e f) = inl (inl (e, f))
  slot_from_lem (child e f) = inl (inr (e, f))
  slot_from_lem (leaf t f a b) = inr (((t, f), a), b)

  pub slot_tells : Tells (SlotRule meta bit slot base n) (slot_ok meta bit slot base n)
  unfolding slot_ok
  slot_tells =
      swap Three (SlotRule meta bit slot base n) _ slot_to slot_from_lem
      (or_tells _ _ _ _ (or_tells _ _ _ _ (and_tells _ _ _ _ (eqb_tells meta 0) (eqb_tells bit 0))
      (and_tells _ _ _ _ (eqb_tells meta (56 + slot)) (eqb_tells bit 1)))
      (and_tells _ _ _ _ (and_tells _ _ _ _ (and_tells _ _ _ _ (top_tells (meta / 32)) (eqb_tells bit 0))
      (leb_tells (meta % 32 + code_count meta) 24)) (leb_tells (base + meta % 32 + code_count meta) n)))

-- what holds below k and at k holds below k + 1
each_next : (F : ℕ → Type 0) (k : ℕ) → ((j : ℕ) → j < k → F j) → F k → (j : ℕ) → j < suc k → F j
each_next F k h f j l = go (eq-or-lt_of_le (le_of_suc-le-suc l))
  where
    go : (j ≡ k) ⊎ (j < k) → F j
    go (inl e) = subst F (sym e) f
    go (inr m) = h j m

pub slots_tells : (k : ℕ) (v : Node) (n : ℕ) → Tells ((j : ℕ) → j < k → SlotOf v n j) (slots_ok k v n)
unfolding slots_ok
slots_tells zero v n = said ((j : ℕ) → j < 0 → SlotOf v n j) (λ j l. absurd (not-suc-le-zero l))
slots_tells (suc k) v n =
    swap (((j : ℕ) → j < k → SlotOf v n j) × SlotOf v n k) ((j : ℕ) → j < suc k → SlotOf v n j) _
    (λ h. each_next (SlotOf v n) k h.0 h.1) (λ h. (λ j l. h j (omega arith), h k (omega arith)))
    (and_tells ((j : ℕ) → j < k → SlotOf v n j) (SlotOf v n k) (slots_ok k v n)
    (slot_ok (get_or v.child_meta k 0) (inner_bit v.imask k) k v.primitive_base_idx n) (slots_tells k v n)
    (slot_tells (get_or v.child_meta k 0) (inner_bit v.imask k) k v.primitive_base_idx n))

pub rule_tells : (v : Node) (m n i : ℕ) → Tells (Rule v m n i) (node_rule v m n i)
unfolding node_rule
rule_tells v m n i =
    swap ((Head v × Children v m i) × ((k : ℕ) → k < 8 → SlotOf v n k)) (Rule v m n i) _
    (λ h. record { head = h.0.0; children = h.0.1; slots = h.1 }) (λ r. ((r.head, r.children), r.slots))
    (and_tells _ _ _ _ (and_tells _ _ _ _ (head_tells v) (children_tells v m i)) (slots_tells 8 v n))

-- the test is passed exactly where the statement holds
pub rule_iff : (v : Node) (m n i : ℕ) → T (node_rule v m n i) ↔ Rule v m n i
rule_iff v m n i = (says (Rule v m n i) (node_rule v m n i) (rule_tells v m n i), asked (Rule v m n i) (node_rule v m n i) (rule_tells v m n i))
