-- Which bits of a hit mask are set, on a node whose slots meet the rule and for any test of slots: each passed slot puts in a run of ones, as many
-- as its code has, a child one at 24 + (slot XOR octant), a leaf its positions' below 24.
use mathlib.Core.Path.{◌≡◌, refl, sym, ap, ◌∙◌, subst}
use mathlib.Core.Bool.{Bool, true, false}
use mathlib.Core.Logic.{⊎_elim}
use Prim.Native.Nat.{ℕ, zero, suc, ◌+◌, ◌-◌, ◌*◌, ◌/◌, ◌%◌, ◌^◌, ◌≤◌, ◌<◌}
use native.Mathlib.Nat.{mod-lt, zero-mul}
use native.Mathlib.Omega.{arith}
use lib.Bits.{bit_xor, xor_lt}
use lib.ListN.{get_or}
use lib.Pow.{pow_pos, ones_lt}
use Rattle.words.specs.Fields.{field}
use Rattle.words.specs.Ones.{ones_below}
use Rattle.words.proofs.Ors.{or_of_lt, bit_from, bit_to, zero_bit, shl_bit, shl_low, run_bit, bit_past}
use Rattle.words.proofs.Upto.{lt_or_ge}
use Rattle.node.specs.declared.Node.{Node}
use Rattle.node.specs.Node.{inner_bit, code_count}
use Rattle.node_meta.specs.Meta.{child_bits, pick, inner_code, bit_index}
use Rattle.node_meta.proofs.Decode.{index_lt, inner_place, slot_back}
use Rattle.node_rule.specs.Rule.{LeafTop, one, two, three, SlotRule, empty, child, leaf, SlotOf}
use Rattle.node_rule.proofs.Slots.{some_ones}
use Rattle.node_slot.specs.Mask.{only_if, hit_bits, slot_hit, hit_mask_of}

-- ---- a slot's code
-- the bits of a slot are a run of ones, as many as its code has
leaf_run : (top : ℕ) → LeafTop top → top ≡ 2 ^ ones_below 3 top - 1
unfolding ones_below
leaf_run top (one e) = rw e
leaf_run top (two e) = rw e
leaf_run top (three e) = rw e

pub code_run : (meta bit slot base n : ℕ) → slot < 8 → SlotRule meta bit slot base n → child_bits meta ≡ 2 ^ code_count meta - 1
unfolding ones_below
code_run meta bit slot base n l (empty e f) = rw e
code_run meta bit slot base n l (child e f) = let t : meta / 32 ≡ 1 = omega arith in rw t
code_run meta bit slot base n l (leaf t f a b) = leaf_run (meta / 32) t

no_code : (meta : ℕ) → meta ≡ 0 → code_count meta ≡ 0
unfolding ones_below
no_code meta e = rw e

-- a child's code: one bit, at 24 + (slot XOR octant)
pub child_code : (meta slot : ℕ) → slot < 8 → meta ≡ 56 + slot → code_count meta ≡ 1
unfolding ones_below
child_code meta slot l e = let t : meta / 32 ≡ 1 = omega arith in rw t

pub child_place : (meta slot octant : ℕ) → slot < 8 → octant < 8 → meta ≡ 56 + slot → bit_index octant meta ≡ 24 + bit_xor slot octant
child_place meta slot octant l h e = ap (bit_index octant) e ∙ inner_place slot octant l h

-- a leaf's: its low five bits, whatever the octant
no_product : (a b : ℕ) → a < 2 → b < 2 → (a ≡ 1 → b ≡ 1 → ⊥) → a * b ≡ 0
no_product zero b p q h = zero-mul b
no_product (suc zero) zero p q h = refl
no_product (suc zero) (suc zero) p q h = absurd (h refl refl)
no_product (suc zero) (suc (suc b)) p q h = absurd (omega arith)
no_product (suc (suc a)) b p q h = absurd (omega arith)

both_bits : (m : ℕ) → m % 32 < 24 → m / 8 % 2 ≡ 1 → m / 16 % 2 ≡ 1 → ⊥
both_bits m h p q =
    let halves : m / 16 ≡ m / 8 / 2 = omega arith in
    let digits : m % 32 ≡ 8 * (m / 8 % 4) + m % 8 = omega arith in
    let three : m / 8 % 4 ≡ 3 = quarters (m / 8) p (subst (λ (x : ℕ). x % 2 ≡ 1) halves q) in
    omega arith
  where
    quarters : (q : ℕ) → q % 2 ≡ 1 → q / 2 % 2 ≡ 1 → q % 4 ≡ 3
    quarters q a b = omega arith

pub leaf_place : (meta octant : ℕ) → meta % 32 < 24 → bit_index octant meta ≡ meta % 32
leaf_place meta octant h =
    let e : inner_code meta ≡ 0 = no_product (meta / 8 % 2) (meta / 16 % 2) (omega arith) (omega arith) (both_bits meta h) in
    ap (λ (c : ℕ). pick c (bit_xor (meta % 32) octant) (meta % 32)) e

-- ---- the mask
-- whatever the node, it is a word of 32 bits
pub mask_lt : (test : ℕ → Bool) (v : Node) (octant : ℕ) → hit_mask_of test v octant < 2 ^ 32
unfolding hit_mask_of slot_hit hit_bits
mask_lt test v octant = or_of_lt 32 8 (slot_hit test v octant) (λ k l. small (test k) (get_or v.child_meta k 0))
  where
    small : (b : Bool) (meta : ℕ) → only_if b ((child_bits meta * 2 ^ bit_index octant meta) % 2 ^ 32) < 2 ^ 32
    small true meta = mod-lt (child_bits meta * 2 ^ bit_index octant meta) (pow_pos 32)
    small false meta = pow_pos 32

-- bit by bit
module _ (test : ℕ → Bool) (v : Node) (octant n : ℕ) (small : octant < 8) (rule : (k : ℕ) → k < 8 → SlotOf v n k) where
  abbrev meta : ℕ → ℕ
  meta k = get_or v.child_meta k 0

  abbrev mask : ℕ
  mask = hit_mask_of test v octant

  -- bit j stands in slot k's run, and the slot passes
  pub record InRun (j k : ℕ) : Type 0 where
    pub slot : k < 8
    pub passed : test k ≡ true
    pub from : bit_index octant (meta k) ≤ j
    pub upto : j < bit_index octant (meta k) + code_count (meta k)

  run : (k : ℕ) → k < 8 → child_bits (meta k) ≡ 2 ^ code_count (meta k) - 1
  run k l = code_run (meta k) (inner_bit v.imask k) k v.primitive_base_idx n l (rule k l)

  taken : (k j : ℕ) (b : Bool) → field 1 j (only_if b (hit_bits octant (meta k))) ≡ 1 → (b ≡ true) × (field 1 j (hit_bits octant (meta k)) ≡ 1)
  taken k j true e = (refl, e)
  taken k j false e = absurd (omega (arith, zero_bit j))

  in_run : (k j : ℕ) → k < 8 → j < 32 → field 1 j (hit_bits octant (meta k)) ≡ 1
      → (bit_index octant (meta k) ≤ j) × (j < bit_index octant (meta k) + code_count (meta k))
  unfolding hit_bits
  in_run k j l hj e =
      let at : ℕ = bit_index octant (meta k) in
      let c : ℕ = code_count (meta k) in
      let low : at ≤ j = ⊎_elim (λ p. absurd (omega (
        arith,
        shl_low 32 at j (child_bits (meta k)) p
            (omega (arith, index_lt octant (meta k) small)),
      ))) (λ p. p) (lt_or_ge j at) in
      let b : field 1 (j - at) (2 ^ c - 1) ≡ 1 = ap (field 1 (j - at)) (sym (run k l)) ∙ sym (shl_bit 32 at j (child_bits (meta k)) low hj) ∙ e in
      let up : j - at < c = ⊎_elim (λ q. q) (λ q. absurd (omega (arith, bit_past c (j - at) (2 ^ c - 1) (ones_lt c) q))) (lt_or_ge (j - at) c) in
      (low, omega arith)

  of_run : (k j : ℕ) → k < 8 → j < 32 → bit_index octant (meta k) ≤ j → j < bit_index octant (meta k) + code_count (meta k)
      → field 1 j (hit_bits octant (meta k)) ≡ 1
  unfolding hit_bits
  of_run k j l hj low up =
      let at : ℕ = bit_index octant (meta k) in
      shl_bit 32 at j (child_bits (meta k)) low hj ∙ ap (field 1 (j - at)) (run k l) ∙ run_bit (code_count (meta k)) (j - at) (omega arith)

  none_past : (j : ℕ) → field 1 j mask ≡ 1 → j < 32
  none_past j e = ⊎_elim (λ q. q) (λ q. absurd (omega (arith, bit_past 32 j mask (mask_lt test v octant) q))) (lt_or_ge j 32)

  -- a bit of the mask stands in the run of a slot passed, and each bit of such a run is a bit of the mask
  pub bit_of : (j : ℕ) → field 1 j mask ≡ 1 → (k : ℕ) × InRun j k
  unfolding hit_mask_of slot_hit
  bit_of j e =
      let w = bit_from 8 j (slot_hit test v octant) e in
      let p = taken w.0 j (test w.0) w.2 in
      let q = in_run w.0 j w.1 (none_past j e) p.1 in
      (w.0, record { slot = w.1; passed = p.0; from = q.0; upto = q.1 })

  pub bit_set : (j k : ℕ) → j < 32 → InRun j k → field 1 j mask ≡ 1
  unfolding hit_mask_of slot_hit
  bit_set j k hj i =
      bit_to 8 j k (slot_hit test v octant) i.slot
      (ap (λ (b : Bool). field 1 j (only_if b (hit_bits octant (meta k)))) i.passed ∙ of_run k j i.slot hj i.from i.upto)

  -- ---- children and positions
  child_meta_lem : (k : ℕ) → k < 8 → inner_bit v.imask k ≡ 1 → meta k ≡ 56 + k
  child_meta_lem k l b = go (rule k l)
    where
      go : SlotOf v n k → meta k ≡ 56 + k
      go (empty e f) = absurd (omega arith)
      go (child e f) = e
      go (leaf t f a c) = absurd (omega arith)

  -- the bit of a passed child
  pub child_bit_set : (k : ℕ) → k < 8 → inner_bit v.imask k ≡ 1 → test k ≡ true → field 1 (24 + bit_xor k octant) mask ≡ 1
  child_bit_set k l b p =
      let e = child_meta_lem k l b in
      let c = child_code (meta k) k l e in
      let q = child_place (meta k) k octant l small e in
      let x = xor_lt 3 k octant l small in
      bit_set (24 + bit_xor k octant) k (omega arith) (record { slot = l; passed = p; from = omega arith; upto = omega arith })

  pub record ChildHit (k : ℕ) : Type 0 where
    pub slot : k < 8
    pub inner : inner_bit v.imask k ≡ 1
    pub passed : test k ≡ true

  -- a bit from 24 on is a passed child's
  pub child_bit_of : (j : ℕ) → 24 ≤ j → field 1 j mask ≡ 1 → ChildHit (bit_xor (j - 24) octant)
  child_bit_of j h e = let w = bit_of j e in go w.0 w.1 (rule w.0 w.1.slot)
    where
      go : (k : ℕ) → InRun j k → SlotOf v n k → ChildHit (bit_xor (j - 24) octant)
      go k i (empty z f) = let c : code_count (meta k) ≡ 0 = no_code (meta k) z in let a = i.from in let b = i.upto in absurd (omega arith)
      go k i (child z f) =
          let c = child_code (meta k) k i.slot z in
          let q = child_place (meta k) k octant i.slot small z in
          let a = i.from in
          let b = i.upto in
          let s : j - 24 ≡ bit_xor k octant = omega arith in
          let back : bit_xor (j - 24) octant ≡ k = ap (λ (x : ℕ). bit_xor x octant) s ∙ slot_back k octant i.slot small in
          subst ChildHit (sym back) (record { slot = i.slot; inner = f; passed = i.passed })
      go k i (leaf t f a c) =
          let p = some_ones (meta k) t in
          let q = leaf_place (meta k) octant (omega arith) in
          let u = i.upto in
          absurd (omega arith)

  pub record PositionHit (j k : ℕ) : Type 0 where
    pub slot : k < 8
    pub outer : inner_bit v.imask k ≡ 0
    pub passed : test k ≡ true
    pub from : meta k % 32 ≤ j
    pub upto : j < meta k % 32 + code_count (meta k)
    pub below : v.primitive_base_idx + j < n

  -- a bit below 24 is a position of a passed leaf, and lies below n
  pub position_bit_of : (j : ℕ) → j < 24 → field 1 j mask ≡ 1 → (k : ℕ) × PositionHit j k
  position_bit_of j h e = let w = bit_of j e in (w.0, go w.0 w.1 (rule w.0 w.1.slot))
    where
      go : (k : ℕ) → InRun j k → SlotOf v n k → PositionHit j k
      go k i (empty z f) = let c : code_count (meta k) ≡ 0 = no_code (meta k) z in let a = i.from in let b = i.upto in absurd (omega arith)
      go k i (child z f) = let q = child_place (meta k) k octant i.slot small z in let a = i.from in absurd (omega arith)
      go k i (leaf t f a c) =
          let p = some_ones (meta k) t in
          let q = leaf_place (meta k) octant (omega arith) in
          let lo = i.from in
          let hi = i.upto in
          record { slot = i.slot; outer = f; passed = i.passed; from = omega arith; upto = omega arith; below = omega arith }

  -- and each position of a passed leaf is one
  pub position_bit_set : (j k : ℕ) → k < 8 → inner_bit v.imask k ≡ 0 → test k ≡ true → meta k % 32 ≤ j → j < meta k % 32 + code_count (meta k)
      → field 1 j mask ≡ 1
  position_bit_set j k l b p lo hi = go (rule k l)
    where
      go : SlotOf v n k → field 1 j mask ≡ 1
      go (empty z f) = let c : code_count (meta k) ≡ 0 = no_code (meta k) z in absurd (omega arith)
      go (child z f) = absurd (omega arith)
      go (leaf t f a c) =
          let s = some_ones (meta k) t in
          let q = leaf_place (meta k) octant (omega arith) in
          bit_set j k (omega arith) (record { slot = l; passed = p; from = omega arith; upto = omega arith })
