-- A record's nodes give all that the walk's theory asks: of its slots where nodes meet the rule, and of its hit masks.
use mathlib.Core.Bool.{true, false}
use mathlib.Core.List.{List}
use mathlib.Core.Path.{◌≡◌, refl, subst}
use Prim.Native.Nat.{ℕ, zero, suc, ◌+◌, ◌-◌, ◌*◌, ◌%◌, ◌≤◌, ◌<◌}
use native.Mathlib.Omega.{arith}
use lib.Bits.{bit_xor, xor_lt}
use lib.ListN.{get_or}
use Rattle.lists.proofs.Tells.{told, tells_true, tells_same, tells_as, eqb_tells}
use Rattle.words.specs.Ones.{ones_below}
use Rattle.words.specs.Fields.{field}
use Rattle.words.proofs.Le.{le-lt}
use Rattle.soundness.proofs.Range.{in_range_lem, range_stands}
use Rattle.node.specs.Node.{node_from, inner_bit, code_count}
use Rattle.node_meta.proofs.Decode.{slot_back}
use Rattle.node_rule.specs.Rule.{Rule, SlotRule, empty, child, leaf, node_rule}
use Rattle.node_hits.proofs.HitBits.{mask_lt, child_bit_set, child_bit_of, position_bit_of, position_bit_set}
use Rattle.record_shape.specs.Record.{Nodes, meta_at, slot_positions, shape_in, RuleIn}
use Rattle.record_shape.proofs.Placed.{placed}
use Rattle.record_shape.proofs.Record.{node_tells}
use Rattle.walk.specs.Slots.{passed_child, in_passed_slot, SlotLaws}
use Rattle.walk.specs.Words.{is_set}
use Rattle.walk.specs.Masks.{MaskLaws}
use Rattle.walk.proofs.Slots.{child_tells, PassedSlot, slot_tells}
use Rattle.walk_record.specs.Record.{Rays, RayLaws, FieldsFitIn, FieldsFit, slot_test, slots_in, mask_in}

-- ---- what the rule says of a leaf range

leaf_window : (meta bit s base n : ℕ) → SlotRule meta bit s base n → 0 < slot_positions bit meta → meta % 32 + slot_positions bit meta ≤ 24
unfolding slot_positions ones_below
leaf_window meta zero s base n (empty e f) h = let z : slot_positions 0 meta ≡ 0 = rw e in absurd (omega arith)
leaf_window meta (suc k) s base n (empty e f) h = absurd (omega arith)
leaf_window meta zero s base n (child e f) h = absurd (omega arith)
leaf_window meta (suc k) s base n (child e f) h = absurd (omega arith)
leaf_window meta zero s base n (leaf r f a b) h = a
leaf_window meta (suc k) s base n (leaf r f a b) h = absurd (omega arith)

-- only a slot that holds no child has positions
leaf_count_lem : (bit meta : ℕ) → 0 < slot_positions bit meta → (bit ≡ 0) × (slot_positions bit meta ≡ code_count meta)
unfolding slot_positions
leaf_count_lem zero meta h = (refl, refl)
leaf_count_lem (suc bit) meta h = absurd (omega arith)

leaf_counts : (bit meta : ℕ) → bit ≡ 0 → slot_positions bit meta ≡ code_count meta
unfolding slot_positions
leaf_counts bit meta e = rw e

module _ {RayData Distance : Type 0} (N : Nodes) (R : Rays RayData Distance) (laws : RayLaws R) (n : ℕ) where
  -- ---- slots

  pub slot_laws : SlotLaws (slots_in N R n) (RuleIn N n)
  unfolding shape_in
  slot_laws = record {
    passes_rule = λ v h r. tells_true (node_tells (N.node v) N.count n v) r;
    placed = λ v h r. placed N n v r;
    ones = λ v h. refl;
    window = λ v j h r l c. (
      omega arith,
      omega (arith, leaf_window (meta_at (N.node v) j) (inner_bit (N.node v).imask j) j (N.node v).primitive_base_idx n (r.slots j l) c),
    );
    octant_lt = laws.octant_lt;
    told_accepted = laws.told_accepted;
  }

  -- ---- masks

  met : (k v : ℕ) → node_rule (N.node v) N.count k v ≡ true → Rule (N.node v) N.count k v
  met k v e = told (node_tells (N.node v) N.count k v) e

  child_bit_lem : (r : RayData) (k v i : ℕ) → R.forged r ≡ false → node_rule (N.node v) N.count k v ≡ true → i < 8
      → is_set (24 + i) (mask_in N R r v) ≡ passed_child (slots_in N R n) r v (bit_xor i (R.octant r))
  child_bit_lem r k v i f e l =
      tells_same (tells_as (eqb_tells (field 1 (24 + i) (mask_in N R r v)) 1) to from) (child_tells (slots_in N R n) r v (bit_xor i (R.octant r)))
    where
      o : R.octant r < 8
      o = laws.octant_lt r f

      Child : ℕ → Type 0
      Child j = (inner_bit (N.node v).imask j ≡ 1) × (slot_test N R r v j ≡ true)

      to : field 1 (24 + i) (mask_in N R r v) ≡ 1 → Child (bit_xor i (R.octant r))
      to z =
          let h = child_bit_of (slot_test N R r v) (N.node v) (R.octant r) k o (met k v e).slots (24 + i) (omega arith) z in
          let y : 24 + i - 24 ≡ i = omega arith in
          subst (λ (x : ℕ). Child (bit_xor x (R.octant r))) y (h.inner, h.passed)

      from : Child (bit_xor i (R.octant r)) → field 1 (24 + i) (mask_in N R r v) ≡ 1
      from q =
          subst (λ (x : ℕ). field 1 (24 + x) (mask_in N R r v) ≡ 1) (slot_back i (R.octant r) l o)
          (child_bit_set (slot_test N R r v) (N.node v) (R.octant r) k o (met k v e).slots (bit_xor i (R.octant r))
          (xor_lt 3 i (R.octant r) l o) q.0 q.1)

  position_bit : (r : RayData) (k v b : ℕ) → R.forged r ≡ false → node_rule (N.node v) N.count k v ≡ true → b < 24
      → is_set b (mask_in N R r v) ≡ in_passed_slot (slots_in N R n) r v ((N.node v).primitive_base_idx + b)
  unfolding shape_in
  position_bit r k v b f e l =
      tells_same (tells_as (eqb_tells (field 1 b (mask_in N R r v)) 1) to from) (slot_tells (slots_in N R n) r v (base + b))
    where
      base : ℕ
      base = (N.node v).primitive_base_idx

      bit : ℕ → ℕ
      bit j = inner_bit (N.node v).imask j

      meta : ℕ → ℕ
      meta j = meta_at (N.node v) j

      to : field 1 b (mask_in N R r v) ≡ 1 → PassedSlot (slots_in N R n) r v (base + b)
      to z =
          let q = position_bit_of (slot_test N R r v) (N.node v) (R.octant r) k (laws.octant_lt r f) (met k v e).slots b l z in
          let j = q.0 in
          let c = leaf_counts (bit j) (meta j) q.1.outer in
          let g = in_range_lem (base + b) (base + meta j % 32) (slot_positions (bit j) (meta j)) (omega (arith, q.1.from))
          (omega (arith, q.1.upto)) in
          (j, q.1.slot, (g, q.1.passed))

      from : PassedSlot (slots_in N R n) r v (base + b) → field 1 b (mask_in N R r v) ≡ 1
      from q =
          let j = q.0 in
          let g = range_stands (base + b) (base + meta j % 32) (slot_positions (bit j) (meta j)) (omega (arith, q.2.0)) in
          let c = leaf_count_lem (bit j) (meta j) (omega (arith, g.0, g.1)) in
          position_bit_set (slot_test N R r v) (N.node v) (R.octant r) k (laws.octant_lt r f) (met k v e).slots b j q.1 c.0
          q.2.1 (omega (arith, g.0)) (omega (arith, g.1, c.1))

-- ---- words in range

-- bytes fit
pub bytes_fit : (bytes : List ℕ) → ((i : ℕ) → get_or bytes i 0 < 256) → FieldsFit bytes
unfolding node_from
bytes_fit bytes h = record { imask = λ v l. h (80 * v + 15); child_base = λ v l. le-lt 4 bytes (80 * v + 16) (λ i k. h (80 * v + 16 + i)) }

module _ {RayData Distance : Type 0} (N : Nodes) (R : Rays RayData Distance) (laws : RayLaws R) (n : ℕ) (fit : FieldsFitIn N) where
  pub mask_laws : MaskLaws (slots_in N R n) (mask_in N R)
  unfolding shape_in
  mask_laws = record {
    octant_lt = laws.octant_lt;
    octant_told = laws.octant_told;
    admits_told = laws.admits_told;
    mask_lt = λ r v. mask_lt (slot_test N R r v) (N.node v) (R.octant r);
    imask_lt = fit.imask;
    child_base_lt = fit.child_base;
    position_bit = λ r k v b f h e l. position_bit N R laws n r k v b f e l;
    child_bit_lem = λ r k v i f h e l. child_bit_lem N R laws n r k v i f e l;
  }
