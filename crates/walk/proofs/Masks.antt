-- A node's mask stands for the positions and children that the slot test finds.
use mathlib.Core.Bool.{Bool, true, false, not, ◌&&◌}
use mathlib.Core.Path.{◌≡◌, refl, sym, ap, ◌∙◌}
use Prim.Native.Nat.{ℕ, ◌+◌, ◌*◌, ◌/◌, ◌%◌, ◌^◌, ◌<◌}
use native.Mathlib.Omega.{arith}
use lib.Bits.{bit_xor, xor_lt}
use lib.Dec.{eqb}
use lib.Pow.{shr-shr}
use Rattle.words.specs.Ones.{ones_below}
use Rattle.words.specs.Fields.{field}
use Rattle.words.proofs.Ranks.{bit_is}
use Rattle.node.specs.Node.{child_index}
use Rattle.walk.specs.Slots.{WalkRecord, child_number, passed_child, in_passed_slot, passed_position, positions_passed, children_passed}
use Rattle.walk.specs.Words.{is_set, positions_in, children_in}
use Rattle.walk.specs.WordStep.{passed_positions, passed_children, Decodes}
use Rattle.walk.specs.Masks.{fields_of, MaskLaws}
use Rattle.walk.proofs.Cases.{and-false}
use Rattle.walk.proofs.Falling.{falling-same, falling_cut}
use Rattle.walk.proofs.Words.{past_clear, cut_set, cut_rank}

-- two words that are equal from digit 24 on have the same bits there
high_set : (k a b : ℕ) → a / 0x100_0000 ≡ b / 0x100_0000 → is_set (24 + k) a ≡ is_set (24 + k) b
high_set k a b e = ap (λ (x : ℕ). eqb x 1) (digit a ∙ ap (λ (x : ℕ). x / 2 ^ k % 2) e ∙ sym (digit b))
  where
    digit : (n : ℕ) → field 1 (24 + k) n ≡ n / 0x100_0000 / 2 ^ k % 2
    digit n = bit_is (24 + k) n ∙ ap (λ (x : ℕ). x % 2) (sym (shr-shr n 24 k))

-- what a position's own test does not pass is passed over
not-not : (a b : Bool) → (not (not a) && b) ≡ (b && a)
not-not true true = refl
not-not true false = refl
not-not false true = refl
not-not false false = refl

module _ {RayData Distance : Type 0} (W : WalkRecord RayData Distance) (mask : RayData → ℕ → ℕ) (H : MaskLaws W mask) where
  positions_are : (ray : RayData) (n v : ℕ) → W.forged ray ≡ false → v < W.shape.nodes → W.rule n v ≡ true
      → positions_in (λ p. not (W.admits ray p)) (passed_positions (fields_of W mask) ray v) ≡ positions_passed W ray v
  positions_are ray n v f h r =
      falling_cut (λ b. W.position_base v + b) held 24 32 (omega arith)
      (λ i x y. ap (λ (c : Bool). admitted i && c) (past_clear 24 i (mask ray v % 0x100_0000) (omega arith) x) ∙ and-false (admitted i))
      ∙ falling-same (λ b. W.position_base v + b) (λ b. W.position_base v + b) held (λ b. passed_position W ray v (W.position_base v + b)) 24
      (λ b l. ap (λ (c : Bool). admitted b && c) (cut_set 24 b (mask ray v) l ∙ H.position_bit ray n v b f h r l)
      ∙ not-not (W.admits ray (W.position_base v + b)) (in_passed_slot W ray v (W.position_base v + b))) (λ i l e. refl)
    where
      admitted : ℕ → Bool
      admitted b = not (not (W.admits ray (W.position_base v + b)))

      held : ℕ → Bool
      held b = admitted b && is_set b (mask ray v % 0x100_0000)

  children_are : (ray : RayData) (n v : ℕ) → W.forged ray ≡ false → v < W.shape.nodes → W.rule n v ≡ true
      → children_in (W.octant ray) (passed_children (fields_of W mask) ray v) ≡ children_passed W ray v
  unfolding child_index
  children_are ray n v f h r =
      falling-same (λ k. child_index (W.shape.base v) (bits) (bit_xor k (W.octant ray))) (λ k. child_number W v (bit_xor k (W.octant ray)))
      (λ k. is_set (24 + k) bits) (λ k. passed_child W ray v (bit_xor k (W.octant ray))) 8
      (λ k l. high_set k bits (mask ray v) (omega (arith, H.imask_lt v h)) ∙ H.child_bit_lem ray n v k f h r l)
      (λ k l e. ap (λ (x : ℕ). W.shape.base v + x) (rank (bit_xor k (W.octant ray)) (xor_lt 3 k (W.octant ray) l (H.octant_lt ray f))))
    where
      bits : ℕ
      bits = mask ray v / 0x100_0000 * 0x100_0000 + W.imask v

      rank : (j : ℕ) → j < 8 → ones_below j (mask ray v / 0x100_0000 * 0x100_0000 + W.imask v) ≡ ones_below j (W.imask v)
      rank j l =
          let e : (mask ray v / 0x100_0000 * 0x100_0000 + W.imask v) % 2 ^ 24 ≡ W.imask v = omega (arith, H.imask_lt v h) in
          sym (cut_rank 24 j (mask ray v / 0x100_0000 * 0x100_0000 + W.imask v) (omega arith)) ∙ ap (ones_below j) e

  pub masks_decode : Decodes W.shape.nodes (fields_of W mask) (positions_passed W) (children_passed W)
  masks_decode =
      record {
        octant_lt = H.octant_lt;
        octant_told = H.octant_told;
        skips_told = λ x ray. ap (λ (a : ℕ → Bool). λ p. not (a p)) (H.admits_told x ray);
        mask_lt = H.mask_lt;
        imask_lt = H.imask_lt;
        child_base_lt = H.child_base_lt;
        positions_are = positions_are;
        children_are = children_are;
      }
