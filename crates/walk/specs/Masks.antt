-- Internal: hit masks (01, "Rust forms and their replacements"): what the bits of a node's mask say of its slots, where the node meets the rule.
use Rattle.std.specs.Prelude.{true, false, not, ◌≡◌, ℕ, ◌+◌, ◌^◌, ◌<◌}
use Rattle.std.specs.Int.Bits.{bit_xor}
use Rattle.walk.specs.Slots.{WalkRecord, passed_child, in_passed_slot}
use Rattle.walk.specs.Words.{is_set}
use Rattle.walk.specs.WordStep.{NodeWords}

module _ {RayData Distance : Type 0} (W : WalkRecord RayData Distance) (mask : RayData → ℕ → ℕ) where
  -- a record's own fields, with a mask for each ray and node
  abbrev pub fields_of : NodeWords RayData Distance
  fields_of = record {
    rule = W.rule;
    told = W.told;
    forged = W.forged;
    absent = W.absent;
    skips = λ ray p. not (W.admits ray p);
    octant = W.octant;
    mask = mask;
    imask = W.imask;
    child_base = W.shape.base;
    position_base = W.position_base;
  }

  pub record MaskLaws : Type 0 where
    pub octant_lt : (ray : RayData) → W.forged ray ≡ false → W.octant ray < 8
    pub octant_told : (x : Distance) (ray : RayData) → W.octant (W.told x ray) ≡ W.octant ray
    pub admits_told : (x : Distance) (ray : RayData) → W.admits (W.told x ray) ≡ W.admits ray
    pub mask_lt : (ray : RayData) (v : ℕ) → mask ray v < 2 ^ 32
    pub imask_lt : (v : ℕ) → v < W.shape.nodes → W.imask v < 256
    pub child_base_lt : (v : ℕ) → v < W.shape.nodes → W.shape.base v < 2 ^ 32
    -- bit b below 24 is the position b past the node's base
    pub position_bit : (ray : RayData) (n v b : ℕ) → W.forged ray ≡ false → v < W.shape.nodes → W.rule n v ≡ true → b < 24
        → is_set b (mask ray v) ≡ in_passed_slot W ray v (W.position_base v + b)
    -- bit 24 + k is the child in slot k XOR octant
    pub child_bit_lem : (ray : RayData) (n v k : ℕ) → W.forged ray ≡ false → v < W.shape.nodes → W.rule n v ≡ true → k < 8
        → is_set (24 + k) (mask ray v) ≡ passed_child W ray v (bit_xor k (W.octant ray))
