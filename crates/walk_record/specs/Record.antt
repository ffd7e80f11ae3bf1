-- What a walk reads of a record's nodes (01, "Walking"; "Words, bytes and bounds").
use Rattle.std.specs.Prelude.{Bool, false, not, List, ◌≡◌, ℕ, ◌^◌, ◌<◌}
use Rattle.node.specs.declared.Node.{Node}
use Rattle.node_rule.specs.Rule.{node_rule}
use Rattle.node_slot.specs.Mask.{hit_mask_of}
use Rattle.record_shape.specs.Record.{Nodes, nodes_at, shape_in}
use Rattle.walk.specs.Slots.{WalkRecord}
use Rattle.walk.specs.WordStep.{NodeWords}

-- How a walker's ray is read: `RayData` is what it holds of one, `Distance` what is told.
pub record Rays (RayData Distance : Type 0) : Type 0 where
  -- `passes r v b j`: the ray passes slot j of node v, which is b
  pub passes : RayData → ℕ → Node → ℕ → Bool
  -- a position's own test, which passes over those that fail; and a position that is not there, whose report is refused
  pub admits : RayData → ℕ → Bool
  pub absent : RayData → ℕ → Bool
  pub octant : RayData → ℕ
  pub told : Distance → RayData → RayData
  pub forged : RayData → Bool

-- an octant is one of eight, and telling changes it and the tests of positions as little as it makes a ray forged
pub record RayLaws {RayData Distance : Type 0} (R : Rays RayData Distance) : Type 0 where
  pub octant_lt : (r : RayData) → R.forged r ≡ false → R.octant r < 8
  pub octant_told : (x : Distance) (r : RayData) → R.octant (R.told x r) ≡ R.octant r
  pub admits_told : (x : Distance) (r : RayData) → R.admits (R.told x r) ≡ R.admits r
  pub told_accepted : (x : Distance) (r : RayData) → R.forged r ≡ false → R.forged (R.told x r) ≡ false

-- none of n positions is absent
abbrev pub AllPresent : {RayData Distance : Type 0} → Rays RayData Distance → ℕ → Type 0
AllPresent {RayData} R n = (r : RayData) (p : ℕ) → p < n → R.absent r p ≡ false

-- Each node's imask is a byte and its child_base_idx a word of 32 bits, as in any list of bytes.
pub record FieldsFitIn (N : Nodes) : Type 0 where
  pub imask : (v : ℕ) → v < N.count → (N.node v).imask < 256
  pub child_base : (v : ℕ) → v < N.count → (N.node v).child_base_idx < 2 ^ 32

module _ {RayData Distance : Type 0} (N : Nodes) (R : Rays RayData Distance) where
  -- which slots of which nodes the ray passes
  abbrev pub slot_test : RayData → ℕ → ℕ → Bool
  slot_test r v j = R.passes r v (N.node v) j

  -- the slots of a record of n positions
  abbrev pub slots_in : ℕ → WalkRecord RayData Distance
  slots_in n = record {
    shape = shape_in N n;
    imask = λ v. (N.node v).imask;
    position_base = λ v. (N.node v).primitive_base_idx;
    rule = λ k v. node_rule (N.node v) N.count k v;
    octant = R.octant;
    passes = slot_test;
    admits = R.admits;
    absent = R.absent;
    told = R.told;
    forged = R.forged;
  }

  -- the hit mask of node v
  abbrev pub mask_in : RayData → ℕ → ℕ
  mask_in r v = hit_mask_of (slot_test r v) (N.node v) (R.octant r)

  -- what a step in words reads
  abbrev pub node_words_in : NodeWords RayData Distance
  node_words_in = record {
    rule = λ k v. node_rule (N.node v) N.count k v;
    told = R.told;
    forged = R.forged;
    absent = R.absent;
    skips = λ r p. not (R.admits r p);
    octant = R.octant;
    mask = mask_in;
    imask = λ v. (N.node v).imask;
    child_base = λ v. (N.node v).child_base_idx;
    position_base = λ v. (N.node v).primitive_base_idx;
  }

-- ---- of a record's bytes

abbrev pub FieldsFit : List ℕ → Type 0
FieldsFit bytes = FieldsFitIn (nodes_at bytes)

abbrev pub slots_at : {RayData Distance : Type 0} → List ℕ → Rays RayData Distance → ℕ → WalkRecord RayData Distance
slots_at bytes R n = slots_in (nodes_at bytes) R n

abbrev pub node_words_at : {RayData Distance : Type 0} → List ℕ → Rays RayData Distance → NodeWords RayData Distance
node_words_at bytes R = node_words_in (nodes_at bytes) R
