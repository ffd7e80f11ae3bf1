-- The record of a wide tree as bytes (01, "Corners of each file", bvh2_to_cwbvh.rs; "Words, bytes and bounds").
use Rattle.std.specs.Prelude.{List, [], ◌∷◌, ◌++◌, ℕ, zero, suc, ◌+◌, ◌-◌, ◌*◌, ◌^◌, length}
use Rattle.std.specs.Float.{binary32}
use Rattle.std.specs.Float.Ieee.{to_bits}
use Rattle.aabb.specs.declared.Aabb.{Aabb}
use Rattle.quantization.specs.Exponent.{exponent_of}
use Rattle.quantization.specs.Ends.{child_min, child_max}
use Rattle.node.specs.declared.Slot.{Slot}
use Rattle.node.specs.declared.Node.{Node}
use Rattle.node.specs.Node.{no_slot, node_bytes}
use Rattle.wide_layout.specs.Wide.{Slots, end, empty, leaf, inner, Wide}
use Rattle.wide_layout.specs.Layout.{Entry, nodes}
use Rattle.wide_layout.specs.Shape.{layout_entry}

-- a leaf's meta byte: as many ones from bit 5 up as it has positions, and below them how many positions of the node stand before its own
abbrev pub leaf_meta : ℕ → ℕ → ℕ
leaf_meta count before = (2 ^ count - 1) * 32 + before

-- an inner child's meta byte in slot i
abbrev pub inner_meta : ℕ → ℕ
inner_meta i = 56 + i

-- the meta bytes of the slots from slot i on, with o of the node's positions before them; an empty slot's is 0
unfoldable pub metas : {w : ℕ} → Slots w → (i o : ℕ) → List ℕ
metas end i o = []
metas (empty s) i o = 0 ∷ metas s (i + 1) o
metas (leaf b ps s) i o = leaf_meta (length ps) o ∷ metas s (i + 1) (o + length ps)
metas (inner b t s) i o = inner_meta i ∷ metas s (i + 1) o

-- the mask with a one for each inner child from slot i on
unfoldable pub inner_mask : {w : ℕ} → Slots w → (i : ℕ) → ℕ
inner_mask end i = 0
inner_mask (empty s) i = inner_mask s (i + 1)
inner_mask (leaf b ps s) i = inner_mask s (i + 1)
inner_mask (inner b t s) i = 2 ^ i + inner_mask s (i + 1)

-- a child's box c as six bytes on the grid of its parent's box b
unfoldable pub grid_box : Aabb → Aabb → Slot
grid_box b c =
    let ex = exponent_of b.min.x b.max.x in
    let ey = exponent_of b.min.y b.max.y in
    let ez = exponent_of b.min.z b.max.z in record {
      min_x = child_min b.min.x ex c.min.x;
      min_y = child_min b.min.y ey c.min.y;
      min_z = child_min b.min.z ez c.min.z;
      max_x = child_max b.min.x ex c.max.x;
      max_y = child_max b.min.y ey c.max.y;
      max_z = child_max b.min.z ez c.max.z;
    }

-- the slots' boxes; an empty slot's bytes are 0
unfoldable pub grid_boxes : {w : ℕ} → Aabb → Slots w → List Slot
grid_boxes b end = []
grid_boxes b (empty s) = no_slot ∷ grid_boxes b s
grid_boxes b (leaf c ps s) = grid_box b c ∷ grid_boxes b s
grid_boxes b (inner c t s) = grid_box b c ∷ grid_boxes b s

-- the node of an entry: p is the box's lower corner, bit for bit
unfoldable pub node_of : Entry → Node
node_of e = record {
  px = to_bits binary32 e.box.min.x;
  py = to_bits binary32 e.box.min.y;
  pz = to_bits binary32 e.box.min.z;
  ex = exponent_of e.box.min.x e.box.max.x;
  ey = exponent_of e.box.min.y e.box.max.y;
  ez = exponent_of e.box.min.z e.box.max.z;
  imask = inner_mask e.slots 0;
  child_base_idx = e.child_base;
  primitive_base_idx = e.position_base;
  child_meta = metas e.slots 0 0;
  slots = grid_boxes e.box e.slots;
}

-- the lists of the first k numbers, one behind the other
unfoldable pub joined_below : {A : Type 0} → ℕ → (ℕ → List A) → List A
joined_below zero f = []
joined_below (suc k) f = joined_below k f ++ f k

-- the record: the nodes by their numbers, 80 bytes each
unfoldable pub record_bytes : Wide → List ℕ
record_bytes t = joined_below (nodes t) (λ i. node_bytes (node_of (layout_entry t i)))
