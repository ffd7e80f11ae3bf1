-- Each member of a converted record is a byte.
use mathlib.Core.List.{List, [], ◌∷◌, ◌++◌}
use mathlib.Core.Path.{◌≡◌, ap}
use Prim.Native.Nat.{ℕ, zero, suc, ◌+◌, ◌*◌, ◌/◌, ◌^◌, ◌≤◌, ◌<◌}
use native.Mathlib.Nat.{pow-suc}
use native.Mathlib.Numerals.{add-one}
use native.Mathlib.Omega.{arith}
use lib.ListN.{length, get_or, set, replicate}
use Rattle.aabb.specs.declared.Aabb.{Aabb}
use Rattle.quantization.proofs.Ends.{child_min_limit, child_max_limit}
use Rattle.quantization.proofs.Exponent.{box_in_range}
use Rattle.node.specs.declared.Slot.{Slot}
use Rattle.node.specs.declared.Node.{Node}
use Rattle.node.specs.Bytes.{bytes}
use Rattle.node.specs.Node.{slot_offset, eight, no_slot, head_bytes, put_slot, put_slots, node_bytes}
use Rattle.wide_layout.specs.Wide.{Slots, end, empty, leaf, inner, Wide}
use Rattle.wide_layout.specs.Sizes.{SmallLeaves}
use Rattle.wide_layout.specs.Layout.{Entry, nodes}
use Rattle.wide_layout.specs.Shape as shape
use Rattle.record.specs.Record.{leaf_meta, metas, inner_mask, grid_box, grid_boxes, node_of, joined_below, record_bytes}
use Rattle.record_laws.specs.Writable.{NodeBox, Writable}
use Rattle.record_laws.proofs.Range.{node_of_lem}

-- ---- lists of bytes

abbrev Bytes : List ℕ → Type 0
Bytes [] = Unit {0}
Bytes (x ∷ l) = (x < 256) × Bytes l

byte_at : (l : List ℕ) → Bytes l → (i : ℕ) → get_or l i 0 < 256
byte_at [] h i = omega arith
byte_at (x ∷ l) h zero = h.0
byte_at (x ∷ l) h (suc i) = byte_at l h.1 i

bytes-append : (a b : List ℕ) → Bytes a → Bytes b → Bytes (a ++ b)
bytes-append [] b h k = k
bytes-append (x ∷ a) b h k = (h.0, bytes-append a b h.1 k)

bytes-set : (l : List ℕ) (i v : ℕ) → v < 256 → Bytes l → Bytes (set l i v)
bytes-set [] i v h k = tt
bytes-set (x ∷ l) zero v h k = (h, k.1)
bytes-set (x ∷ l) (suc i) v h k = (k.0, bytes-set l i v h k.1)

zeros : (n : ℕ) → Bytes (replicate n 0)
zeros zero = tt
zeros (suc n) = (omega arith, zeros n)

bytes_of : (n v : ℕ) → Bytes (bytes n v)
bytes_of zero v = tt
bytes_of (suc n) v = (omega arith, bytes_of n (v / 256))

-- ---- a node's bytes

record ByteSlot (t : Slot) : Type 0 where
  pub low_x : t.min_x < 256
  pub low_y : t.min_y < 256
  pub low_z : t.min_z < 256
  pub high_x : t.max_x < 256
  pub high_y : t.max_y < 256
  pub high_z : t.max_z < 256

no_slot_lem : ByteSlot no_slot
no_slot_lem = record {
  low_x = omega arith;
  low_y = omega arith;
  low_z = omega arith;
  high_x = omega arith;
  high_y = omega arith;
  high_z =
      omega arith;
}

put_slot_lem : (b : List ℕ) (o i : ℕ) (t : Slot) → ByteSlot t → Bytes b → Bytes (put_slot b o i t)
unfolding put_slot
put_slot_lem b o i t h k =
    let b1 : List ℕ = set b (o + slot_offset 0 0 i) t.min_x in
    let b2 : List ℕ = set b1 (o + slot_offset 1 0 i) t.min_y in
    let b3 : List ℕ = set b2 (o + slot_offset 2 0 i) t.min_z in
    let b4 : List ℕ = set b3 (o + slot_offset 0 1 i) t.max_x in
    let b5 : List ℕ = set b4 (o + slot_offset 1 1 i) t.max_y in
    bytes-set b5 (o + slot_offset 2 1 i) t.max_z h.high_z
    (bytes-set b4 (o + slot_offset 1 1 i) t.max_y h.high_y
    (bytes-set b3 (o + slot_offset 0 1 i) t.max_x h.high_x
    (bytes-set b2 (o + slot_offset 2 0 i) t.min_z h.low_z
    (bytes-set b1 (o + slot_offset 1 0 i) t.min_y h.low_y
    (bytes-set b (o + slot_offset 0 0 i) t.min_x h.low_x k)))))

put_slots_lem : (k : ℕ) (b : List ℕ) (o : ℕ) (t : List Slot) → ((i : ℕ) → ByteSlot (get_or t i no_slot)) → Bytes b → Bytes (put_slots k b o t)
unfolding put_slots
put_slots_lem zero b o t h e = e
put_slots_lem (suc k) b o t h e = put_slot_lem (put_slots k b o t) o k (get_or t k no_slot) (h k) (put_slots_lem k b o t h e)

-- what a node's bytes are made of, apart from words
record ByteNode (n : Node) : Type 0 where
  pub ex : n.ex < 256
  pub ey : n.ey < 256
  pub ez : n.ez < 256
  pub imask : n.imask < 256
  pub metas : (i : ℕ) → get_or n.child_meta i 0 < 256
  pub slots : (i : ℕ) → ByteSlot (get_or n.slots i no_slot)

node-bytes : (n : Node) → ByteNode n → Bytes (node_bytes n)
unfolding node_bytes head_bytes
node-bytes n h =
    let a : List ℕ = eight (λ i. get_or n.child_meta i 0) in
    let b : List ℕ = bytes 4 n.primitive_base_idx ++ a in
    let c : List ℕ = bytes 4 n.child_base_idx ++ b in
    let d : List ℕ = (n.ex ∷ n.ey ∷ n.ez ∷ n.imask ∷ []) ++ c in
    let e : List ℕ = bytes 4 n.pz ++ d in
    let a_bytes : Bytes a = (h.metas 0, (h.metas 1, (h.metas 2, (h.metas 3, (h.metas 4, (h.metas 5, (h.metas 6, (h.metas 7, tt)))))))) in
    let d_bytes : Bytes d = (h.ex, (h.ey, (h.ez, (h.imask, word n.child_base_idx b (word n.primitive_base_idx a a_bytes))))) in
    put_slots_lem 8 (head_bytes n ++ replicate 48 0) 0 n.slots h.slots
    (bytes-append (head_bytes n) (replicate 48 0) (word n.px (bytes 4 n.py ++ e) (word n.py e (word n.pz d d_bytes))) (zeros 48))
  where
    word : (v : ℕ) (l : List ℕ) → Bytes l → Bytes (bytes 4 v ++ l)
    word v l k = bytes-append (bytes 4 v) l (bytes_of 4 v) k

-- ---- a converted record's nodes

-- the mask's ones from slot i on
twice : (i : ℕ) → 2 ^ (i + 1) ≡ 2 ^ i + 2 ^ i
twice i = rw (add-one i, pow-suc 2 i) (omega arith)

moved : (i w : ℕ) → 2 ^ (i + suc w) ≡ 2 ^ (i + 1 + w)
moved i w = ap (λ (k : ℕ). 2 ^ k) (omega arith)

mask_lt : (w : ℕ) (s : Slots w) (i : ℕ) → inner_mask s i + 2 ^ i ≤ 2 ^ (i + w)
unfolding inner_mask
mask_lt zero end i = let e : 2 ^ (i + 0) ≡ 2 ^ i = ap (λ (k : ℕ). 2 ^ k) (omega arith) in omega (arith, e)
mask_lt (suc w) (empty s) i = omega (arith, moved i w, mask_lt w s (i + 1), twice i)
mask_lt (suc w) (leaf b ps s) i = omega (arith, moved i w, mask_lt w s (i + 1), twice i)
mask_lt (suc w) (inner b t s) i = omega (arith, moved i w, mask_lt w s (i + 1), twice i)

leaf_meta_lt : (count before : ℕ) → count ≤ 3 → before < 32 → leaf_meta count before < 256
leaf_meta_lt zero o h l = omega arith
leaf_meta_lt (suc zero) o h l = omega arith
leaf_meta_lt (suc (suc zero)) o h l = omega arith
leaf_meta_lt (suc (suc (suc zero))) o h l = omega arith
leaf_meta_lt (suc (suc (suc (suc k)))) o h l = absurd (omega arith)

-- before slot i at most three positions to a slot
metas-bytes : (w : ℕ) (s : Slots w) (i o : ℕ) → SmallLeaves s → i + w ≤ 8 → o ≤ 3 * i → Bytes (metas s i o)
unfolding metas
metas-bytes zero end i o h k l = tt
metas-bytes (suc w) (empty s) i o h k l = (omega arith, metas-bytes w s (i + 1) o h (omega arith) (omega arith))
metas-bytes (suc w) (leaf b ps s) i o h k l =
    (leaf_meta_lt (length ps) o h.1 (omega arith), metas-bytes w s (i + 1) (o + length ps) h.2 (omega arith) (omega (arith, h.1)))
metas-bytes (suc w) (inner b t s) i o h k l = (omega arith, metas-bytes w s (i + 1) o h.1 (omega arith) (omega arith))

grid_bytes : (b c : Aabb) → ByteSlot (grid_box b c)
unfolding grid_box
grid_bytes b c =
    record {
      low_x = byte (child_min_limit _ _ _);
      low_y = byte (child_min_limit _ _ _);
      low_z = byte (child_min_limit _ _ _);
      high_x = byte (child_max_limit _ _ _);
      high_y = byte (child_max_limit _ _ _);
      high_z = byte (child_max_limit _ _ _);
    }
  where
    byte : {x : ℕ} → x ≤ 255 → x < 256
    byte h = omega arith

boxes_bytes : (w : ℕ) (b : Aabb) (s : Slots w) (i : ℕ) → ByteSlot (get_or (grid_boxes b s) i no_slot)
unfolding grid_boxes
boxes_bytes zero b end i = no_slot_lem
boxes_bytes (suc w) b (empty s) zero = no_slot_lem
boxes_bytes (suc w) b (empty s) (suc i) = boxes_bytes w b s i
boxes_bytes (suc w) b (leaf c ps s) zero = grid_bytes b c
boxes_bytes (suc w) b (leaf c ps s) (suc i) = boxes_bytes w b s i
boxes_bytes (suc w) b (inner c t s) zero = grid_bytes b c
boxes_bytes (suc w) b (inner c t s) (suc i) = boxes_bytes w b s i

entry-bytes : (e : Entry) → NodeBox e.box → SmallLeaves e.slots → Bytes (node_bytes (node_of e))
unfolding node_of
entry-bytes e b s =
    let r = box_in_range e.box b.accepted in
    node-bytes (node_of e) (record {
      ex = omega (arith, r.x.1);
      ey = omega (arith, r.y.1);
      ez = omega (arith, r.z.1);
      imask = omega (arith, mask_lt 8 e.slots 0);
      metas = byte_at (metas e.slots 0 0) (metas-bytes 8 e.slots 0 0 s (omega arith) (omega arith));
      slots = boxes_bytes 8 e.box e.slots;
    })

joined_bytes : (k : ℕ) (f : ℕ → List ℕ) → ((i : ℕ) → i < k → Bytes (f i)) → Bytes (joined_below k f)
unfolding joined_below
joined_bytes zero f h = tt
joined_bytes (suc k) f h = bytes-append (joined_below k f) (f k) (joined_bytes k f (λ i l. h i (omega arith))) (h k (omega arith))

pub record-bytes : (t : Wide) → Writable t → (i : ℕ) → get_or (record_bytes t) i 0 < 256
unfolding record_bytes
record-bytes t h =
    byte_at (record_bytes t)
    (joined_bytes (nodes t) (λ i. node_bytes (node_of (shape.layout_entry t i)))
    (λ i l. let r = node_of_lem t h i l in entry-bytes (shape.layout_entry t i) r.box r.small))
