-- A record's node of 80 bytes, as a value (01, "Words, bytes and bounds").
use Rattle.std.specs.Prelude.{List, [], ◌∷◌, ◌++◌, ◌≡◌, ℕ, zero, suc, ◌+◌, ◌*◌, ◌/◌, ◌%◌, ◌^◌, ◌<◌, length, get_or, set, replicate}
use Rattle.words.specs.Le.{le_at, sum_of}
use Rattle.words.specs.Fields.{field}
use Rattle.words.specs.Ones.{ones_below}
use Rattle.node.specs.Bytes.{bytes}
use Rattle.node.specs.declared.Slot.{Slot}
use Rattle.node.specs.declared.Node.{Node}

-- the offset in a node of a slot's byte: axis 0, 1, 2 for x, y, z, and end 0 for min, 1 for max
unfoldable pub slot_offset : ℕ → ℕ → ℕ → ℕ
slot_offset axis end slot = 32 + 16 * axis + 8 * end + slot

-- the values at 0 to 7
abbrev pub eight : {A : Type 0} → (ℕ → A) → List A
eight f = f 0 ∷ f 1 ∷ f 2 ∷ f 3 ∷ f 4 ∷ f 5 ∷ f 6 ∷ f 7 ∷ []

-- ---- from bytes
-- slot i of the node whose first byte is at o
unfoldable pub slot_from : List ℕ → ℕ → ℕ → Slot
unfolding slot_offset
slot_from b o i = record {
  min_x = get_or b (o + slot_offset 0 0 i) 0;
  min_y = get_or b (o + slot_offset 1 0 i) 0;
  min_z = get_or b (o + slot_offset 2 0 i) 0;
  max_x = get_or b (o + slot_offset 0 1 i) 0;
  max_y = get_or b (o + slot_offset 1 1 i) 0;
  max_z = get_or b (o + slot_offset 2 1 i) 0;
}

-- the node whose first byte is at o
unfoldable pub node_from : List ℕ → ℕ → Node
unfolding le_at slot_from
node_from b o = record {
  px = le_at 4 b o;
  py = le_at 4 b (o + 4);
  pz = le_at 4 b (o + 8);
  ex = get_or b (o + 12) 0;
  ey = get_or b (o + 13) 0;
  ez = get_or b (o + 14) 0;
  imask = get_or b (o + 15) 0;
  child_base_idx = le_at 4 b (o + 16);
  primitive_base_idx = le_at 4 b (o + 20);
  child_meta = eight (λ i. get_or b (o + 24 + i) 0);
  slots = eight (slot_from b o);
}

-- node i of a record
abbrev pub node_at : List ℕ → ℕ → Node
node_at b i = node_from b (80 * i)

-- the eight metas as a 64-bit word, the first in its low byte
unfoldable pub meta_word : Node → ℕ
unfolding sum_of
meta_word n = sum_of 8 8 (λ i. get_or n.child_meta i 0)

-- a word with those bytes
pub record MetaWord (n : Node) (w : ℕ) : Type 0 where
  pub value : w ≡ meta_word n
  pub bytes : (i : ℕ) → i < 8 → field 8 i w ≡ get_or n.child_meta i 0

-- ---- what a node says of a slot
-- bit i of imask: 1 if slot i holds a node
abbrev pub inner_bit : ℕ → ℕ → ℕ
inner_bit imask i = imask / 2 ^ i % 2

-- how many positions a leaf code holds: as many as its three high bits have ones
abbrev pub code_count : ℕ → ℕ
code_count meta = ones_below 3 (meta / 32)

-- the number of the node in a slot: the rank of the slot among the ones of imask, from the first child on
unfoldable pub child_index : ℕ → ℕ → ℕ → ℕ
unfolding ones_below
child_index base imask slot = base + ones_below slot imask

-- ---- to bytes
abbrev pub no_slot : Slot
no_slot = record { min_x = 0; min_y = 0; min_z = 0; max_x = 0; max_y = 0; max_z = 0 }

-- the first 32 bytes
unfoldable pub head_bytes : Node → List ℕ
head_bytes n =
    bytes 4 n.px ++ (bytes 4 n.py ++ (bytes 4 n.pz ++ ((n.ex ∷ n.ey ∷ n.ez ∷ n.imask ∷ [])
    ++ (bytes 4 n.child_base_idx ++ (bytes 4 n.primitive_base_idx ++ eight (λ i. get_or n.child_meta i 0))))))

-- the list with slot i's six bytes at their offsets from o
unfoldable pub put_slot : List ℕ → ℕ → ℕ → Slot → List ℕ
unfolding slot_offset
put_slot b o i t =
    set (set (set (set (set (set b
    (o + slot_offset 0 0 i) t.min_x) (o + slot_offset 1 0 i) t.min_y) (o + slot_offset 2 0 i) t.min_z)
    (o + slot_offset 0 1 i) t.max_x) (o + slot_offset 1 1 i) t.max_y) (o + slot_offset 2 1 i) t.max_z

-- the same for the first k slots
unfoldable pub put_slots : ℕ → List ℕ → ℕ → List Slot → List ℕ
unfolding put_slot
put_slots zero b o t = b
put_slots (suc k) b o t = put_slot (put_slots k b o t) o k (get_or t k no_slot)

-- the 80 bytes of a node
unfoldable pub node_bytes : Node → List ℕ
unfolding head_bytes put_slots
node_bytes n = put_slots 8 (head_bytes n ++ replicate 48 0) 0 n.slots

-- a value that a node can have: words of 32 digits, and eight slots
pub record NodeFits (n : Node) : Type 0 where
  pub px : n.px < 2 ^ 32
  pub py : n.py < 2 ^ 32
  pub pz : n.pz < 2 ^ 32
  pub child_base : n.child_base_idx < 2 ^ 32
  pub primitive_base : n.primitive_base_idx < 2 ^ 32
  pub metas : length n.child_meta ≡ 8
  pub slots : length n.slots ≡ 8
