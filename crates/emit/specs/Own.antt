-- Internal: a node's own slots, worked through one after another (01, "Corners of each file", bvh2_to_cwbvh.rs): meta bytes, boxes on the grid, the
-- mask of inner children, and the index words of the leaf children, in slot order.
use Rattle.std.specs.Prelude.{Bool, true, false, List, ◌≡◌, ℕ, zero, suc, ◌+◌, ◌-◌, ◌*◌, ◌/◌, ◌^◌, ◌<◌, ◌≤◌, eqb, length, get_or, set, replicate}
use Rattle.std.specs.Float.{binary32}
use Rattle.std.specs.Float.Ieee.{to_bits}
use Rattle.lists.specs.Splice.{splice}
use Rattle.aabb.specs.declared.Aabb.{Aabb}
use Rattle.quantization.specs.Exponent.{exponent_of}
use Rattle.bvh2.specs.Tree.{Tree, leaves, positions}
use Rattle.bvh2.specs.Words.{box_at, tree_at}
use Rattle.bvh2.specs.Decoded.{Subtree}
use Rattle.node.specs.Node.{no_slot}
use Rattle.record.specs.Record.{leaf_meta, inner_meta, grid_box}
use Rattle.node.specs.declared.Slot.{Slot}
use Rattle.node.specs.declared.Node.{Node}
use Rattle.wide_layout.specs.Wide.{Slots}
use Rattle.wide_layout.specs.Content.{Content, leaf_child, inner_child}
use Rattle.wide_layout.specs.Content as C
use Rattle.emit.specs.declared.Held.{Held}
use Rattle.emit.specs.declared.Built.{Built}
use Rattle.lists.specs.At.{words_at}

-- what a slot's word says: no child, a child that becomes a leaf, or one that becomes a node
pub data Cell : Type 0 where
  none : Cell
  as_leaf : Aabb → Tree ℕ → Cell
  as_node : Aabb → Cell

-- no child, or by the kind: 0 is LEAF
abbrev pub cell_by : Bool → ℕ → Aabb → Tree ℕ → Cell
cell_by true kind b t = none
cell_by false zero b t = as_leaf b t
cell_by false (suc kind) b t = as_node b

-- the child is node v, of which entry 0's kind decides; its subtree has at most `depth` edges below it
unfoldable pub cell_of : List ℕ → List ℕ → ℕ → ℕ → Cell
cell_of ws decisions depth v = cell_by (eqb v 0xffff_ffff) (get_or decisions (v * 7) 0 / 0x4000_0000) (box_at ws v) (tree_at ws depth v)

-- what slot i of a node of box b holds, whose own positions start at `start` and are written up to `at`
unfoldable pub held_in : Aabb → (start i at : ℕ) → Cell → Held
held_in b start i at none = record { meta = 0; corners = no_slot; bit = 0; inner = 0; at = at }
held_in b start i at (as_leaf c t) =
    record { meta = leaf_meta (leaves t) (at - start); corners = grid_box b c; bit = 0; inner = 0; at = at + leaves t }
held_in b start i at (as_node c) = record { meta = inner_meta i; corners = grid_box b c; bit = 2 ^ i; inner = 1; at = at }

-- the index list with a leaf child's words from `at` on
unfoldable pub leaf_words_in : List ℕ → ℕ → Cell → List ℕ → List ℕ
leaf_words_in indices at none list = list
leaf_words_in indices at (as_leaf c t) list = splice list at (words_at indices (positions t))
leaf_words_in indices at (as_node c) list = list

-- a node's own slots so far: meta bytes, boxes on the grid, the mask of inner children and how many they are, and the next free position
pub record Own : Type 0 where
  pub metas : List ℕ
  pub boxes : List Slot
  pub imask : ℕ
  pub inner : ℕ
  pub at : ℕ

-- nothing yet
abbrev pub begin : ℕ → Own
begin at = record { metas = replicate 8 0; boxes = replicate 8 no_slot; imask = 0; inner = 0; at = at }

-- slot i more
abbrev pub with_held : ℕ → Held → Own → Own
with_held i h o = record {
  metas = set o.metas i h.meta;
  boxes = set o.boxes i h.corners;
  imask = o.imask + h.bit;
  inner = o.inner + h.inner;
  at = h.at;
}

-- the slots so far, and the index list
pub record OwnState : Type 0 where
  pub own : Own
  pub list : List ℕ

abbrev pub made : Own → List ℕ → OwnState
made o l = record { own = o; list = l }

unfoldable pub with_child : List ℕ → Aabb → (start i : ℕ) → Cell → OwnState → OwnState
unfolding held_in leaf_words_in
with_child indices b start i c s = made (with_held i (held_in b start i s.own.at c) s.own) (leaf_words_in indices s.own.at c s.list)

-- the first k slots
unfoldable pub first_slots : List ℕ → Aabb → ℕ → (ℕ → Cell) → ℕ → List ℕ → OwnState
unfolding with_child
first_slots indices b start cell zero list = made (begin start) list
first_slots indices b start cell (suc k) list = with_child indices b start k (cell k) (first_slots indices b start cell k list)

-- what working on a slot asks: a child is a subtree, and a leaf's words have room
unfoldable pub CellReady : ℕ → ℕ → ℕ → Cell → Type 0
CellReady m start at none = Unit {0}
CellReady m start at (as_leaf c t) = (at + leaves t ≤ m) × (start ≤ at) × (at - start ≤ 21) × (1 ≤ leaves t) × (leaves t ≤ 3)
CellReady m start at (as_node c) = Unit {0}

pub record SlotReady (ws decisions : List ℕ) (n m depth v start at : ℕ) : Type 0 where
  pub tree : (v ≡ 0xffff_ffff → ⊥) → Subtree ws n depth v
  pub decided : (v ≡ 0xffff_ffff → ⊥) → v * 7 < length decisions
  pub cell : CellReady m start at (cell_of ws decisions depth v)

pub record OwnReady (ws decisions indices slots : List ℕ) (b : Aabb) (m depth start : ℕ) (list : List ℕ) : Type 0 where
  pub each : (k : ℕ) → k < 8 → SlotReady ws decisions (length indices) m depth (get_or slots k 0) start
      (first_slots indices b start (λ j. cell_of ws decisions depth (get_or slots j 0)) k list).own.at

-- all eight slots of binary node v
abbrev pub all_slots : (ws decisions indices slots : List ℕ) → (v start depth : ℕ) → List ℕ → OwnState
all_slots ws decisions indices slots v start depth list =
    first_slots indices (box_at ws v) start (λ j. cell_of ws decisions depth (get_or slots j 0)) 8 list

-- the node of those slots: p is the box's lower corner, bit for bit
abbrev pub node_built : List ℕ → (v count start : ℕ) → Own → Node
node_built ws v count start o = record {
  px = to_bits binary32 (box_at ws v).min.x;
  py = to_bits binary32 (box_at ws v).min.y;
  pz = to_bits binary32 (box_at ws v).min.z;
  ex = exponent_of (box_at ws v).min.x (box_at ws v).max.x;
  ey = exponent_of (box_at ws v).min.y (box_at ws v).max.y;
  ez = exponent_of (box_at ws v).min.z (box_at ws v).max.z;
  imask = o.imask;
  child_base_idx = count;
  primitive_base_idx = start;
  child_meta = o.metas;
  slots = o.boxes;
}

pub record BuiltAs (ws : List ℕ) (v count start : ℕ) (s : OwnState) (r : Built) (l : List ℕ) : Type 0 where
  pub node : r.node ≡ node_built ws v count start s.own
  pub inner : r.inner ≡ s.own.inner
  pub at : r.at ≡ s.own.at
  pub list : l ≡ s.list

-- what a slot's word says is what stands in a wide node's slot
unfoldable pub Matches : Cell → Content → Type 0
Matches none d = d ≡ C.none
Matches (as_leaf b t) d = d ≡ leaf_child b (positions t)
Matches (as_node b) d = (s : Slots 8) × (d ≡ inner_child b s)
