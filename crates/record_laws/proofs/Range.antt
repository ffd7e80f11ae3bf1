-- The nodes of an accepted tree's record are values that a record's node can have.
use mathlib.Core.Logic.{◌⊎◌}
use mathlib.Core.Path.{◌≡◌}
use Prim.Native.Nat.{ℕ, ◌+◌, ◌^◌, ◌<◌, ◌≤◌}
use native.Mathlib.Omega.{arith}
use lib.Dec.{T}
use lib.Ieee.{Float, binary32, fits, to_bits}
use lib.Ieee.Bits.{to_bits-lt}
use Rattle.node.specs.Node.{NodeFits}
use Rattle.wide_layout.specs.Wide.{Slots, end, empty, leaf, inner, Wide}
use Rattle.wide_layout.specs.Sizes.{inner_children, nodes_below, own_count, count_below, children, SmallLeaves, Branching}
use Rattle.wide_layout.specs.Layout.{entries, EachEntry, nodes, index_count}
use Rattle.wide_layout.specs.Shape.{EntryInside, layout_entry}
use Rattle.wide_layout.proofs.Each.{each_append, node_has, node-number}
use Rattle.wide_layout.proofs.Sizes.{nodes_most}
use Rattle.wide_layout.proofs.Placed.{inside, small}
use Rattle.record.specs.Record.{node_of}
use Rattle.record.proofs.Children.{metas-length, boxes_length}
use Rattle.record_laws.specs.Writable.{NodeBox, NodeBoxes, Writable}

-- ---- what every node has
boxes_below : {w : ℕ} (s : Slots w) (l p k i c q : ℕ) → NodeBoxes s → EachEntry (λ e. NodeBox e.box) (entries s l p k i c q)
boxes_below end l p k i c q h = tt
boxes_below (empty s) l p k i c q h = boxes_below s l p (k + 1) i c q h
boxes_below (leaf b ps s) l p k i c q h = boxes_below s l p (k + 1) i c q h
boxes_below (inner b t s) l p k i c q h = (
  h.0,
  each_append (λ e. NodeBox e.box) (entries t (l + 1) i 0 c (c + inner_children t) (q + own_count t))
      (entries s l p (k + 1) (i + 1) (c + (inner_children t + nodes_below t)) (q + (own_count t + count_below t)))
      (boxes_below t (l + 1) i 0 c (c + inner_children t) (q + own_count t) h.1)
      (boxes_below s l p (k + 1) (i + 1) (c + (inner_children t + nodes_below t)) (q + (own_count t + count_below t)) h.2),
)

-- node v of an accepted tree's record
pub record Node (t : Wide) (v : ℕ) : Type 0 where
  pub number : (layout_entry t v).number ≡ v
  pub box : NodeBox (layout_entry t v).box
  pub small : SmallLeaves (layout_entry t v).slots
  pub inside : EntryInside (nodes t) (index_count t) (layout_entry t v)

pub node_of_lem : (t : Wide) → Writable t → (v : ℕ) → v < nodes t → Node t v
node_of_lem t h v l = record {
  number = node-number t v l;
  box = node_has (λ e. NodeBox e.box) t (
    h.root,
    boxes_below t.slots 1 0 0 1 (1 + inner_children t.slots) (0 + own_count t.slots)
        h.boxes,
  ) v l;
  small = node_has (λ e. SmallLeaves e.slots) t (small t h.leaves) v l;
  inside = node_has (EntryInside (nodes t) (index_count t)) t (inside t) v l;
}

word_lt : (x : Float) → T (fits binary32 x) → to_bits binary32 x < 2 ^ 32
word_lt x h = to_bits-lt binary32 x h

pub in_range_lem : (t : Wide) → Writable t → (v : ℕ) → v < nodes t → NodeFits (node_of (layout_entry t v))
unfolding node_of
in_range_lem t h v l =
    let e = layout_entry t v in
    let r = node_of_lem t h v l in
    let i = r.inside in record {
      px = word_lt e.box.min.x r.box.x;
      py = word_lt e.box.min.y r.box.y;
      pz = word_lt e.box.min.z r.box.z;
      child_base = omega (arith, i.nodes, h.nodes);
      primitive_base = omega (arith, i.positions, h.positions);
      metas = metas-length e.slots 0 0;
      slots = boxes_length e.box e.slots;
    }

-- With two children or more to each node below the root, and to the root unless it is the only node, the bound on nodes follows from that on
-- positions.
pub nodes_bound : (t : Wide) → SmallLeaves t.slots → Branching t.slots → (2 ≤ children t.slots) ⊎ (nodes t ≡ 1) → index_count t ≤ 65536
    → nodes t ≤ 65535
nodes_bound t h b c n = omega (arith, nodes_most t h b c)
