-- The boxes of an accepted tree's wide tree are accepted, and made of f32 values.
use mathlib.Core.Path.{◌≡◌, sym, subst}
use mathlib.Core.Bool.{Bool, true}
use mathlib.Core.List.{List}
use Prim.Native.Nat.{ℕ, zero, suc, ◌+◌}
use lib.Dec.{T}
use lib.Ieee.{binary32, fits}
use lib.Ieee.Bits.{of_bits-fits}
use Rattle.aabb.specs.declared.Aabb.{Aabb}
use Rattle.aabb.specs.Aabb.{accepted_box}
use Rattle.bvh2.specs.Tree.{Tree, leaf, inner, box_of}
use Rattle.bvh2.specs.Words.{Link, children, position, malformed, link_at, word_at, box_at, read_link, tree_of}
use Rattle.bvh2.specs.Decoded.{BoxesAccepted}
use Rattle.wide_layout.specs.Wide as W
use Rattle.wide_tree.specs.WideTree.{root_slots}
use Rattle.wide_tree.specs.Ordered.{placing}
use Rattle.wide_tree.proofs.Boxes.{EachBox, EachSlotBox, wide_boxes}
use Rattle.record_laws.specs.Writable.{NodeBox, NodeBoxes}

-- the lower corner is made of f32 values
record Floats (b : Aabb) : Type 0 where
  x : T (fits binary32 b.min.x)
  y : T (fits binary32 b.min.y)
  z : T (fits binary32 b.min.z)

at : (ws : List ℕ) (v : ℕ) → Floats (box_at ws v)
unfolding box_at
at ws v = record {
  x = of_bits-fits binary32 (word_at ws v 0);
  y = of_bits-fits binary32 (word_at ws v 1);
  z =
      of_bits-fits binary32 (word_at ws v 2);
}

read : (ws : List ℕ) (d v : ℕ) (l : Link) → EachBox Floats (read_link ws d v l)
unfolding read_link EachBox
read ws zero v (children f) = at ws v
read ws zero v (position p) = at ws v
read ws zero v malformed = at ws v
read ws (suc d) v (children f) = (at ws v, read ws d f (link_at ws f), read ws d (f + 1) (link_at ws (f + 1)))
read ws (suc d) v (position p) = at ws v
read ws (suc d) v malformed = at ws v

both : (b : Aabb) → accepted_box b ≡ true → Floats b → NodeBox b
both b e f = record { accepted = subst T (sym e) tt; x = f.x; y = f.y; z = f.z }

each : (t : Tree ℕ) → BoxesAccepted t → EachBox Floats t → EachBox NodeBox t
unfolding BoxesAccepted EachBox
each (leaf v b p) h f = both b h f
each (inner v b l r) h f = (both b h.0 f.0, each l h.1 f.1, each r h.2 f.2)

-- those of the nodes are among the children's
nodes : {w : ℕ} (s : W.Slots w) → EachSlotBox NodeBox s → NodeBoxes s
unfolding EachSlotBox
nodes W.end h = tt
nodes (W.empty s) h = nodes s h
nodes (W.leaf b ps s) h = nodes s h.1
nodes (W.inner b t s) h = (h.0, nodes t h.1, nodes s h.2)

pub node_boxes : (ws : List ℕ) (limit : ℕ) (ordered : Bool) → BoxesAccepted (tree_of ws) → NodeBox (box_of (tree_of ws))
    × NodeBoxes (root_slots (placing ordered) limit (tree_of ws))
node_boxes ws limit ordered h =
    let r = wide_boxes NodeBox (placing ordered) limit (tree_of ws) (each (tree_of ws) h (read ws 127 0 (link_at ws 0))) in
    (r.0, nodes (root_slots (placing ordered) limit (tree_of ws)) r.1)
