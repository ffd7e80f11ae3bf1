-- A binary tree in words (01, "Words, bytes and bounds"): seven to a node, six f32 patterns for its box and a link word.
use Rattle.std.specs.Prelude.{List, [], ◌∷◌, ℕ, zero, suc, ◌+◌, ◌-◌, ◌*◌, ◌/◌, ◌%◌, get_or, Float}
use Rattle.std.specs.Float.{binary32}
use Rattle.std.specs.Float.Ieee.{of_bits, to_bits}
use Rattle.ray.specs.declared.Vec3.{Vec3}
use Rattle.aabb.specs.declared.Aabb.{Aabb}
use Rattle.bvh2.specs.Tree.{Tree, leaf, inner}

-- how many nodes n leaves make: 2n − 1, and none for n = 0
abbrev pub tree_nodes : ℕ → ℕ
tree_nodes n = 2 * n - 1

-- what a link word says, by the kind in its two high bits: where a pair of children begins, or which position a leaf holds
pub data Link : Type 0 where
  children : ℕ → Link
  position : ℕ → Link
  malformed : Link

unfoldable pub link_of : ℕ → Link
link_of w = elim (w / 0x4000_0000) [ zero ↦ children (w % 0x4000_0000) | suc zero ↦ position (w % 0x4000_0000) | suc (suc k) ↦ malformed ]

-- word i of node v
abbrev pub word_at : List ℕ → ℕ → ℕ → ℕ
word_at ws v i = get_or ws (v * 7 + i) 0

abbrev pub link_at : List ℕ → ℕ → Link
link_at ws v = link_of (word_at ws v 6)

abbrev pub float_at : List ℕ → ℕ → ℕ → Float
float_at ws v i = of_bits binary32 (word_at ws v i)

-- the box of node v: min x, y, z, then max x, y, z
unfoldable pub box_at : List ℕ → ℕ → Aabb
box_at ws v = record {
  min = record { x = float_at ws v 0; y = float_at ws v 1; z = float_at ws v 2 };
  max = record { x = float_at ws v 3; y = float_at ws v 4; z = float_at ws v 5 };
}

-- the words of a corner, before further words, and the seven of a node, by its box and its link word
abbrev pub corner_words : Vec3 → List ℕ → List ℕ
corner_words p rest = to_bits binary32 p.x ∷ to_bits binary32 p.y ∷ to_bits binary32 p.z ∷ rest

abbrev pub boxed_words : Aabb → ℕ → List ℕ
boxed_words b link = corner_words b.min (corner_words b.max (link ∷ []))

-- The tree below node v, read down to a depth and labelled by node numbers. Below that depth, and at a malformed link, a node reads as a leaf
-- at position 0: an accepted tree has neither.
unfoldable pub read_link : List ℕ → ℕ → ℕ → Link → Tree ℕ
read_link ws zero v (children f) = leaf v (box_at ws v) 0
read_link ws zero v (position p) = leaf v (box_at ws v) p
read_link ws zero v malformed = leaf v (box_at ws v) 0
read_link ws (suc d) v (children f) =
    let l : Tree ℕ = read_link ws d f (link_at ws f) in
    let r : Tree ℕ = read_link ws d (f + 1) (link_at ws (f + 1)) in
    inner v (box_at ws v) l r
read_link ws (suc d) v (position p) = leaf v (box_at ws v) p
read_link ws (suc d) v malformed = leaf v (box_at ws v) 0

abbrev pub tree_at : List ℕ → ℕ → ℕ → Tree ℕ
tree_at ws d v = read_link ws d v (link_at ws v)

-- the tree of the words: the root is node 0, and paths have at most 127 edges
abbrev pub tree_of : List ℕ → Tree ℕ
tree_of ws = tree_at ws 127 0
