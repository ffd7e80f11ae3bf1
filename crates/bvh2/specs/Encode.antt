-- Internal: a labelled tree as words (01, "Words, bytes and bounds"): the node labelled v is written from word 7v on. proofs/Encode has that such
-- words decode to the tree again.
use Rattle.std.specs.Prelude.{◌≡◌, ℕ, ◌+◌, ◌*◌, ◌<◌, length, replicate, T}
use mathlib.Core.List.{List, Perm}
use Rattle.std.specs.Float.{binary32}
use Rattle.std.specs.Float.Ieee.{fits}
use Rattle.lists.specs.Counts.{upto}
use Rattle.lists.specs.Splice.{splice}
use Rattle.ray.specs.declared.Vec3.{Vec3}
use Rattle.bvh2.specs.Tree.{Tree, leaf, inner, label_of, box_of, labels}
use Rattle.bvh2.specs.Words.{boxed_words}

-- the link word of a tree's root: a leaf's position with kind 1, or the number of the left child
unfoldable pub link_word : Tree ℕ → ℕ
link_word (leaf v b p) = 0x4000_0000 + p
link_word (inner v b l r) = label_of l

-- the seven words of a tree's root
unfoldable pub node_words : Tree ℕ → List ℕ
node_words t = boxed_words (box_of t) (link_word t)

-- the words with each node of the tree written at its number
unfoldable pub store : List ℕ → Tree ℕ → List ℕ
store ws (leaf v b p) = splice ws (v * 7) (node_words (leaf v b p))
store ws (inner v b l r) = store (store (splice ws (v * 7) (node_words (inner v b l r))) l) r

unfoldable pub encode : Tree ℕ → List ℕ
encode t = store (replicate (length (labels t) * 7) 0) t

-- a coordinate that a word can hold
abbrev pub Fits : Vec3 → Type 0
Fits p = T (fits binary32 p.x) × T (fits binary32 p.y) × T (fits binary32 p.z)

-- the two children of a node have adjacent numbers, and numbers, positions and coordinates fit their words
unfoldable pub Adjacent : Tree ℕ → Type 0
Adjacent (leaf v b p) = (p < 0x4000_0000) × Fits b.min × Fits b.max
Adjacent (inner v b l r) = (label_of l < 0x4000_0000) × (label_of r ≡ label_of l + 1) × Fits b.min × Fits b.max × Adjacent l × Adjacent r

-- the tree can be written: its root is node 0, and its labels are 0, 1, .. in some order
pub record Numbered (t : Tree ℕ) : Type 0 where
  pub first : label_of t ≡ 0
  pub all : Perm (labels t) (upto 0 (length (labels t)))
  pub adjacent : Adjacent t
