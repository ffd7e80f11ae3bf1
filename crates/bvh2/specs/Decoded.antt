-- Internal: what the words of an accepted tree decode to (01, "Words, bytes and bounds"): proofs/Decoded has that a tree is accepted exactly if it
-- decodes so.
use Rattle.std.specs.Prelude.{◌≡◌, true, ℕ, ◌*◌, ◌<◌, ◌≤◌, length}
use mathlib.Core.List.{List, Perm}
use Rattle.lists.specs.Counts.{count, upto}
use Rattle.aabb.specs.Aabb.{accepted_box}
use Rattle.bvh2.specs.Tree.{Tree, leaf, inner, labels, positions}
use Rattle.bvh2.specs.Words.{tree_nodes, position, link_at, tree_at, tree_of}

-- each leaf of the tree is one of the words, with its position: nothing below it was left unread
unfoldable pub AllRead : List ℕ → Tree ℕ → Type 0
AllRead ws (leaf v b p) = link_at ws v ≡ position p
AllRead ws (inner v b l r) = AllRead ws l × AllRead ws r

-- each label is below m, and each position below n
unfoldable pub LabelsWithin : ℕ → ℕ → Tree ℕ → Type 0
LabelsWithin m n (leaf v b p) = (v < m) × (p < n)
LabelsWithin m n (inner v b l r) = (v < m) × LabelsWithin m n l × LabelsWithin m n r

-- cause 6 holds of no box
unfoldable pub BoxesAccepted : {A : Type 0} → Tree A → Type 0
BoxesAccepted (leaf v b p) = accepted_box b ≡ true
BoxesAccepted (inner v b l r) = (accepted_box b ≡ true) × BoxesAccepted l × BoxesAccepted r

-- the node numbers are each of 0 .. 2n − 2 once, and the positions each of 0 .. n − 1 once
pub record Decoded (ws : List ℕ) (n : ℕ) : Type 0 where
  pub fit : length ws ≡ tree_nodes n * 7
  pub few : n ≤ 65536
  pub whole : AllRead ws (tree_of ws)
  pub nodes : Perm (labels (tree_of ws)) (upto 0 (tree_nodes n))
  pub held : Perm (positions (tree_of ws)) (upto 0 n)
  pub boxes : BoxesAccepted (tree_of ws)

-- what code that goes down an accepted tree knows at node v, with d edges left below it
pub record Subtree (ws : List ℕ) (n d v : ℕ) : Type 0 where
  pub fit : length ws ≡ tree_nodes n * 7
  pub few : n ≤ 65536
  pub whole : AllRead ws (tree_at ws d v)
  pub within : LabelsWithin (tree_nodes n) n (tree_at ws d v)
  pub distinct : (x : ℕ) → count x (labels (tree_at ws d v)) ≤ 1
  pub boxes : BoxesAccepted (tree_at ws d v)
