-- Internal: what the code that gathers asks and gives.
use Rattle.std.specs.Prelude.{◌≡◌, List, map, ℕ, ◌+◌, ◌*◌, ◌≤◌, length}
use Rattle.lists.specs.Splice.{splice}
use Rattle.bvh2.specs.Tree.{Tree, label_of}
use Rattle.bvh2.specs.Words.{tree_nodes, tree_at}
use Rattle.bvh2.specs.Decoded.{Subtree}
use Rattle.cost.specs.Table.{word_of}
use Rattle.cost.specs.Rows.{RowsHold}

-- the most edges that lie below a node: an accepted tree has at most 65536 leaves
abbrev pub most_edges : ℕ
most_edges = 65535

-- The subtree of node v. Nothing is cut off: what reads whole with any number of edges left is the same with these (law `tree_most`).
abbrev pub subtree_at : List ℕ → ℕ → Tree ℕ
subtree_at ws v = tree_at ws most_edges v

-- below node v, with e edges left, the words are an accepted tree's, and ds holds its decision words for some limit
pub record Tabled (ws ds : List ℕ) (e v : ℕ) : Type 0 where
  pub n : ℕ
  pub tree : Subtree ws n e v
  pub room : tree_nodes n * 7 ≤ length ds
  pub limit : ℕ
  pub holds : RowsHold (word_of limit) 0 ds (tree_at ws e v)

-- the numbers of some nodes stand from place `count` on, all other places as before, and r is the count after them
pub record Gathered (g : List (Tree ℕ)) (count : ℕ) (before after : List ℕ) (r : ℕ) : Type 0 where
  pub number : r ≡ count + length g
  pub written : after ≡ splice before count (map label_of g)
