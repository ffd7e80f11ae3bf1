-- Internal: the index words of a subtree's leaves (01, "Corners of each file", bvh2_to_cwbvh.rs: count_primitives).
use Rattle.std.specs.Prelude.{◌≡◌, List, ℕ, ◌+◌, ◌≤◌}
use Rattle.lists.specs.Splice.{splice}
use Rattle.bvh2.specs.Tree.{Tree, leaves, positions}
use Rattle.bvh2.specs.Words.{tree_at}
use Rattle.bvh2.specs.Decoded.{Subtree}
use Rattle.lists.specs.At.{words_at}

-- the words are an accepted tree's of n leaves, and a list of m words has room for the leaves of node v from `at` on
pub record LeavesReady (ws : List ℕ) (n m at depth v : ℕ) : Type 0 where
  pub tree : Subtree ws n depth v
  pub room : at + leaves (tree_at ws depth v) ≤ m

-- the index words of a tree's leaves stand from `at` on, and r is the place behind them
pub record LeavesWritten (indices : List ℕ) (t : Tree ℕ) (at r : ℕ) (before after : List ℕ) : Type 0 where
  pub next : r ≡ at + leaves t
  pub list : after ≡ splice before at (words_at indices (positions t))
