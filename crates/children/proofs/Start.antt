-- The tables that `cost` fills are those that gathering asks for.
use mathlib.Core.List.{List}
use Prim.Native.Nat.{ℕ}
use native.Mathlib.Omega.{arith}
use lib.ListN.{length}
use Rattle.bvh2.specs.Words.{tree_nodes, tree_at}
use Rattle.cost.specs.Table.{word_of}
use Rattle.cost.specs.Rows.{fill, RowsHold, RowsReady}
use Rattle.cost.proofs.Fill.{length-fill, inside}
use Rattle.children.specs.Tabled.{most_edges, Tabled}
use Rattle.children.proofs.Deeper.{tree_most, subtree_most}

-- every row holds its words
pub filled_holds : {ws : List ℕ} {c e v : ℕ} (limit : ℕ) (ds : List ℕ) → RowsReady ws (length ds) c e v
    → RowsHold (word_of limit) 0 (fill (word_of limit) (tree_at ws e v) ds) (tree_at ws e v)
filled_holds {ws} {e = e} {v = v} limit ds h =
    inside (word_of limit) (tree_at ws e v) ds 0 (tree_nodes h.n) h.n h.tree.distinct h.tree.within h.decisions

pub filled-tabled : {ws : List ℕ} {c e v : ℕ} (limit : ℕ) (ds : List ℕ) → RowsReady ws (length ds) c e v
    → Tabled ws (fill (word_of limit) (tree_at ws e v) ds) e v
filled-tabled {ws} {e = e} {v = v} limit ds h = record {
  n = h.n;
  tree = h.tree;
  room = omega (arith, length-fill (word_of limit) (tree_at ws e v) ds, h.decisions);
  limit = limit;
  holds = filled_holds limit ds h;
}

-- and with the most edges
pub tabled_most : {ws ds : List ℕ} {d v : ℕ} → Tabled ws ds d v → Tabled ws ds most_edges v
tabled_most h = record { n = h.n; tree = subtree_most h.tree; room = h.room; limit = h.limit; holds = rw (tree_most h.tree) h.holds }
