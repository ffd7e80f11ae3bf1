-- Going down a tree whose decision words stand in a table.
use mathlib.Core.Path.{◌≡◌}
use mathlib.Core.Logic.{∥∥₁_elim}
use mathlib.Core.List.{List}
use native.Mathlib.Omega.{arith}
use Prim.Native.Nat.{ℕ, ◌<◌, ◌≤◌}
use lib.ListN.{length}
use Rattle.std.proofs.Props.{props}
use Rattle.bvh2.specs.Causes.{Accepted}
use Rattle.bvh2.specs.Words.{tree_at}
use Rattle.bvh2.proofs.Subtree.{node}
use Rattle.cost.specs.Table.{word_of}
use Rattle.cost.specs.Rows.{fill}
use Rattle.children.specs.declared.branch.Branch.{Branch}
use Rattle.children.specs.Tabled.{Tabled}
use Rattle.children.proofs.Start.{filled-tabled}
use Rattle.replay_trees.proofs.Accepted.{tables_ready}

-- the whole tree, once its tables are filled
pub tabled : (ws ds after : List ℕ) (n limit : ℕ) → 0 < n → Accepted ws n → length ws ≤ length ds → after ≡ fill (word_of limit) (tree_at ws 127 0) ds
    → Tabled ws after 127 0
tabled ws ds after n limit pos a l e = rw e (filled-tabled limit ds (tables_ready ws n (length ds) (length ds) pos a l l))

-- a node's number
pub small : (b : Branch) → b.node < 131072
small b = ∥∥₁_elim b.tabled (hlevel props) (λ h. omega (arith, (node h.tree).below, h.tree.few))
