-- What the tables of an accepted tree ask for.
use mathlib.Core.Path.{◌≡◌}
use mathlib.Core.List.{List}
use native.Mathlib.Omega.{arith}
use Prim.Native.Nat.{ℕ, ◌*◌, ◌<◌, ◌≤◌}
use lib.ListN.{length}
use Rattle.bvh2.specs.Causes.{Accepted}
use Rattle.bvh2.specs.Words.{tree_nodes}
use Rattle.bvh2.proofs.First.{accepted_sized}
use Rattle.bvh2.proofs.Decoded.{accepted_decoded}
use Rattle.cost.specs.Rows.{RowsReady}
use Rattle.cost.proofs.Start.{ready}

-- tables at least as long as the words have room for an accepted tree's
pub tables_ready : (ws : List ℕ) (n d c : ℕ) → 0 < n → Accepted ws n → length ws ≤ d → length ws ≤ c → RowsReady ws d c 127 0
tables_ready ws n d c pos a p q =
    let fit : length ws ≡ tree_nodes n * 7 = (accepted_sized ws n a).fit in
    ready ws n d c ((accepted_decoded ws n pos).0 a) (omega arith) (omega arith)
