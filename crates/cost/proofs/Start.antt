-- An accepted tree's words are ready to have their tables filled.
use mathlib.Core.List.{List}
use Prim.Native.Nat.{ℕ, ◌*◌, ◌≤◌}
use Rattle.bvh2.specs.Words.{tree_nodes}
use Rattle.bvh2.specs.Decoded.{Decoded}
use Rattle.bvh2.proofs.Subtree.{root}
use Rattle.cost.specs.Rows.{RowsReady}

pub ready : (ws : List ℕ) (n d c : ℕ) → Decoded ws n → tree_nodes n * 7 ≤ d → tree_nodes n * 7 ≤ c → RowsReady ws d c 127 0
ready ws n d c h p q = record { n = n; tree = root ws n h; decisions = p; costs = q }
