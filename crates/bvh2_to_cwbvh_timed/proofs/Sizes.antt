-- How many bytes of side table are needed, and how many the table has.
use mathlib.Core.Bool.{Bool}
use mathlib.Core.List.{List}
use mathlib.Core.Path.{◌≡◌, refl}
use Prim.Native.Nat.{ℕ, zero, suc, ◌-◌, ◌*◌, ◌<◌, max}
use native.Mathlib.Omega.{arith}
use lib.ListN.{length}
use Rattle.wide_tree.specs.Ordered.{wide_tree_of}
use Rattle.side_table.proofs.Table.{side_length}
use Rattle.bvh2_to_cwbvh.specs.Conversion.{nodes_of}
use Rattle.bvh2_to_cwbvh_timed.specs.TimedConversion.{side_size, side_of}

pub side_none : side_size 0 ≡ 0
unfolding side_size
side_none = refl

pub side_some : (n : ℕ) → 0 < n → side_size n ≡ 16 * max 1 (n - 1)
unfolding side_size
side_some zero h = absurd (omega arith)
side_some (suc k) h = omega arith

-- 16 bytes to a node
pub table_length : (spans indices ws : List ℕ) (n limit : ℕ) (ordered : Bool)
    → length (side_of spans indices ws n limit ordered) ≡ 16 * nodes_of ws n limit ordered
unfolding side_of nodes_of
table_length spans indices ws zero limit ordered = refl
table_length spans indices ws (suc n) limit ordered = side_length spans indices (wide_tree_of ws ordered limit)
