-- Internal: a node's children one by one: what each gives to the node's fields.
use Rattle.std.specs.Prelude.{List, [], ◌++◌, ℕ, zero, suc, ◌+◌, ◌^◌, length}
use Rattle.aabb.specs.declared.Aabb.{Aabb}
use Rattle.node.specs.declared.Slot.{Slot}
use Rattle.node.specs.Node.{no_slot}
use Rattle.wide_layout.specs.Wide.{Slots}
use Rattle.wide_layout.specs.Content.{Content, none, leaf_child, inner_child, content_at}
use Rattle.record.specs.Record.{leaf_meta, inner_meta, grid_box}

-- the meta byte of what stands in slot i, with `before` of the node's positions before it
unfoldable pub child_meta : Content → (i before : ℕ) → ℕ
child_meta none i before = 0
child_meta (leaf_child b ps) i before = leaf_meta (length ps) before
child_meta (inner_child b t) i before = inner_meta i

-- its six bytes on the grid of the node's box
unfoldable pub child_bytes : Aabb → Content → Slot
child_bytes b none = no_slot
child_bytes b (leaf_child c ps) = grid_box b c
child_bytes b (inner_child c t) = grid_box b c

-- its bit in the mask, the positions that it writes, and whether it counts as an inner child
unfoldable pub child_bit : Content → ℕ → ℕ
child_bit none i = 0
child_bit (leaf_child b ps) i = 0
child_bit (inner_child b t) i = 2 ^ i

unfoldable pub child_positions : Content → List ℕ
child_positions none = []
child_positions (leaf_child b ps) = ps
child_positions (inner_child b t) = []

unfoldable pub child_inner : Content → ℕ
child_inner none = 0
child_inner (leaf_child b ps) = 0
child_inner (inner_child b t) = 1

-- the same of the first k slots together, counted from slot i
unfoldable pub bits_before : {w : ℕ} → Slots w → (i k : ℕ) → ℕ
unfolding content_at child_bit
bits_before s i zero = 0
bits_before s i (suc k) = bits_before s i k + child_bit (content_at s k) (i + k)

unfoldable pub positions_before : {w : ℕ} → Slots w → ℕ → List ℕ
unfolding content_at child_positions
positions_before s zero = []
positions_before s (suc k) = positions_before s k ++ child_positions (content_at s k)
