-- The hit mask of a node (01, "Walking", and "Rust forms and their replacements"): bits 31 to 24 are children, by slot XOR octant, and bits 23 to 0
-- positions, counted from the node's base. An empty slot has no bits.
use Rattle.std.specs.Prelude.{Bool, true, false, ◌&&◌, ℕ, zero, ◌*◌, ◌%◌, ◌^◌, get_or}
use Rattle.words.specs.Ors.{or_of}
use Rattle.ray.specs.declared.Ray.{Ray}
use Rattle.gate.specs.Gates.{Gates}
use Rattle.node.specs.declared.Node.{Node}
use Rattle.node.specs.Node.{no_slot}
use Rattle.node_meta.specs.Meta.{child_bits, bit_index}
use Rattle.node_slot.specs.Slot.{passes}

abbrev pub only_if : Bool → ℕ → ℕ
only_if true n = n
only_if false n = zero

-- the bits of a slot with this meta byte, as a word of 32 bits
unfoldable pub hit_bits : ℕ → ℕ → ℕ
hit_bits octant meta = (child_bits meta * 2 ^ bit_index octant meta) % 2 ^ 32

-- ---- for any test of slots

-- what slot i puts into the mask
unfoldable pub slot_hit : (ℕ → Bool) → Node → ℕ → ℕ → ℕ
unfolding hit_bits
slot_hit test v octant i = only_if (test i) (hit_bits octant (get_or v.child_meta i 0))

-- the mask of the slots that pass
unfoldable pub hit_mask_of : (ℕ → Bool) → Node → ℕ → ℕ
unfolding or_of slot_hit
hit_mask_of test v octant = or_of 8 (slot_hit test v octant)

-- ---- by boxes and gates

-- whether the ray passes the box of slot i of a node
abbrev pub passes_slot : Node → Ray → ℕ → Bool
passes_slot v r i = passes v (get_or v.slots i no_slot) r

-- and whether the slot is open, the node having this number in its record
abbrev pub passes_open : Gates → (number : ℕ) → Node → Ray → ℕ → Bool
passes_open g number v r i = g.opens number i && passes_slot v r i

-- the mask
unfoldable pub hit_mask : Gates → (number : ℕ) → Node → Ray → ℕ → ℕ
unfolding hit_mask_of
hit_mask g number v r octant = hit_mask_of (passes_open g number v r) v octant
