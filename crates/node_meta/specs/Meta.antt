-- What a meta byte says of its slot (01, "Rust forms and their replacements"), and the same of the eight bytes of a word.
use Rattle.std.specs.Prelude.{ℕ, zero, suc, ◌*◌, ◌/◌, ◌%◌}
use Rattle.std.specs.Int.Bits.{bit_xor}
use Rattle.words.specs.Fields.{field}
use Rattle.words.specs.Le.{sum_of}

-- the bits that a slot puts into the hit mask: 1 for a child, as many ones as there are positions for a leaf, none for an empty slot
abbrev pub child_bits : ℕ → ℕ
child_bits meta = meta / 32

-- 1 where the low five bits are 24 or more, as a child's are
abbrev pub inner_code : ℕ → ℕ
inner_code meta = meta / 8 % 2 * (meta / 16 % 2)

-- a where n is not 0, else b
abbrev pub pick : ℕ → ℕ → ℕ → ℕ
pick zero a b = b
pick (suc n) a b = a

-- the place of those bits: the low five bits, with the octant mixed in for a child alone
abbrev pub bit_index : ℕ → ℕ → ℕ
bit_index octant meta = pick (inner_code meta) (bit_xor (meta % 32) octant) (meta % 32)

-- the word whose byte k is f of byte k
unfoldable pub each_byte : (ℕ → ℕ) → ℕ → ℕ
unfolding sum_of field
each_byte f w = sum_of 8 8 (λ k. f (field 8 k w))
