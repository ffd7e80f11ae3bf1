-- Groups as words of bits, and the lists that they stand for (01, "Walking"; "Rust forms and their replacements"). Positions are bits counted from a
-- base. Children are bits 31 to 24, by slot XOR octant, over the imask in the low byte.
use Rattle.std.specs.Prelude.{Bool, not, ◌&&◌, cond, List, [], ◌∷◌, ℕ, zero, suc, ◌+◌, ◌-◌, ◌*◌, ◌/◌, ◌%◌, ◌^◌, eqb, leb, ltb}
use Rattle.std.specs.Int.Bits.{bit_xor}
use Rattle.std.specs.Int.Count.{count_leading_zeros}
use Rattle.words.specs.Fields.{field}
use Rattle.faststack.specs.Stack.{top_of}
use Rattle.node.specs.Node.{child_index}
use Rattle.walk.specs.Slots.{falling}

pub record Group : Type 0 where
  pub base : ℕ
  pub bits : ℕ

-- a group as one word of 64 bits, and back
abbrev pub packed : Group → ℕ
packed g = g.bits * 2 ^ 32 + g.base

abbrev pub unpacked : ℕ → Group
unpacked w = record { base = w % 2 ^ 32; bits = w / 2 ^ 32 }

-- ---- what a group stands for

-- bit j is set
abbrev pub is_set : ℕ → ℕ → Bool
is_set j n = eqb (field 1 j n) 1

-- positions that are not passed over, the highest first
abbrev pub positions_in : (ℕ → Bool) → Group → List ℕ
positions_in skips g = falling (λ b. g.base + b) (λ b. not (skips (g.base + b)) && is_set b g.bits) 32

-- children by falling slot XOR octant; a child's rank counts the ones of imask below its slot
abbrev pub children_in : ℕ → Group → List ℕ
children_in octant g = falling (λ k. child_index g.base g.bits (bit_xor k octant)) (λ k. is_set (24 + k) g.bits) 8

-- the groups of a stack of depth d, the last pushed first
abbrev pub groups_in : ℕ → List ℕ → ℕ → List (List ℕ)
groups_in octant stack zero = []
groups_in octant stack (suc d) = children_in octant (unpacked (top_of stack (suc d))) ∷ groups_in octant stack d

-- ---- the first of a group, and the rest

-- the place of the highest set bit of a word of 32
abbrev pub highest : ℕ → ℕ
highest bits = 31 - count_leading_zeros 32 bits

-- the group without it
abbrev pub rest_of : Group → Group
rest_of g = record { base = g.base; bits = g.bits % 2 ^ highest g.bits }

-- the position of the highest bit
abbrev pub first_position : Group → ℕ
first_position g = g.base + highest g.bits

-- the group from its first position on that is not passed over, if that is among the first k
abbrev pub past_skipped : (ℕ → Bool) → ℕ → Group → Group
past_skipped skips zero g = g
past_skipped skips (suc k) g = let rest = past_skipped skips k (rest_of g) in cond (skips (first_position g) && ltb 0 g.bits) rest g

-- the child of the highest bit: its slot is the bit's place past 24, XOR octant
abbrev pub first_child : ℕ → Group → ℕ
first_child octant g = child_index g.base g.bits (bit_xor (highest g.bits - 24) octant)

-- a group holds a child where one of its bits 31 to 24 is set
abbrev pub has_child : Group → Bool
has_child g = leb 0x100_0000 g.bits

-- the depth of the stack without the groups on top that hold no child
abbrev pub waiting_depth : List ℕ → ℕ → ℕ
waiting_depth stack zero = 0
waiting_depth stack (suc d) = cond (has_child (unpacked (top_of stack (suc d)))) (suc d) (waiting_depth stack d)
