-- Internal: what the test of eight meta bytes at once says of each, for the contracts of its parts.
use Rattle.std.specs.Prelude.{◌≡◌, ℕ, ◌+◌, ◌/◌, ◌%◌, ◌^◌, ◌<◌, ◌≤◌}
use Rattle.words.specs.Fields.{field}
use Rattle.node.specs.Node.{code_count}
use Rattle.node_rule.specs.Rule.{LeafTop}

-- the eight bytes of a word
pub record Bytes (w : ℕ) (f : ℕ → ℕ) : Type 0 where
  pub byte : (k : ℕ) → k < 8 → field 8 k w ≡ f k
  pub fits : w < 2 ^ 64

-- where the bit is set the byte is 56 plus its place
pub record InnerRule (byte bit slot : ℕ) : Type 0 where
  pub code : bit ≡ 1 → byte ≡ 56 + slot

-- nothing, or a leaf code whose positions end within room
pub data LeafRule (byte room : ℕ) : Type 0 where
  empty : byte ≡ 0 → LeafRule byte room
  leaf : LeafTop (byte / 32) → byte % 32 + code_count byte ≤ room → LeafRule byte room

-- a slot: a child, or else nothing or a leaf
pub data MetaRule (byte bit slot room : ℕ) : Type 0 where
  outer : bit ≡ 0 → LeafRule byte room → MetaRule byte bit slot room
  inner : bit ≡ 1 → byte ≡ 56 + slot → MetaRule byte bit slot room

-- how many of the three low bits are set
abbrev pub ones_top : ℕ → ℕ
ones_top t = t % 2 + t / 2 % 2 + t / 4 % 2

-- how many positions from base on a node may use: at most 24, and none from n on
pub record RoomOf (base n room : ℕ) : Type 0 where
  pub most : room ≤ 24
  pub inside : (y : ℕ) → 0 < y → y ≤ room → base + y ≤ n
  pub all : (y : ℕ) → 0 < y → y ≤ 24 → base + y ≤ n → y ≤ room
