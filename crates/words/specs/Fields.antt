-- Internal: a word as fields of k digits, the lowest first: `field 8 i n` is byte i of n, and `field 1 j n` is bit j.
use Rattle.std.specs.Prelude.{ℕ, zero, suc, ◌/◌, ◌%◌, ◌^◌}

unfoldable pub field : ℕ → ℕ → ℕ → ℕ
field k zero n = n % 2 ^ k
field k (suc i) n = field k i (n / 2 ^ k)
