-- The `|` of n words.
use Rattle.std.specs.Prelude.{ℕ, zero, suc}
use Rattle.std.specs.Int.Bits.{bit_or}

unfoldable pub or_of : ℕ → (ℕ → ℕ) → ℕ
or_of zero f = zero
or_of (suc n) f = bit_or (or_of n f) (f n)
