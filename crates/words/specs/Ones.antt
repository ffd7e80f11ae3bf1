-- How many of the k lowest digits of m are set, in plain arithmetic: the sum of m / 2 ^ i % 2 over i < k.
use Rattle.std.specs.Prelude.{ℕ, zero, suc, ◌+◌, ◌/◌, ◌%◌, ◌^◌}

unfoldable pub ones_below : ℕ → ℕ → ℕ
ones_below zero m = zero
ones_below (suc k) m = ones_below k m + m / 2 ^ k % 2
