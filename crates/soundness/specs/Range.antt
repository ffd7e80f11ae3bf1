-- Ranges (01, "Words, bytes and bounds"): as many adjacent numbers as are counted, from a base on.
use Rattle.std.specs.Prelude.{ℕ, suc, ◌+◌, ◌-◌, min}

-- 1 if x stands in the range of n numbers from a on, that is if a ≤ x < a + n; else 0
unfoldable pub in_range : ℕ → ℕ → ℕ → ℕ
in_range x a n = min 1 (min (suc x - a) (a + n - x))
