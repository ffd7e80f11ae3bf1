-- Internal: what the parts of the call need.
use Rattle.std.specs.Prelude.{ℕ, zero, suc, min}

-- the lesser of two numbers of causes, of which 0 is none
unfoldable pub lesser_cause : ℕ → ℕ → ℕ
lesser_cause zero b = b
lesser_cause (suc a) zero = suc a
lesser_cause (suc a) (suc b) = min (suc a) (suc b)
