-- Internal: what a load gives.
use Rattle.std.specs.Prelude.{ℕ, ◌+◌, ◌<◌, List, ◌≡◌, get_or}
use Rattle.words.specs.Fields.{field}
use Rattle.words.specs.Le.{le_at}

-- the number of n bytes at a place, as a sum and byte by byte
pub record Loaded (n : ℕ) (s : List ℕ) (at r : ℕ) : Type 0 where
  pub value : r ≡ le_at n s at
  pub bytes : (k : ℕ) → k < n → field 8 k r ≡ get_or s (at + k) 0
