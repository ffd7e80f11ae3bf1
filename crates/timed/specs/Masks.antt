-- Internal: bytes that let a slot's bits through, or none.
use Rattle.std.specs.Prelude.{Bool, cond, ◌≡◌, ℕ, ◌<◌}
use Rattle.words.specs.Fields.{field}

-- a byte for each slot: all its bits where the slot passes a test, none where not
pub record Masks (test : ℕ → Bool) (w : ℕ) : Type 0 where
  pub byte : (k : ℕ) → k < 8 → field 8 k w ≡ cond (test k) 255 0
