-- Nodes one behind the other, as words (02, [4]).
use Rattle.std.specs.Prelude.{List, [], ◌++◌, ℕ, zero, suc}

-- what f gives for 0, .., k − 1, one behind the other
unfoldable pub in_turn : (ℕ → List ℕ) → ℕ → List ℕ
in_turn f zero = []
in_turn f (suc k) = in_turn f k ++ f k
