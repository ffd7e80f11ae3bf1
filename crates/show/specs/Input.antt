-- What `showrecord` and `checkrecord` read: little-endian words (01, "Samples").
use Rattle.std.specs.Prelude.{List, [], ◌∷◌, ℕ, zero, suc, ◌+◌}
use Rattle.words.specs.Le.{le_at}

-- n words that lie one behind the other, from a place of the input on
unfoldable pub input_words : List ℕ → ℕ → ℕ → List ℕ
input_words input at zero = []
input_words input at (suc n) = le_at 4 input at ∷ input_words input (at + 4) n
