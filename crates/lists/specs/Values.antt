-- A function's first values, as a list.
use Rattle.std.specs.Prelude.{List, map, ℕ}
use Rattle.lists.specs.Counts.{upto}

-- f 0, .., f (k − 1)
abbrev pub values : {A : Type 0} → (ℕ → A) → ℕ → List A
values f k = map f (upto 0 k)
