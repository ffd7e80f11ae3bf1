-- A list with some of its elements replaced.
use Rattle.std.specs.Prelude.{List, ◌++◌, ℕ, ◌+◌, length, take, drop}

-- the list with b in the place of as many elements from `at` on
unfoldable pub splice : {A : Type 0} → List A → ℕ → List A → List A
splice s at b = take at s ++ (b ++ drop (at + length b) s)
