-- How often a number stands in a list, and the lists of consecutive numbers.
use Rattle.std.specs.Prelude.{List, [], ◌∷◌, ℕ, zero, suc, ◌+◌, ◌-◌}

-- 1 if the two numbers are equal, else 0
unfoldable pub same : ℕ → ℕ → ℕ
same x y = 1 - ((x - y) + (y - x))

unfoldable pub count : ℕ → List ℕ → ℕ
count x [] = 0
count x (y ∷ l) = same x y + count x l

-- a, a + 1, .., a + n − 1
unfoldable pub upto : ℕ → ℕ → List ℕ
upto a zero = []
upto a (suc n) = a ∷ upto (suc a) n
