-- A list's members in rising order.
use Rattle.std.specs.Prelude.{cond, List, [], ◌∷◌, ℕ, ◌≤◌, leb}

-- x before the first member that is not below it
unfoldable pub insert : ℕ → List ℕ → List ℕ
insert x [] = x ∷ []
insert x (y ∷ l) = cond (leb x y) (x ∷ y ∷ l) (y ∷ insert x l)

unfoldable pub rising : List ℕ → List ℕ
unfolding insert
rising [] = []
rising (x ∷ l) = insert x (rising l)

-- each member is at most the next
abbrev pub Rises : List ℕ → Type 0
Rises [] = Unit {0}
Rises (x ∷ []) = Unit {0}
Rises (x ∷ y ∷ l) = (x ≤ y) × Rises (y ∷ l)
