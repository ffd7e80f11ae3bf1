-- Lists: the elements that pass a test, whether one does, the values of a function at eight numbers, and a list of eight.
use Rattle.std.specs.Prelude.{Bool, true, false, ◌||◌, List, [], ◌∷◌, ◌++◌, ℕ, ◌-◌, length, replicate}

-- x in front if the test passed
abbrev pub cons_if : {A : Type 0} → Bool → A → List A → List A
cons_if true x xs = x ∷ xs
cons_if false x xs = xs

-- the elements that pass, in their order
unfoldable pub keep : {A : Type 0} → (A → Bool) → List A → List A
keep f [] = []
keep f (x ∷ xs) = cons_if (f x) x (keep f xs)

-- whether some element passes
unfoldable pub some : {A : Type 0} → (A → Bool) → List A → Bool
some f [] = false
some f (x ∷ xs) = f x || some f xs

-- f 0 to f 7
abbrev pub eight_of : {A : Type 0} → (ℕ → A) → List A
eight_of f = f 0 ∷ f 1 ∷ f 2 ∷ f 3 ∷ f 4 ∷ f 5 ∷ f 6 ∷ f 7 ∷ []

-- the list, and then d up to eight elements
unfoldable pub padded : {A : Type 0} → A → List A → List A
padded d xs = xs ++ replicate (8 - length xs) d
