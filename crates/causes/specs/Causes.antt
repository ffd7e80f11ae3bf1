-- Causes of refusal (01, "Causes of refusal"): the conditions on a call, each with the number of the cause that it rules out, in the order in which
-- they are looked at.
use Rattle.std.specs.Prelude.{Bool, true, false, List, [], ◌∷◌, ℕ, suc, ◌<◌, eqb}

infix 68 ◌unless◌
-- the cause of this number holds unless the test passes
pub data Condition : Type 0 where
  ◌unless◌ : ℕ → Bool → Condition

-- the number of the first cause that holds; 0 where none does
unfoldable pub first_cause : List Condition → ℕ
first_cause [] = 0
first_cause (k unless true ∷ l) = first_cause l
first_cause (k unless false ∷ l) = k

-- a cause found elsewhere: its number, or 0 for none
abbrev pub given : ℕ → Condition
given k = k unless eqb k 0

-- ---- the order of causes

-- all numbers, those of later requests too
unfoldable pub order : List ℕ
order = 1 ∷ 15 ∷ 2 ∷ 17 ∷ 19 ∷ 3 ∷ 4 ∷ 5 ∷ 6 ∷ 12 ∷ 14 ∷ 16 ∷ 7 ∷ 13 ∷ 18 ∷ 8 ∷ 9 ∷ 10 ∷ 11 ∷ []

-- how many numbers of a list stand before k
unfoldable pub place_in : List ℕ → ℕ → ℕ
place_in [] k = 0
place_in (x ∷ l) k = elim (eqb x k) [ true ↦ 0 | false ↦ suc (place_in l k) ]

unfoldable pub place_of : ℕ → ℕ
unfolding order place_in
place_of k = place_in order k

-- cause j is looked at before cause k
abbrev pub Before : ℕ → ℕ → Type 0
Before j k = place_of j < place_of k

-- where P says which causes hold: k is the first that does
abbrev pub First : (ℕ → Type 0) → ℕ → Type 0
First P k = P k × ((j : ℕ) → Before j k → P j → ⊥)
