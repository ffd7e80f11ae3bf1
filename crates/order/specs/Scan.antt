-- Internal: a pair with its cost, as the code's private functions hand it on.
use Rattle.std.specs.Prelude.{cond, List, [], ◌∷◌, ℕ, get_or, Float}
use Rattle.std.specs.Float.{nan}
use Rattle.std.specs.Float.Ieee.{lt}
use Rattle.order.specs.Assign.{Pair, cost_in, greatest_finite, row_pairs, pairs, open_pairs, least_pair}
use Rattle.order.specs.declared.Best.{Best}

-- a pair and what it costs
abbrev pub priced : (Pair → Float) → Pair → Best
priced cost p = record { cost = cost p; child = p.child; slot = p.slot }

-- no pair, dearer than each that may be taken
abbrev pub no_best : Best
no_best = record { cost = greatest_finite; child = 8; slot = 8 }

-- the first of some pairs, if there is one
abbrev pub first_or : (Pair → Float) → List Pair → Best
first_or cost [] = no_best
first_or cost (p ∷ ps) = priced cost p

-- the least pair with its cost
abbrev pub best_pair : (Pair → Float) → List Pair → Best
best_pair cost ps = first_or cost (least_pair cost ps)

-- the first, unless the second is cheaper
unfoldable pub cheaper : Best → Best → Best
cheaper a b = cond (lt b.cost a.cost) b a

-- the cost of a pair in its child's row
abbrev pub row_cost : List Float → Pair → Float
row_cost row p = get_or row p.slot nan

-- the least open pair of child c and a slot below k, by the child's row; `child` has the child of each slot
unfoldable pub best_slot : List Float → List ℕ → ℕ → ℕ → Best
best_slot row child c k = best_pair (row_cost row) (open_pairs (λ j. 8) (λ s. get_or child s 0) (row_cost row) (row_pairs c k))

-- the least open pair of a child below n and a slot, by the table; `slot` has the slot of each child
unfoldable pub best_open : List (List Float) → List ℕ → List ℕ → ℕ → Best
best_open table slot child n = best_pair (cost_in table) (open_pairs (λ c. get_or slot c 0) (λ s. get_or child s 0) (cost_in table) (pairs n))
