-- The greedy assignment of children to slots (01, "Corners of each file", bvh2_to_cwbvh.rs, Ordering), for any costs.
use Rattle.std.specs.Prelude.{not, ◌&&◌, cond, List, [], ◌∷◌, ◌++◌, map, ℕ, zero, suc, eqb, ltb, length, take, get_or, Float}
use Rattle.std.specs.Float.{nan, binary32}
use Rattle.std.specs.Float.Ieee.{of_bits, lt}
use Rattle.order.specs.Lists.{keep, some, eight_of, padded}
use Rattle.order.specs.declared.Assignment.{Assignment}

-- a child, by its place in gathered order, and a slot
pub record Pair : Type 0 where
  pub child : ℕ
  pub slot : ℕ

-- the cost of a pair in a table: a row for each child, an entry for each slot
abbrev pub cost_in : List (List Float) → Pair → Float
cost_in table p = get_or (get_or table p.child []) p.slot nan

-- the greatest finite f32, from which the Rust starts each search: only a cost below it is taken, so no NaN
abbrev pub greatest_finite : Float
greatest_finite = of_bits binary32 0x7f7f_ffff

-- child c with each slot below k
unfoldable pub row_pairs : ℕ → ℕ → List Pair
row_pairs c zero = []
row_pairs c (suc k) = row_pairs c k ++ (record { child = c; slot = k } ∷ [])

-- each child below n with each of eight slots: the lower child first, then the lower slot
unfoldable pub pairs : ℕ → List Pair
pairs zero = []
pairs (suc n) = pairs n ++ row_pairs n 8

-- the value of the first pair whose key is k; 8 where there is none
unfoldable pub partner : (Pair → ℕ) → (Pair → ℕ) → List Pair → ℕ → ℕ
partner key value [] k = 8
partner key value (p ∷ ps) k = cond (eqb (key p) k) (value p) (partner key value ps k)

-- the slot of child c, and the child in slot s, under the pairs assigned; 8 where there is none
abbrev pub slot_of : List Pair → ℕ → ℕ
slot_of ps c = partner (λ p. p.child) (λ p. p.slot) ps c

abbrev pub child_of : List Pair → ℕ → ℕ
child_of ps s = partner (λ p. p.slot) (λ p. p.child) ps s

-- Those of the pairs that a round may take: the child has no slot yet, the slot no child, and the cost is below the greatest f32. `slot` and
-- `child` say what each has, 8 for none.
unfoldable pub open_pairs : (ℕ → ℕ) → (ℕ → ℕ) → (Pair → Float) → List Pair → List Pair
open_pairs slot child cost ps = keep (λ p. eqb (slot p.child) 8 && eqb (child p.slot) 8 && lt (cost p) greatest_finite) ps

-- the first of the pairs than which none is cheaper, in their order; nothing where there are none
unfoldable pub least_pair : (Pair → Float) → List Pair → List Pair
least_pair cost ps = take 1 (keep (λ p. not (some (λ q. lt (cost q) (cost p)) ps)) ps)

-- what a round over n children adds to the pairs assigned
abbrev pub next_pair : (Pair → Float) → ℕ → List Pair → List Pair
next_pair cost n ps = least_pair cost (open_pairs (slot_of ps) (child_of ps) cost (pairs n))

-- the pairs in the order assigned, after k rounds over n children
unfoldable pub assigned : (Pair → Float) → ℕ → ℕ → List Pair
assigned cost n zero = []
assigned cost n (suc k) = let ps = assigned cost n k in ps ++ next_pair cost n ps

-- as many rounds as there are children: a further one finds no pair
abbrev pub assignment : (Pair → Float) → ℕ → List Pair
assignment cost n = assigned cost n n

-- How many searches over children and slots end with these pairs of n children: each pair took one, and where a child is left without a slot one more
-- found nothing.
unfoldable pub rounds_of : ℕ → List Pair → ℕ
rounds_of n ps = cond (ltb (length ps) n) (suc (length ps)) (length ps)

-- as arrays the slot of each child, the child of each slot and the children in the order seated; how many these are, and by how many searches
abbrev pub arrays_of : ℕ → List Pair → Assignment
arrays_of rounds ps = record {
  slot = eight_of (slot_of ps);
  child = eight_of (child_of ps);
  seated = padded 8 (map (λ p. p.child) ps);
  count = length ps;
  rounds = rounds;
}

-- the assignment to n children, with the searches that it takes
abbrev pub assigned_arrays : (Pair → Float) → ℕ → Assignment
assigned_arrays cost n = let ps = assignment cost n in arrays_of (rounds_of n ps) ps
