-- The number of the first cause, computed; 0 where there is none (proofs/First has that it is the first cause of specs/Causes).
-- Conversion looks at other causes between 2 and 5, so the conditions stand in two lists.
use Rattle.std.specs.Prelude.{Bool, false, ◌&&◌, List, [], ◌∷◌, ◌++◌, ℕ, zero, suc, ◌+◌, ◌*◌, length, eqb, leb, ltb}
use Rattle.lists.specs.Below.{all_below}
use Rattle.lists.specs.Counts.{count}
use Rattle.causes.specs.Causes.{Condition, ◌unless◌, first_cause}
use Rattle.aabb.specs.Aabb.{accepted_box}
use Rattle.bvh2.specs.Tree.{Tree, leaf, inner, labels, positions}
use Rattle.bvh2.specs.Words.{tree_nodes, Link, children, position, malformed, link_at, box_at, tree_of}

-- causes 1 and 2, for a number of words
unfoldable pub size_conditions : (words n : ℕ) → List Condition
size_conditions words n = 1 unless eqb words (tree_nodes n * 7) ∷ 2 unless leb n 65536 ∷ []

-- cause 5 does not hold of a link
unfoldable pub is_inside : ℕ → Link → Bool
is_inside n (children f) = ltb (f + 1) (tree_nodes n)
is_inside n (position p) = ltb p n
is_inside n malformed = false

-- nor of any node's
abbrev pub links_inside : List ℕ → ℕ → Bool
links_inside ws n = all_below (λ v. is_inside n (link_at ws v)) (tree_nodes n)

-- cause 6 does not hold of any node's box
abbrev pub boxes_accepted : List ℕ → ℕ → Bool
boxes_accepted ws n = all_below (λ v. accepted_box (box_at ws v)) (tree_nodes n)

-- the link is a leaf's with position p
unfoldable pub is_position : ℕ → Link → Bool
is_position p (children f) = false
is_position p (position q) = eqb p q
is_position p malformed = false

-- each leaf of the tree is one of the words: nothing below it was left unread
unfoldable pub is_whole : List ℕ → Tree ℕ → Bool
is_whole ws (leaf v b p) = is_position p (link_at ws v)
is_whole ws (inner v b l r) = is_whole ws l && is_whole ws r

-- each number below k stands in the list exactly once
unfoldable pub each_once : ℕ → List ℕ → Bool
each_once k l = all_below (λ x. eqb (count x l) 1) k

-- cause 7 does not hold, where 5 does not: the tree read is whole, with each node and each position once
unfoldable pub is_tree : ℕ → List ℕ → Tree ℕ → Bool
is_tree n ws t = is_whole ws t && each_once (tree_nodes n) (labels t) && each_once n (positions t)

-- causes 5 to 7, each over all nodes before the next; without nodes there is nothing that they could hold of
unfoldable pub structure_conditions : List ℕ → ℕ → List Condition
structure_conditions ws zero = []
structure_conditions ws (suc n) =
    let links = links_inside ws (suc n) in
    let boxes = boxes_accepted ws (suc n) in
    let tree = is_tree (suc n) ws (tree_of ws) in
    5 unless links ∷ 6 unless boxes ∷ 7 unless tree ∷ []

-- all of them
abbrev pub tree_conditions : List ℕ → ℕ → List Condition
tree_conditions ws n = size_conditions (length ws) n ++ structure_conditions ws n

-- the numbers
abbrev pub sizes_cause : (words n : ℕ) → ℕ
sizes_cause words n = first_cause (size_conditions words n)

abbrev pub structure_cause : List ℕ → ℕ → ℕ
structure_cause ws n = first_cause (structure_conditions ws n)

abbrev pub tree_cause : List ℕ → ℕ → ℕ
tree_cause ws n = first_cause (tree_conditions ws n)
