-- Binary trees of boxes (01, "Words, bytes and bounds"): an inner node has a box and two children, a leaf a box and a position in the index list.
-- Each node carries a label of any type. A tree that was read from words has its nodes' numbers there; no definition over trees looks at a label.
use Rattle.std.specs.Prelude.{List, [], ◌∷◌, ◌++◌, ℕ, suc, ◌+◌, max}
use Rattle.aabb.specs.declared.Aabb.{Aabb}

pub data Tree (A : Type 0) : Type 0 where
  leaf : A → Aabb → ℕ → Tree A
  inner : A → Aabb → Tree A → Tree A → Tree A

-- the label and the box of the root
unfoldable pub label_of : {A : Type 0} → Tree A → A
label_of (leaf v b p) = v
label_of (inner v b l r) = v

unfoldable pub box_of : {A : Type 0} → Tree A → Aabb
box_of (leaf v b p) = b
box_of (inner v b l r) = b

-- how many leaves
unfoldable pub leaves : {A : Type 0} → Tree A → ℕ
leaves (leaf v b p) = 1
leaves (inner v b l r) = leaves l + leaves r

-- how many edges the longest path from the root has
unfoldable pub depth : {A : Type 0} → Tree A → ℕ
depth (leaf v b p) = 0
depth (inner v b l r) = suc (max (depth l) (depth r))

-- the leaves' positions, left to right
unfoldable pub positions : {A : Type 0} → Tree A → List ℕ
positions (leaf v b p) = p ∷ []
positions (inner v b l r) = positions l ++ positions r

-- all labels, a node before its left subtree before its right one
unfoldable pub labels : {A : Type 0} → Tree A → List A
labels (leaf v b p) = v ∷ []
labels (inner v b l r) = v ∷ (labels l ++ labels r)

-- the same tree under other labels
unfoldable pub relabel : {A B : Type 0} → (A → B) → Tree A → Tree B
relabel f (leaf v b p) = leaf (f v) b p
relabel f (inner v b l r) = inner (f v) b (relabel f l) (relabel f r)

-- the same tree with its leaves at other positions
unfoldable pub reposition : {A : Type 0} → (ℕ → ℕ) → Tree A → Tree A
reposition f (leaf v b p) = leaf v b (f p)
reposition f (inner v b l r) = inner v b (reposition f l) (reposition f r)
