-- Internal: the children that a node of a binary tree gives to a wide node (01, "Corners of each file", bvh2_to_cwbvh.rs), in gathered order.
use Rattle.std.specs.Prelude.{List, [], ◌∷◌, ◌++◌, ℕ}
use Rattle.bvh2.specs.Tree.{Tree, leaf, inner, positions}
use Rattle.cost.specs.Table.{Kind, LEAF, INTERNAL, DISTRIBUTE, table}

-- a child alone, or where its decision is DISTRIBUTE, what it opens into
abbrev pub opened : {A : Type 0} → Kind → Tree A → List (Tree A) → List (Tree A)
opened LEAF t g = t ∷ []
opened INTERNAL t g = t ∷ []
opened DISTRIBUTE t g = g

-- The subtrees that a node opens into at entry i: those of its left child, then those of its right one, each at the entry that the split says.
-- A wide node's children are those at entry 0, whatever the kind there; a single leaf gives itself.
unfoldable pub gather : {A : Type 0} → ℕ → Tree A → ℕ → List (Tree A)
gather limit (leaf v box p) i = leaf v box p ∷ []
gather limit (inner v box a b) i =
    let d = table limit (inner v box a b) i in
    let l = gather limit a d.left in
    let r = gather limit b d.right in
    opened (table limit a d.left).kind a l ++ opened (table limit b d.right).kind b r

-- what a child contributes at entry i
abbrev pub part : {A : Type 0} → ℕ → Tree A → ℕ → List (Tree A)
part limit t i = opened (table limit t i).kind t (gather limit t i)

-- ---- the trees of a list
-- the positions that they hold together, in order
unfoldable pub gathered_positions : {A : Type 0} → List (Tree A) → List ℕ
gathered_positions [] = []
gathered_positions (t ∷ ts) = positions t ++ gathered_positions ts

-- each tree of a list
unfoldable pub EachTree : {A : Type 0} → (Tree A → Type 0) → List (Tree A) → Type 0
EachTree P [] = Unit {0}
EachTree P (t ∷ ts) = P t × EachTree P ts
