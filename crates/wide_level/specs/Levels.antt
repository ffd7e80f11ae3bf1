-- Internal: how many levels a wide tree has, by the decisions of the binary tree alone (01, "Corners of each file", bvh2_to_cwbvh.rs).
use Rattle.std.specs.Prelude.{ℕ, suc, max}
use Rattle.bvh2.specs.Tree.{Tree, leaf, inner}
use Rattle.cost.specs.Table.{Kind, LEAF, INTERNAL, DISTRIBUTE, table}

-- What a binary node adds below the wide node above it, by its decision, where n levels lie below what it opens into: nothing as a leaf child, one
-- level more as an inner child, and just these where its own children take its place.
abbrev pub added_as : Kind → ℕ → ℕ
added_as LEAF n = 0
added_as INTERNAL n = suc n
added_as DISTRIBUTE n = n

-- How many levels lie below the wide node whose children are those that a binary node opens into at entry i. A node that stays a child at entry i has
-- entry 0's splits there, so it is opened by them as a node of its own.
unfoldable pub levels : {A : Type 0} → ℕ → Tree A → ℕ → ℕ
levels limit (leaf v box p) i = 0
levels limit (inner v box a b) i =
    let d = table limit (inner v box a b) i in
    let l = levels limit a d.left in
    let r = levels limit b d.right in
    max (added_as (table limit a d.left).kind l) (added_as (table limit b d.right).kind r)

-- what a binary node adds at entry i
abbrev pub added : {A : Type 0} → ℕ → Tree A → ℕ → ℕ
added limit t i = added_as (table limit t i).kind (levels limit t i)
