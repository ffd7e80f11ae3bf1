-- Wide trees (01, "Corners of each file", bvh2_to_cwbvh.rs): a node has eight slots, each of them empty, or with a leaf child, or with an inner
-- child.
use Rattle.std.specs.Prelude.{List, ℕ, suc}
use Rattle.aabb.specs.declared.Aabb.{Aabb}

-- The slots of a node, from some slot on. A leaf child has its box and its leaves' positions in the tree's index list; an inner child has its
-- box and the eight slots of its own.
pub data Slots : ℕ → Type 0 where
  end : Slots 0
  empty : {w : ℕ} → Slots w → Slots (suc w)
  leaf : {w : ℕ} → Aabb → List ℕ → Slots w → Slots (suc w)
  inner : {w : ℕ} → Aabb → Slots 8 → Slots w → Slots (suc w)

-- the root's box and its slots
pub record Wide : Type 0 where
  pub box : Aabb
  pub slots : Slots 8
