-- The wide tree that a binary tree becomes for a leaf limit (01, "Corners of each file", bvh2_to_cwbvh.rs), by recursion on the binary tree.
-- How a node's children, in gathered order, go to its slots is a parameter: from the node's box and the children's boxes it gives the number
-- of the child in each slot, or any number past the last child for an empty slot.
use Rattle.std.specs.Prelude.{List, [], ◌∷◌, ◌++◌, map, ℕ, zero, suc}
use Rattle.aabb.specs.declared.Aabb.{Aabb}
use Rattle.bvh2.specs.Tree.{Tree, leaf, inner, box_of, positions}
use Rattle.cost.specs.Table.{Kind, LEAF, INTERNAL, DISTRIBUTE, table}
use Rattle.wide_layout.specs.Wide.{Slots, end, empty, Wide}
use Rattle.wide_layout.specs.Wide as W

-- ---- children into slots
-- a child of a wide node: its box, with its positions or with its own slots
pub data Child : Type 0 where
  leaf_child : Aabb → List ℕ → Child
  inner_child : Aabb → Slots 8 → Child

abbrev pub child_box : Child → Aabb
child_box (leaf_child b ps) = b
child_box (inner_child b s) = b

-- the slot that holds a child, before further slots
abbrev pub hold : {w : ℕ} → Child → Slots w → Slots (suc w)
hold (leaf_child b ps) s = W.leaf b ps s
hold (inner_child b t) s = W.inner b t s

-- the slot that holds child i of a list, empty past its end
abbrev pub filled_slot : {w : ℕ} → List Child → ℕ → Slots w → Slots (suc w)
filled_slot [] i s = empty s
filled_slot (c ∷ cs) zero s = hold c s
filled_slot (c ∷ cs) (suc i) s = filled_slot cs i s

-- w slots from slot k on; `child` has the number of the child in each slot
unfoldable pub slots_from : (ℕ → ℕ) → List Child → (k w : ℕ) → Slots w
slots_from child cs k zero = end
slots_from child cs k (suc w) = filled_slot cs (child k) (slots_from child cs (suc k) w)

-- ---- a node and its children
-- which child stands in which slot, for a node's box and its children's
abbrev pub Placing : Type 0
Placing = Aabb → List Aabb → ℕ → ℕ

-- the eight slots of a node with the given box and children
abbrev pub filled_slots : Placing → Aabb → List Child → Slots 8
filled_slots place box cs = slots_from (place box (map child_box cs)) cs 0 8

-- a binary node as a child: by its decision at entry 0 a leaf, or a wide node over `cs`
abbrev pub child_as : {A : Type 0} → Placing → Kind → Tree A → List Child → Child
child_as place LEAF t cs = leaf_child (box_of t) (positions t)
child_as place INTERNAL t cs = inner_child (box_of t) (filled_slots place (box_of t) cs)
child_as place DISTRIBUTE t cs = inner_child (box_of t) (filled_slots place (box_of t) cs)

-- a binary node's contribution: alone, or where its decision is DISTRIBUTE, what it opens into
abbrev pub contributed : Kind → Child → List Child → List Child
contributed LEAF c cs = c ∷ []
contributed INTERNAL c cs = c ∷ []
contributed DISTRIBUTE c cs = cs

-- the children of a wide node that a binary node opened at entry i gives, in gathered order
unfoldable pub wide_children : {A : Type 0} → Placing → ℕ → Tree A → ℕ → List Child
unfolding slots_from
wide_children place limit (leaf v box p) i = leaf_child box (p ∷ []) ∷ []
wide_children place limit (inner v box a b) i =
    let d = table limit (inner v box a b) i in
    let l = wide_children place limit a d.left in
    let r = wide_children place limit b d.right in
    let x = child_as place (table limit a 0).kind a (wide_children place limit a 0) in
    let y = child_as place (table limit b 0).kind b (wide_children place limit b 0) in
    contributed (table limit a d.left).kind x l ++ contributed (table limit b d.right).kind y r

-- the slots of the wide node that a tree's root becomes: it is opened whatever its own decision says
abbrev pub root_slots : {A : Type 0} → Placing → ℕ → Tree A → Slots 8
root_slots place limit t = filled_slots place (box_of t) (wide_children place limit t 0)

-- the wide tree
unfoldable pub wide_of : {A : Type 0} → Placing → ℕ → Tree A → Wide
wide_of place limit t = record { box = box_of t; slots = root_slots place limit t }
