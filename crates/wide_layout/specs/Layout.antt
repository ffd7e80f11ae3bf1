-- The layout of a wide tree in a record (01, "Corners of each file", bvh2_to_cwbvh.rs): which node stands where, and from where its children
-- and its positions are counted.
use Rattle.std.specs.Prelude.{List, [], ◌∷◌, ◌++◌, ℕ, ◌+◌}
use Rattle.aabb.specs.declared.Aabb.{Aabb}
use Rattle.wide_layout.specs.Wide.{Slots, end, empty, leaf, inner, Wide}
use Rattle.wide_layout.specs.Sizes.{inner_children, nodes_below, levels_below, own_positions, own_count, positions_below, count_below}

-- One node: its number, its parent's number and its slot there (0 and 0 for the first), its level and its box; the first number of its inner
-- children, which are adjacent in slot order; the place of its first position in the index list, in which its leaf children's positions are
-- adjacent in slot order; and its slots.
pub record Entry : Type 0 where
  pub number : ℕ
  pub parent : ℕ
  pub slot : ℕ
  pub level : ℕ
  pub box : Aabb
  pub child_base : ℕ
  pub position_base : ℕ
  pub slots : Slots 8

-- node i of box b and slots t, in slot k of node p, at level l, with c nodes numbered and q positions written before it
abbrev pub entry : Aabb → Slots 8 → (l p k i c q : ℕ) → Entry
entry b t l p k i c q = record { number = i; parent = p; slot = k; level = l; box = b; child_base = c; position_base = q; slots = t }

-- The nodes that slots lead to. The slots are those from slot k on of node p, whose inner children have level l and, from these slots on, the
-- numbers from i on; c nodes are numbered and q positions are written already. Each inner child takes the next numbers for its children and
-- the next places for its positions, also where it has none of them, and its whole subtree comes before the next inner child.
abbrev pub entries : {w : ℕ} → Slots w → (l p k i c q : ℕ) → List Entry
entries end l p k i c q = []
entries (empty s) l p k i c q = entries s l p (k + 1) i c q
entries (leaf b ps s) l p k i c q = entries s l p (k + 1) i c q
entries (inner b t s) l p k i c q =
    entry b t l p k i c q
    ∷ (entries t (l + 1) i 0 c (c + inner_children t) (q + own_count t)
    ++ entries s l p (k + 1) (i + 1) (c + (inner_children t + nodes_below t)) (q + (own_count t + count_below t)))

-- all nodes in the order in which they are written: the root is node 0, at level 0
abbrev pub layout : Wide → List Entry
layout t =
    entry t.box t.slots 0 0 0 0 1 0
    ∷ entries t.slots 1 0 0 1 (1 + inner_children t.slots) (0 + own_count t.slots)

-- their numbers in that order
abbrev pub numbers : List Entry → List ℕ
numbers [] = []
numbers (e ∷ r) = e.number ∷ numbers r

-- every one of them has the property
abbrev pub EachEntry : (Entry → Type 0) → List Entry → Type 0
EachEntry P [] = Unit {0}
EachEntry P (e ∷ r) = P e × EachEntry P r

-- how many nodes
abbrev pub nodes : Wide → ℕ
nodes t = 1 + (inner_children t.slots + nodes_below t.slots)

-- the positions in the order in which they are written, and how many they are
abbrev pub index_list : Wide → List ℕ
index_list t = own_positions t.slots ++ positions_below t.slots

abbrev pub index_count : Wide → ℕ
index_count t = own_count t.slots + count_below t.slots

-- the deepest level
abbrev pub level : Wide → ℕ
level t = levels_below t.slots
