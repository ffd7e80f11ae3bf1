-- Internal: the child ranges and leaf ranges of a layout (01, "Words, bytes and bounds"), each range written out.
use Rattle.std.specs.Prelude.{List, [], ◌∷◌, ◌++◌, ◌≡◌, ℕ, ◌+◌, length, take, drop}
use Rattle.lists.specs.Counts.{upto}
use Rattle.wide_layout.specs.Wide.{Slots, end, empty, leaf, inner}
use Rattle.wide_layout.specs.Sizes.{inner_children, own_before, own_at, positions_at}
use Rattle.wide_layout.specs.Layout.{Entry}

-- a node's child range: as many nodes as it has inner children, from its child_base on
abbrev pub child_range : Entry → List ℕ
child_range e = upto e.child_base (inner_children e.slots)

-- a node's leaf ranges, slot by slot: each as long as the leaf child has positions, the first from q on
abbrev pub slot_ranges : {w : ℕ} → Slots w → ℕ → List ℕ
slot_ranges end q = []
slot_ranges (empty s) q = slot_ranges s q
slot_ranges (leaf b ps s) q = upto q (length ps) ++ slot_ranges s (q + length ps)
slot_ranges (inner b t s) q = slot_ranges s q

-- the ranges of all nodes, one after another
abbrev pub child_ranges : List Entry → List ℕ
child_ranges [] = []
child_ranges (e ∷ r) = child_range e ++ child_ranges r

abbrev pub leaf_ranges : List Entry → List ℕ
leaf_ranges [] = []
leaf_ranges (e ∷ r) = slot_ranges e.slots e.position_base ++ leaf_ranges r

-- in the list xs, the leaf range of each of a node's slots has the positions of the leaf child there
abbrev pub Holding : List ℕ → Entry → Type 0
Holding xs e = (k : ℕ) → take (own_at e.slots k) (drop (e.position_base + own_before e.slots k) xs) ≡ positions_at e.slots k
