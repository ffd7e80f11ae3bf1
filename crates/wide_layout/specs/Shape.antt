-- The layout by node number, and the shape of the record that it makes (01, "Words, bytes and bounds").
use Rattle.std.specs.Prelude.{true, false, List, [], ◌∷◌, ◌≡◌, ℕ, ◌+◌, ◌<◌, ◌≤◌, eqb}
use Rattle.soundness.specs.Shape.{Shape}
use Rattle.wide_layout.specs.Wide.{Wide}
use Rattle.wide_layout.specs.Sizes.{inner_children, inner_before, inner_at, own_count, own_before, own_at}
use Rattle.wide_layout.specs.Layout.{Entry, entry, layout, EachEntry, nodes, index_count}

-- the first of the nodes that has number v, and d if none has
abbrev pub entry_numbered : List Entry → Entry → ℕ → Entry
entry_numbered [] d v = d
entry_numbered (e ∷ r) d v = elim (eqb e.number v) [ true ↦ e | false ↦ entry_numbered r d v ]

-- node v of a wide tree's layout; past the last number, the first node
unfoldable pub layout_entry : Wide → ℕ → Entry
layout_entry t v = entry_numbered (layout t) (entry t.box t.slots 0 0 0 0 1 0) v

-- A node among m nodes and n positions: its number is one of theirs, its children come later, and its ranges end with them.
pub record EntryInside (m n : ℕ) (e : Entry) : Type 0 where
  pub number : e.number < m
  pub later : e.number < e.child_base
  pub nodes : e.child_base + inner_children e.slots ≤ m
  pub positions : e.position_base + own_count e.slots ≤ n

-- A record has a layout's shape if it says the same of every node's ranges, wherever a leaf range that is empty may start.
pub record ReadsNode (S : Shape) (e : Entry) : Type 0 where
  pub base : S.base e.number ≡ e.child_base
  pub children : S.children e.number ≡ inner_children e.slots
  pub count : (s : ℕ) → s < 8 → S.count e.number s ≡ own_at e.slots s
  pub start : (s : ℕ) → s < 8 → 0 < own_at e.slots s → S.start e.number s ≡ e.position_base + own_before e.slots s

pub record Reads (S : Shape) (t : Wide) : Type 0 where
  pub nodes : S.nodes ≡ nodes t
  pub positions : S.positions ≡ index_count t
  pub each : EachEntry (ReadsNode S) (layout t)

-- How a node other than the first hangs in its parent, where `node` gives every node by its number: the parent comes earlier, its slot has an
-- inner child, the node has the number of that child, and its level is the parent's plus 1.
pub record Linked (node : ℕ → Entry) (e : Entry) : Type 0 where
  pub earlier : e.parent < e.number
  pub slot : e.slot < 8
  pub inner : inner_at (node e.parent).slots e.slot ≡ 1
  pub number : e.number ≡ (node e.parent).child_base + inner_before (node e.parent).slots e.slot
  pub level : e.level ≡ (node e.parent).level + 1
