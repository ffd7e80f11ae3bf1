-- The side table of a wide tree's record (02, [7]): beside each node 16 bytes, the spans of its slots.
use Rattle.std.specs.Prelude.{List, [], ◌∷◌, ℕ, ◌+◌, ◌*◌}
use Rattle.lists.specs.At.{words_at}
use Rattle.span.specs.declared.Span.{Span}
use Rattle.span.specs.Span.{span_at}
use Rattle.span.specs.Hull.{hull}
use Rattle.wide_layout.specs.Wide.{Slots, Wide}
use Rattle.wide_layout.specs.Content.{Content, none, leaf_child, inner_child, content_at}
use Rattle.wide_layout.specs.Sizes.{slots_positions}
use Rattle.wide_layout.specs.Layout.{Entry, nodes}
use Rattle.wide_layout.specs.Shape.{layout_entry}
use Rattle.record.specs.Record.{joined_below}

-- the positions below what stands in a slot
unfoldable pub positions_under : Content → List ℕ
positions_under none = []
positions_under (leaf_child b ps) = ps
positions_under (inner_child b t) = slots_positions t

-- the panes below slot i: the index words of the positions there
unfoldable pub panes_under : {w : ℕ} → (indices : List ℕ) → Slots w → ℕ → List ℕ
unfolding positions_under content_at
panes_under indices s i = words_at indices (positions_under (content_at s i))

-- the span of slot i: the narrowest that holds the spans of all panes below it, and 0 and 0 where there are none
unfoldable pub slot_span : {w : ℕ} → (spans indices : List ℕ) → Slots w → ℕ → Span
unfolding hull panes_under
slot_span spans indices s i = hull spans (panes_under indices s i)

-- ---- as bytes

-- the first quarter hour, then the last
abbrev pub span_bytes : Span → List ℕ
span_bytes s = s.first ∷ s.last ∷ []

-- a node's 16 bytes: slot i's span from byte 2i on
unfoldable pub node_spans : (spans indices : List ℕ) → Entry → List ℕ
unfolding joined_below slot_span
node_spans spans indices e = joined_below 8 (λ i. span_bytes (slot_span spans indices e.slots i))

-- the table: the nodes by their numbers, 16 bytes each
unfoldable pub side_bytes : (spans indices : List ℕ) → Wide → List ℕ
unfolding joined_below layout_entry node_spans
side_bytes spans indices t = joined_below (nodes t) (λ v. node_spans spans indices (layout_entry t v))

-- as it is read: the span of slot i of node v, its first quarter hour at byte 16v + 2i and its last behind it
abbrev pub side_span : List ℕ → (v i : ℕ) → Span
side_span side v i = span_at side (8 * v + i)
