-- Which nodes a ray reaches at a quarter hour, and which positions it passes then (02, [7]; 01, "Walking").
use Rattle.std.specs.Prelude.{true, List, ◌≡◌, ℕ, ◌*◌, ◌<◌, ◌≤◌, length, get_or}
use Rattle.ray.specs.declared.Ray.{Ray}
use Rattle.span.specs.Span.{holds, quarter_fits}
use Rattle.soundness.specs.Shape.{Holds}
use Rattle.node.specs.Node.{node_at, inner_bit, child_index}
use Rattle.node_slot.specs.Mask.{passes_slot}
use Rattle.record_shape.specs.Record.{node_count, shape_at, SoundRecord}
use Rattle.walk.specs.Listing.{ReachedBy, PassedBy}
use Rattle.side_table.specs.SideTable.{side_span}
use Rattle.timed.specs.Hours.{Timetable, pane_of, drawn}

-- a sound record, and lists that a timed call takes beside it: of no more nodes and positions than there may be, with a row of the side table for
-- each node, a pane for each of its positions, and a quarter hour of a day
pub record SoundAt (bytes : List ℕ) (h : Timetable) : Type 0 where
  pub sound : SoundRecord bytes (length h.indices)
  pub nodes : node_count bytes ≤ 65535
  pub positions : length h.indices ≤ 65536
  pub are_bytes : (i : ℕ) → get_or bytes i 0 < 256
  pub rows : length h.side ≡ 16 * node_count bytes
  pub panes : (p : ℕ) → p < length h.indices → pane_of h p < h.panes
  pub quarter : quarter_fits h.quarter ≡ true

-- node c is the child in slot j of node v
pub record ChildIn (bytes : List ℕ) (v j c : ℕ) : Type 0 where
  pub of_eight_lem : j < 8
  pub inner : inner_bit (node_at bytes v).imask j ≡ 1
  pub is_child : c ≡ child_index (node_at bytes v).child_base_idx (node_at bytes v).imask j

-- ---- by any slots

module _ (Slot : ℕ → ℕ → Type 0) where
  -- node c is the child of node v in such a slot
  pub record ChildBy (bytes : List ℕ) (v c : ℕ) : Type 0 where
    pub slot : ℕ
    pub child : ChildIn bytes v slot c
    pub by_slot : Slot v slot

  -- position p stands in such a slot of node v, and the span of the pane that it names holds the quarter hour
  pub record PositionBy (bytes : List ℕ) (h : Timetable) (v p : ℕ) : Type 0 where
    pub slot : ℕ
    pub stands : Holds (shape_at bytes (length h.indices)) v slot p
    pub by_slot : Slot v slot
    pub own : drawn h p ≡ true

-- ---- by spans alone

-- the span of slot j of node v holds the quarter hour
abbrev pub SpanHolds : Timetable → (v j : ℕ) → Type 0
SpanHolds h v j = holds (side_span h.side v j) h.quarter ≡ true

module _ (bytes : List ℕ) (h : Timetable) where
  -- Node 0 is reached, where there are nodes, and with a node each child in a slot whose span holds the quarter hour.
  abbrev pub ReachedBySpans : ℕ → Type 0
  ReachedBySpans = ReachedBy (node_count bytes) (ChildBy (SpanHolds h) bytes)

  -- A position is passed in a node so reached: its slot's span and its pane's own hold the quarter hour.
  abbrev pub PassedBySpans : ℕ → Type 0
  PassedBySpans = PassedBy (node_count bytes) (ChildBy (SpanHolds h) bytes) (PositionBy (SpanHolds h) bytes h)

  -- ---- by boxes and spans

  module _ (ray : Ray) where
    -- the ray passes the box of slot j of node v, and the slot's span holds the quarter hour
    pub record PassesAt (v j : ℕ) : Type 0 where
      pub box : passes_slot (node_at bytes v) ray j ≡ true
      pub span : SpanHolds h v j

    -- Node 0 is reached, where there are nodes, and with a node each child in a slot whose box the ray passes and whose span holds the quarter hour.
    abbrev pub ReachedAt : ℕ → Type 0
    ReachedAt = ReachedBy (node_count bytes) (ChildBy PassesAt bytes)

    -- A position is passed in a node so reached: the ray passes its slot's box, and the slot's span and the pane's own hold the quarter hour.
    abbrev pub PassedAt : ℕ → Type 0
    PassedAt = PassedBy (node_count bytes) (ChildBy PassesAt bytes) (PositionBy PassesAt bytes h)
