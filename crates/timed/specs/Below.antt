-- What lies below a slot of a record's node, and side tables that lose nothing that is drawn (02, [7]).
use Rattle.std.specs.Prelude.{true, List, ◌≡◌, ℕ, ◌<◌, length}
use Rattle.soundness.specs.Shape.{Holds}
use Rattle.record_shape.specs.Record.{node_count, shape_at}
use Rattle.timed.specs.Hours.{Timetable, drawn}
use Rattle.timed.specs.Reached.{ChildIn, SpanHolds}

module _ (bytes : List ℕ) (n : ℕ) where
  -- position p lies below slot j of node v: it stands in the slot's leaf range, or below some slot of the child there
  pub data Below : (v j p : ℕ) → Type 0 where
    stands : {v j p : ℕ} → Holds (shape_at bytes n) v j p → Below v j p
    further : {v j c k p : ℕ} → v < node_count bytes → ChildIn bytes v j c → Below c k p → Below v j p

-- where the own span of a position holds the quarter hour, so do the spans of all slots that it lies below
abbrev pub Covers : List ℕ → Timetable → Type 0
Covers bytes h = (v j p : ℕ) → Below bytes (length h.indices) v j p → drawn h p ≡ true → SpanHolds h v j
