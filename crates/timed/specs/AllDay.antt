-- A day without screens drawn or opened (02, [7]): every span is the whole day.
use Rattle.std.specs.Prelude.{true, List, ◌≡◌, ℕ, ◌*◌, ◌<◌, length}
use Rattle.span.specs.declared.Span.{Span}
use Rattle.span.specs.Span.{span_at, quarter_fits}
use Rattle.node.specs.Node.{node_at}
use Rattle.record_shape.specs.Record.{node_count, meta_at}
use Rattle.side_table.specs.SideTable.{side_span}
use Rattle.timed.specs.Hours.{Timetable}

-- the quarter hours 0 to 95
abbrev pub whole_day : Span
whole_day = record { first = 0; last = 95 }

-- Every slot that is not empty, its meta byte not being 0, has the whole day in the side table, which has a row for each node; so has every pane in
-- the list; and the quarter hour is one of a day.
pub record AllDay (bytes : List ℕ) (h : Timetable) : Type 0 where
  pub rows : length h.side ≡ 16 * node_count bytes
  pub slots : (v k : ℕ) → v < node_count bytes → k < 8 → ¬ (meta_at (node_at bytes v) k ≡ 0) → side_span h.side v k ≡ whole_day
  pub panes : (k : ℕ) → k < h.panes → span_at h.spans k ≡ whole_day
  pub quarter : quarter_fits h.quarter ≡ true
