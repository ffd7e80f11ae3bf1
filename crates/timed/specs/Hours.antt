-- What a walk at a quarter hour asks beside boxes (02, [7]): of slots their spans in the side table, of positions those of their panes.
use Rattle.std.specs.Prelude.{Bool, not, ◌&&◌, cond, Option, Some, None, List, ℕ, ◌/◌, ltb, length, get_or}
use Rattle.span.specs.Span.{holds, span_at, quarter_fits}
use Rattle.side_table.specs.SideTable.{side_span}
use Rattle.gate.specs.Gates.{Gates}
use Rattle.timed.specs.declared.Hours.{Hours}

-- what such a walk reads beside the record: the side table, the index list, how many panes there are, the list of their spans, and the quarter hour
pub record Timetable : Type 0 where
  pub side : List ℕ
  pub indices : List ℕ
  pub panes : ℕ
  pub spans : List ℕ
  pub quarter : ℕ

-- as code holds them
abbrev pub timetable_of : Hours → Timetable
timetable_of h = record { side = h.side.now; indices = h.indices.now; panes = h.panes; spans = h.spans.now; quarter = h.quarter }

module _ (h : Timetable) where
  -- ---- slots

  -- the side table has a row of 16 bytes for node v
  abbrev pub has_row : ℕ → Bool
  has_row v = ltb v (length h.side / 16)

  -- slot k of node v is open: its span holds the quarter hour
  abbrev pub slot_open : (v k : ℕ) → Bool
  slot_open v k = has_row v && holds (side_span h.side v k) h.quarter

  -- ---- positions

  -- the pane that position p names
  abbrev pub pane_of : ℕ → ℕ
  pane_of p = get_or h.indices p 0

  -- position p has an index word, and that names a pane
  abbrev pub present : ℕ → Bool
  present p = ltb p (length h.indices) && ltb (pane_of p) h.panes

  -- that pane, if both hold
  abbrev pub pane_at : ℕ → Option ℕ
  pane_at p = cond (present p) (Some (pane_of p)) None

  -- the span of its pane holds the quarter hour
  abbrev pub drawn : ℕ → Bool
  drawn p = holds (span_at h.spans (pane_of p)) h.quarter

  -- ---- the walk

  abbrev pub gates_at : Gates
  gates_at = record { opens = slot_open; admits = drawn; absent = λ p. not (present p); forged = not (quarter_fits h.quarter) }
