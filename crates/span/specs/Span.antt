-- Spans of quarter hours of a day (02, [7]). A day has the quarter hours 0 to 95.
use Rattle.std.specs.Prelude.{Bool, ◌&&◌, List, ℕ, ◌+◌, ◌*◌, eqb, leb, length, get_or}
use Rattle.lists.specs.Below.{all_below}
use Rattle.span.specs.declared.Span.{Span}

-- A span holds the quarter hours from its first to its last, both included. One with first over last holds none.
unfoldable pub holds : Span → ℕ → Bool
holds s q = leb s.first q && leb q s.last

-- ---- lists of spans, two bytes to each pane: its first quarter hour, then its last

abbrev pub first_at : List ℕ → ℕ → ℕ
first_at spans k = get_or spans (2 * k) 0

abbrev pub last_at : List ℕ → ℕ → ℕ
last_at spans k = get_or spans (2 * k + 1) 0

-- the span of pane k
abbrev pub span_at : List ℕ → ℕ → Span
span_at spans k = record { first = first_at spans k; last = last_at spans k }

-- ---- cause 14

-- a quarter hour of a day
unfoldable pub quarter_fits : ℕ → Bool
quarter_fits q = leb q 95

-- first at most last, and both of a day
unfoldable pub span_fits : Span → Bool
unfolding quarter_fits
span_fits s = leb s.first s.last && quarter_fits s.last

-- two bytes to each pane, and each span fits
unfoldable pub spans_fit : (panes : ℕ) → List ℕ → Bool
unfolding all_below span_fits
spans_fit panes spans = eqb (length spans) (2 * panes) && all_below (λ k. span_fits (span_at spans k)) panes
