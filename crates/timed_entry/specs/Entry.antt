-- What refuses a timed query between causes 12 and 7 (02, [7]).
use Rattle.std.specs.Prelude.{List, [], ◌∷◌, ℕ, ◌*◌, eqb, length}
use Rattle.causes.specs.Causes.{Condition, ◌unless◌, first_cause}
use Rattle.record_shape.specs.Record.{node_count}
use Rattle.span.specs.Span.{quarter_fits, spans_fit}
use Rattle.timed.specs.Hours.{Timetable}

-- what a timed query is given beside a record and a ray
abbrev pub timetable : (side indices : List ℕ) → (panes : ℕ) → (spans : List ℕ) → (quarter : ℕ) → Timetable
timetable side indices panes spans quarter = record { side = side; indices = indices; panes = panes; spans = spans; quarter = quarter }

-- Over a record of these bytes: a span of a day for each pane, 16 bytes of side table to each node, and a quarter hour of a day.
unfoldable pub timed_conditions : List ℕ → Timetable → List Condition
unfolding spans_fit quarter_fits
timed_conditions bytes h =
    14 unless spans_fit h.panes h.spans ∷ 14 unless eqb (length h.side) (16 * node_count bytes) ∷ 14 unless quarter_fits h.quarter ∷ []

-- cause 14, or 0
abbrev pub timed_cause : List ℕ → Timetable → ℕ
timed_cause bytes h = first_cause (timed_conditions bytes h)
