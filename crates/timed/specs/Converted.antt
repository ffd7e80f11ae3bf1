-- The lists that a conversion leaves beside a wide tree's record (02, [7]).
use Rattle.std.specs.Prelude.{List, ℕ}
use Rattle.lists.specs.At.{words_at}
use Rattle.wide_layout.specs.Wide.{Wide}
use Rattle.wide_layout.specs.Layout.{index_list}
use Rattle.side_table.specs.SideTable.{side_bytes}
use Rattle.timed.specs.Hours.{Timetable}

-- the side table of the spans of its panes, and the index list, at a quarter hour
abbrev pub timetable_of_tree : Wide → (indices : List ℕ) → (panes : ℕ) → (spans : List ℕ) → (quarter : ℕ) → Timetable
timetable_of_tree t indices panes spans quarter =
    record { side = side_bytes spans indices t; indices = words_at indices (index_list t); panes = panes; spans = spans; quarter = quarter }
