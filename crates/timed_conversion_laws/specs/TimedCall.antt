-- What a call of the timed conversion leaves (02, [7]).
use Rattle.std.specs.Prelude.{List, ◌≡◌, ℕ, ◌*◌, take}
use Rattle.wide_layout.specs.Wide.{Wide}
use Rattle.wide_tree.specs.Ordered.{wide_tree_of}
use Rattle.timed.specs.Hours.{Timetable}
use Rattle.bvh2_tables.specs.Call.{leaf_count}
use Rattle.bvh2_to_cwbvh.specs.Conversion.{converted}
use Rattle.bvh2_to_cwbvh_timed.specs.TimedConversion.{TimedCall, timed_conversion_of}

-- it is answered, with a record of m nodes whose deepest level is d
abbrev pub TimedAnswers : TimedCall → ℕ → ℕ → Type 0
TimedAnswers c m d = (timed_conversion_of c).untimed.answer ≡ converted m d

-- the record: 80 bytes to each of its nodes, from the slice's start on
abbrev pub timed_record_at : TimedCall → ℕ → List ℕ
timed_record_at c m = take (80 * m) (timed_conversion_of c).untimed.bytes

-- the index list: a word for each leaf
abbrev pub timed_list_at : TimedCall → List ℕ
timed_list_at c = take (leaf_count c.untimed) (timed_conversion_of c).untimed.list

-- the side table: 16 bytes to each node
abbrev pub side_at : TimedCall → ℕ → List ℕ
side_at c m = take (16 * m) (timed_conversion_of c).side

-- the wide tree whose record it is
abbrev pub wide_of_call : TimedCall → Wide
wide_of_call c = let u = c.untimed in wide_tree_of u.words u.ordered u.limit

-- and what a walk over it at a quarter hour is given
abbrev pub timetable_left : TimedCall → (m quarter : ℕ) → Timetable
timetable_left c m quarter = record { side = side_at c m; indices = timed_list_at c; panes = c.panes; spans = c.spans; quarter = quarter }
