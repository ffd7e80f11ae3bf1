-- What the samples of quarter hours (02, [7]) are given: of T and two other trees the panes' spans, the side tables of these, and the lists of a walk
-- at a quarter hour; and calls of the timed conversion.
use Rattle.std.specs.Prelude.{false, List, [], ◌∷◌, ◌++◌, ℕ, length, take, drop, replicate}
use Rattle.std.specs.Float.{nan}
use Rattle.float.specs.Compare.{plus_zero}
use Rattle.ray.specs.declared.Ray.{Ray}
use Rattle.bvh2_tables.specs.Call.{Call}
use Rattle.bvh2_to_cwbvh.specs.Conversion.{ConversionAnswer, refused}
use Rattle.bvh2_to_cwbvh_timed.specs.TimedConversion.{TimedOutcome, timed_conversion_of}
use Rattle.timed.specs.Hours.{Timetable}
use Rattle.timed_entry.specs.Entry.{timetable}
use Rattle.samples.specs.TreeT.{number, words_t, indices_t, bytes_t, ray_along}
use Rattle.samples.specs.Ordering.{row_node}

-- the samples' ray with a reach that is no number
abbrev pub ahead_nan : Ray
ahead_nan = ray_along (number 0) nan

-- ---- spans and their table

-- pane 0 is drawn from 32 to 63, pane 1 from 60 to 95
abbrev pub spans_t : List ℕ
spans_t = 32 ∷ 63 ∷ 60 ∷ 95 ∷ []

-- pane 0's span the other way round
abbrev pub turned_spans : List ℕ
turned_spans = 63 ∷ 32 ∷ 60 ∷ 95 ∷ []

-- both panes are drawn all day
abbrev pub all_day : List ℕ
all_day = 0 ∷ 95 ∷ 0 ∷ 95 ∷ []

-- a node's row of a side table: the spans of slots 0 and 1, and nothing in the others
abbrev pub row_of_two : (first_0 last_0 first_1 last_1 : ℕ) → List ℕ
row_of_two first_0 last_0 first_1 last_1 = first_0 ∷ last_0 ∷ first_1 ∷ last_1 ∷ replicate 12 0

-- T's: 203f3c5f and 24 zero digits
abbrev pub side_t : List ℕ
side_t = row_of_two 32 63 60 95

-- T's lists at a quarter hour, with these spans
abbrev pub with_spans : List ℕ → ℕ → Timetable
with_spans spans quarter = timetable side_t indices_t 2 spans quarter

abbrev pub hours_t : ℕ → Timetable
hours_t quarter = with_spans spans_t quarter

-- with this side table, where both panes are drawn all day
abbrev pub with_side : List ℕ → ℕ → Timetable
with_side side quarter = timetable side indices_t 2 all_day quarter

-- ---- one leaf child of two panes

-- T with a second leaf in A's place: A's node is inner, the leaves below it have positions 0 and 1, and B has position 2
abbrev pub words_pair : List ℕ
words_pair =
    row_node 0 3 1 ++ (row_node 0 1 3 ++ (row_node 2 3 0x4000_0002 ++ (row_node 0 1 0x4000_0000 ++ row_node 0 1 0x4000_0001)))

abbrev pub indices_pair : List ℕ
indices_pair = 0 ∷ 1 ∷ 2 ∷ []

-- its record: T's, but that slot 0 has two positions
abbrev pub bytes_pair : List ℕ
bytes_pair = take 24 bytes_t ++ (0x60 ∷ 0x22 ∷ drop 26 bytes_t)

-- pane 0 is drawn from 0 to 10, pane 1 from 90 to 95, and B's at 48 alone; the side table has one span over the first two
abbrev pub spans_pair : List ℕ
spans_pair = 0 ∷ 10 ∷ 90 ∷ 95 ∷ 48 ∷ 48 ∷ []

abbrev pub side_pair : List ℕ
side_pair = row_of_two 0 95 48 48

abbrev pub pair_at : ℕ → Timetable
pair_at quarter = timetable side_pair indices_pair 3 spans_pair quarter

-- ---- two nodes

-- The samples' nine leaves in a row: their record has a second node in slot 0 of the first, with the first two leaves. Pane k is drawn from 10 k to
-- 10 k + 9.
abbrev pub spans_nine : List ℕ
spans_nine = 0 ∷ 9 ∷ 10 ∷ 19 ∷ 20 ∷ 29 ∷ 30 ∷ 39 ∷ 40 ∷ 49 ∷ 50 ∷ 59 ∷ 60 ∷ 69 ∷ 70 ∷ 79 ∷ 80 ∷ 89 ∷ []

-- slot 0 from 0 to 19 and the other panes' own spans behind it; then the second node's row
abbrev pub side_nine : List ℕ
side_nine = (0 ∷ 19 ∷ drop 4 spans_nine) ++ row_of_two 0 9 10 19

abbrev pub list_nine : List ℕ
list_nine = 2 ∷ 3 ∷ 4 ∷ 5 ∷ 6 ∷ 7 ∷ 8 ∷ 0 ∷ 1 ∷ []

abbrev pub nine_at : ℕ → Timetable
nine_at quarter = timetable side_nine list_nine 9 spans_nine quarter

-- ---- conversion

-- what the slices hold before
abbrev pub sevens : ℕ → List ℕ
sevens k = replicate k 7

-- a call with ordering off: room in record and list for two leaves and a little more, and working slices as long as there are words
abbrev pub call_of : (words indices : List ℕ) → (limit : ℕ) → Call
call_of words indices limit = record {
  words = words;
  indices = indices;
  limit = limit;
  ordered = false;
  decisions = sevens (length words);
  costs = replicate (length words) (number 7);
  bytes = sevens 82;
  list = sevens 3;
}

-- T's, with a leaf limit
abbrev pub call_t : ℕ → Call
call_t limit = call_of words_t indices_t limit

-- how the timed conversion of such a call ends, with two panes
abbrev pub timed_end : Call → (spans : List ℕ) → TimedOutcome
timed_end c spans = timed_conversion_of (record { untimed = c; panes = 2; spans = spans; side = sevens 18 })

-- and what it answers
abbrev pub timed_answer : (words indices : List ℕ) → (limit : ℕ) → (spans : List ℕ) → ConversionAnswer
timed_answer words indices limit spans = (timed_end (call_of words indices limit) spans).untimed.answer

-- T with a box that begins at 4 and ends at 3 at its root
abbrev pub turned_box : List ℕ
turned_box = row_node 4 3 1 ++ drop 7 words_t

-- how T's conversion ends that is refused with a number, after its tables are begun: they are zero, and all else is as it was
abbrev pub cleared_end : ℕ → TimedOutcome
cleared_end number = record {
  untimed = record {
    answer = refused number;
    decisions = replicate 21 0;
    costs = replicate 21 plus_zero;
    bytes = sevens 82;
    list = sevens 3;
  };
  side = sevens 18;
}
