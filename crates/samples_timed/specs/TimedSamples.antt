-- The samples of quarter hours (02, [7]) over T and two other trees: side tables, what the samples' ray meets at a quarter hour, and the places of
-- cause 14. The files of `proofs/` compute them.
use Rattle.std.specs.Prelude.{◌≡◌, true, false, List, [], ◌∷◌, ◌++◌, ℕ, zero, suc, take, replicate}
use Rattle.node.specs.Node.{node_at}
use Rattle.node_slot.specs.Mask.{passes_open}
use Rattle.bvh2_to_cwbvh.specs.Conversion.{converted, refused, record_of, index_list_of, conversion_of}
use Rattle.bvh2_to_cwbvh_timed.specs.TimedConversion.{side_of, timed_conversion_of}
use Rattle.walk.specs.Step.{Answer, tested, position, done}
use Rattle.walk.specs.Step as S
use Rattle.walk.specs.WordStep.{fresh_words}
use Rattle.walk_record.specs.WalkRay.{walk_ray}
use Rattle.query.specs.Result.{Result}
use Rattle.any_hit_walk.specs.AnyHit.{AnyHitAnswer, listed}
use Rattle.any_hit_walk.specs.AnyHit as A
use Rattle.closest.specs.Panes.{hit_at, no_hit, refused_closest, missed, blocked}
use Rattle.timed.specs.Hours.{Timetable, gates_at}
use Rattle.timed_entry.specs.Entry.{timetable}
use Rattle.any_hit_timed.specs.Timed.{any_hit_timed_of, list_timed}
use Rattle.closest_timed.specs.Timed.{closest_timed_of, miss_timed_of}
use Rattle.traverse_timed.specs.Walker.{TimedWords, TimedSteppedWords, timed_started, not_begun, timed_step_bytes}
use Rattle.samples.specs.TreeT.{number, words_t, indices_t, panes_t, bytes_t}
use Rattle.samples.specs.Samples.{ahead}
use Rattle.samples.specs.Joins.{root_linked}
use Rattle.samples.specs.Ordering.{nine_leaves, nine_indices}
use Rattle.samples.specs.Further.{closest_is, miss_is}
use Rattle.samples_timed.specs.Screens.{ahead_nan, spans_t, turned_spans, row_of_two, side_t, with_spans, hours_t, with_side}
use Rattle.samples_timed.specs.Screens.{words_pair, bytes_pair, indices_pair, spans_pair, side_pair, pair_at}
use Rattle.samples_timed.specs.Screens.{spans_nine, side_nine, list_nine, nine_at}
use Rattle.samples_timed.specs.Screens.{sevens, call_of, call_t, timed_end, timed_answer, turned_box, cleared_end}
use Rattle.samples_timed.specs.Losses.{TimedLosses}

-- ---- conversion

pub record SideTables : Type 0 where
  -- T at leaf limit 3: its side table, and all else as the untimed conversion leaves it
  pub side_of_T : (timed_end (call_t 3) spans_t).side ≡ side_t ++ sevens 2
  pub untimed_T : (timed_end (call_t 3) spans_t).untimed ≡ conversion_of (call_t 3)
  pub answer_T : (timed_end (call_t 3) spans_t).untimed.answer ≡ converted 1 0
  pub record_of_T : (timed_end (call_t 3) spans_t).untimed.bytes ≡ bytes_t ++ sevens 2
  pub list_of_T : (timed_end (call_t 3) spans_t).untimed.list ≡ 0 ∷ 1 ∷ 7 ∷ []
  -- a leaf child of two panes has the narrowest span over both
  pub record_of_pair : record_of words_pair 3 3 false ≡ bytes_pair
  pub side_of_pair : side_of spans_pair indices_pair words_pair 3 3 false ≡ side_pair
  -- a slot with a node has it over all that is below that node
  pub list_of_nine : index_list_of nine_leaves nine_indices 1 false ≡ list_nine
  pub side_of_nine : side_of spans_nine nine_indices nine_leaves 9 1 false ≡ side_nine
  -- without leaves there is no side table, and no room is asked for
  pub nothing : timed_conversion_of (record { untimed = call_of [] [] 3; panes = 0; spans = []; side = [] })
      ≡ record { untimed = conversion_of (call_of [] [] 3); side = [] }
  pub nothing_answer : timed_answer [] [] 3 spans_t ≡ converted 0 0

-- where cause 14 stands among the causes of conversion
pub record SpanCauses : Type 0 where
  -- a span from 63 to 32: the tables are cleared, and the side slice is as it was
  pub turned : timed_end (call_t 3) turned_spans ≡ cleared_end 14
  -- a span to 96, a byte short, and an index word past the panes
  pub to_96 : timed_answer words_t indices_t 3 (32 ∷ 63 ∷ 60 ∷ 96 ∷ []) ≡ refused 14
  pub short : timed_answer words_t indices_t 3 (take 3 spans_t) ≡ refused 14
  pub no_pane : timed_answer words_t (0 ∷ 2 ∷ []) 3 spans_t ≡ refused 14
  -- a byte short besides: leaf limit 4, no room for the side table, and trees that 6 and 7 refuse
  pub short_limit_4 : timed_answer words_t indices_t 4 (take 3 spans_t) ≡ refused 3
  pub short_room : (timed_conversion_of (record { untimed = call_t 3; panes = 2; spans = take 3 spans_t; side = sevens 15 })).untimed.answer
      ≡ refused 4
  pub short_box : timed_answer turned_box indices_t 3 (take 3 spans_t) ≡ refused 6
  pub short_own_child : timed_answer (root_linked 0) indices_t 3 (take 3 spans_t) ≡ refused 14
  -- with spans that fit it is 7
  pub own_child : timed_answer (root_linked 0) indices_t 3 spans_t ≡ refused 7

-- ---- walks

-- what any-hit answers over T's record, and what it leaves in a slice for three positions
abbrev pub any_hit_t : Timetable → Result AnyHitAnswer
any_hit_t h = any_hit_timed_of bytes_t h ahead 2

abbrev pub listed_t : Timetable → List ℕ
listed_t h = list_timed bytes_t h ahead (sevens 3)

-- so many positions after so many tests, and refused with a number
abbrev pub any_hit_is : (count tests : ℕ) → Result AnyHitAnswer
any_hit_is count tests = record { answer = listed count; tests = tests }

abbrev pub any_hit_refused : ℕ → Result AnyHitAnswer
any_hit_refused number = record { answer = A.refused number; tests = 0 }

pub record TimedAnyHits : Type 0 where
  -- at 40, 61, 70 and 10, each by one test
  pub at_40 : (any_hit_t (hours_t 40) ≡ any_hit_is 1 1) × (listed_t (hours_t 40) ≡ 0 ∷ 7 ∷ 7 ∷ [])
  pub at_61 : (any_hit_t (hours_t 61) ≡ any_hit_is 2 1) × (listed_t (hours_t 61) ≡ 1 ∷ 0 ∷ 7 ∷ [])
  pub at_70 : (any_hit_t (hours_t 70) ≡ any_hit_is 1 1) × (listed_t (hours_t 70) ≡ 1 ∷ 7 ∷ 7 ∷ [])
  pub at_10 : (any_hit_t (hours_t 10) ≡ any_hit_is 0 1) × (listed_t (hours_t 10) ≡ sevens 3)
  -- both ends of a span belong to it
  pub at_32 : listed_t (hours_t 32) ≡ 0 ∷ 7 ∷ 7 ∷ []
  pub at_95 : listed_t (hours_t 95) ≡ 1 ∷ 7 ∷ 7 ∷ []
  -- without nodes
  pub nothing : any_hit_timed_of [] (timetable [] [] 0 [] 40) ahead 0 ≡ any_hit_is 0 0
  -- a leaf child of two panes: at 50 its slot is passed, B's is not, and nothing is listed; at 0 and at 95 one of them is
  pub pair_passed : (passes_open (gates_at (pair_at 50)) 0 (node_at bytes_pair 0) ahead 0 ≡ true)
      × (passes_open (gates_at (pair_at 50)) 0 (node_at bytes_pair 0) ahead 1 ≡ false)
  pub pair_at_50 : any_hit_timed_of bytes_pair (pair_at 50) ahead 3 ≡ any_hit_is 0 1
  pub pair_at_0 : list_timed bytes_pair (pair_at 0) ahead (sevens 3) ≡ 0 ∷ 7 ∷ 7 ∷ []
  pub pair_at_95 : list_timed bytes_pair (pair_at 95) ahead (sevens 3) ≡ 1 ∷ 7 ∷ 7 ∷ []
  -- a side table is used as it is read: a slot from 0 to 255, and one from 95 to 0
  pub read_wide : listed_t (with_side (row_of_two 0 255 0 255) 40) ≡ 1 ∷ 0 ∷ 7 ∷ []
  pub read_turned : (any_hit_t (with_side (row_of_two 0 255 95 0) 40) ≡ any_hit_is 1 1)
      × (listed_t (with_side (row_of_two 0 255 95 0) 40) ≡ 0 ∷ 7 ∷ 7 ∷ [])
  -- an index word past the panes: met, and behind a slot that is not passed
  pub no_pane : any_hit_t (timetable side_t (0 ∷ 2 ∷ []) 2 spans_t 61) ≡ any_hit_refused 10
  pub no_pane_unmet : any_hit_t (timetable side_t (0 ∷ 2 ∷ []) 2 spans_t 40) ≡ any_hit_is 1 1

-- what any-hit answers over the record of the nine leaves, and what it lists
abbrev pub nine_any_hit : ℕ → Result AnyHitAnswer
nine_any_hit quarter = any_hit_timed_of (record_of nine_leaves 9 1 false) (nine_at quarter) ahead 3

abbrev pub nine_listed : ℕ → List ℕ
nine_listed quarter = list_timed (record_of nine_leaves 9 1 false) (nine_at quarter) ahead (sevens 3)

-- a node is tested only where the span of its slot holds the quarter hour
pub record TimedNodes : Type 0 where
  -- at 5 pane 0, at position 7 in the second node; at 25 pane 2, at position 0 in the first
  pub at_5 : (nine_any_hit 5 ≡ any_hit_is 1 2) × (nine_listed 5 ≡ 7 ∷ 7 ∷ 7 ∷ [])
  pub at_15 : (nine_any_hit 15 ≡ any_hit_is 1 2) × (nine_listed 15 ≡ 8 ∷ 7 ∷ 7 ∷ [])
  pub at_25 : (nine_any_hit 25 ≡ any_hit_is 1 1) × (nine_listed 25 ≡ 0 ∷ 7 ∷ 7 ∷ [])
  -- after the last span
  pub at_90 : (nine_any_hit 90 ≡ any_hit_is 0 1) × (nine_listed 90 ≡ sevens 3)

pub record TimedRefusals : Type 0 where
  -- a span from 63 to 32, a byte short, a quarter hour of 96, and a side table a byte short
  pub turned : any_hit_t (with_spans turned_spans 40) ≡ any_hit_refused 14
  pub short : any_hit_t (with_spans (take 3 spans_t) 40) ≡ any_hit_refused 14
  pub at_96 : (any_hit_t (hours_t 96) ≡ any_hit_refused 14) × (listed_t (hours_t 96) ≡ sevens 3)
  pub short_side : any_hit_t (with_side (take 15 side_t) 40) ≡ any_hit_refused 14
  -- it comes before a reach that is no number, and after a record of 79 bytes
  pub at_96_nan : any_hit_timed_of bytes_t (hours_t 96) ahead_nan 2 ≡ any_hit_refused 14
  pub at_40_nan : any_hit_timed_of bytes_t (hours_t 40) ahead_nan 2 ≡ any_hit_refused 9
  pub at_96_record : any_hit_timed_of (take 79 bytes_t) (hours_t 96) ahead_nan 2 ≡ any_hit_refused 1
  pub closest_at_96 : closest_timed_of bytes_t side_t indices_t panes_t spans_t 96 ahead_nan ≡ closest_is (refused_closest 14) 0

pub record TimedPanes : Type 0 where
  -- the nearest pane that is drawn
  pub closest_at_40 : closest_timed_of bytes_t side_t indices_t panes_t spans_t 40 ahead ≡ closest_is (hit_at 0 (number 1)) 1
  pub closest_at_61 : closest_timed_of bytes_t side_t indices_t panes_t spans_t 61 ahead ≡ closest_is (hit_at 0 (number 1)) 1
  pub closest_at_70 : closest_timed_of bytes_t side_t indices_t panes_t spans_t 70 ahead ≡ closest_is (hit_at 1 (number 3)) 1
  pub closest_at_10 : closest_timed_of bytes_t side_t indices_t panes_t spans_t 10 ahead ≡ closest_is no_hit 1
  pub miss_at_40 : miss_timed_of bytes_t side_t indices_t panes_t spans_t 40 ahead ≡ miss_is blocked 1
  pub miss_at_10 : miss_timed_of bytes_t side_t indices_t panes_t spans_t 10 ahead ≡ miss_is missed 1
  -- a box that is not accepted, of a pane that is not drawn, whose slot is passed
  pub bad_box_undrawn : closest_timed_of bytes_t (row_of_two 32 63 0 95) indices_t (take 6 panes_t ++ (number 1 ∷ replicate 5 (number 0)))
      spans_t 40 ahead ≡ closest_is (hit_at 0 (number 1)) 1
  pub bad_box_drawn : closest_timed_of bytes_t side_t indices_t (take 6 panes_t ++ (number 1 ∷ replicate 5 (number 0))) spans_t 61 ahead
      ≡ closest_is (refused_closest 6) 0

-- ---- steps

-- a walker begun at a quarter hour
abbrev pub begun_at : ℕ → TimedWords
begun_at quarter = record { walker = fresh_words (walk_ray ahead); quarter = quarter }

-- its step over T's record with these spans
abbrev pub stepped : List ℕ → TimedWords → TimedSteppedWords
stepped spans w = timed_step_bytes bytes_t side_t indices_t 2 spans w

-- the answers of so many steps, one after the other
abbrev pub answers_of : ℕ → TimedWords → List Answer
answers_of zero w = []
answers_of (suc k) w = (stepped spans_t w).answer ∷ answers_of k (stepped spans_t w).walker

pub record TimedSteps : Type 0 where
  -- the node's test, the positions that are drawn, and done
  pub at_40 : answers_of 3 (begun_at 40) ≡ tested 0 ∷ position 0 ∷ done ∷ []
  pub at_61 : answers_of 4 (begun_at 61) ≡ tested 0 ∷ position 1 ∷ position 0 ∷ done ∷ []
  pub at_10 : answers_of 2 (begun_at 10) ≡ tested 0 ∷ done ∷ []
  -- a walker begins at 40, and none at 96, whatever its ray, nor with a reach that is no number
  pub begins_40 : timed_started ahead 40 ≡ record { walker = begun_at 40; refused = 0 }
  pub begins_96 : timed_started ahead 96 ≡ not_begun 14
  pub begins_96_nan : timed_started ahead_nan 96 ≡ not_begun 14
  pub begins_40_nan : timed_started ahead_nan 40 ≡ not_begun 9
  -- a walker of 96 is forged, but lists that do not fit come first; either way it is given back
  pub forged_96 : stepped spans_t (begun_at 96) ≡ record { walker = begun_at 96; answer = S.refused 10 }
  pub short_96 : stepped (take 3 spans_t) (begun_at 96) ≡ record { walker = begun_at 96; answer = S.refused 14 }

-- all of them
pub record TimedSamples : Type 0 where
  pub tables : SideTables
  pub causes : SpanCauses
  pub any_hits : TimedAnyHits
  pub nodes : TimedNodes
  pub refusals : TimedRefusals
  pub panes : TimedPanes
  pub steps : TimedSteps
  pub losses : TimedLosses
