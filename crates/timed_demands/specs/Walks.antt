-- What is claimed of any-hit and of lists of calls at a quarter hour (02, [7]; 01, "Walking"), and over which records and lists.
use Rattle.std.specs.Prelude.{true, ◌↔◌, ◌≡◌, ℕ, ◌%◌, ◌≤◌, length, take}
use mathlib.Core.List.{List, Nodup}
use Rattle.std.specs.List.{filter}
use Rattle.lists.specs.Counts.{count}
use Rattle.ray.specs.declared.Ray.{Ray}
use Rattle.span.specs.Span.{spans_fit}
use Rattle.walk.specs.Calls.{All}
use Rattle.walk.specs.Listing.{In}
use Rattle.query.specs.Met.{positions_met_by, tests_made_by}
use Rattle.query.specs.Result.{unanswered}
use Rattle.any_hit_walk.specs.AnyHit.{listed, lacking}
use Rattle.any_hit.specs.AnyHit.{any_hit_of}
use Rattle.timed.specs.Hours.{Timetable, drawn, gates_at}
use Rattle.timed.specs.Reached.{SoundAt, ReachedAt, PassedAt}
use Rattle.any_hit_timed.specs.Timed.{any_hit_timed_of, list_timed}
use Rattle.demands.specs.Walks as U
use Rattle.timed_demands.specs.Calls.{TimedOp, timed_reports, timed_waiting}

-- a sound record of whole nodes, and lists that a timed call takes beside it: a span of a day for each pane too
pub record CheckedAt (bytes : List ℕ) (h : Timetable) : Type 0 where
  pub sound_at : SoundAt bytes h
  pub layout : length bytes % 80 ≡ 0
  pub spans : spans_fit h.panes h.spans ≡ true

module _ (bytes : List ℕ) (h : Timetable) (ray : Ray) where
  -- the positions that any-hit's walk finds then, and the node tests that it counts
  abbrev pub found : List ℕ
  found = positions_met_by (gates_at h) bytes (length h.indices) ray

  abbrev pub counted : ℕ
  counted = tests_made_by (gates_at h) bytes (length h.indices) ray

  -- room for any list of positions that boxes and spans let through, each once: a list is long enough exactly if all of them fit
  abbrev pub LongEnough : ℕ → Type 0
  LongEnough k = (l : List ℕ) → Nodup l → ((p : ℕ) → In p l → PassedAt bytes h ray p) → length l ≤ k

  -- so many from the front of the list that the call leaves
  abbrev pub list_left : List ℕ → List ℕ
  list_left before = take (length found) (list_timed bytes h ray before)

  -- The answer and the list of the call, for a list as it was before: so many positions after so many tests. Each position passed then stands among
  -- them once, and no other; and the tests are as many as the nodes reached then.
  pub record ListsAt (before : List ℕ) : Type 0 where
    pub answer : any_hit_timed_of bytes h ray (length before) ≡ record { answer = listed (length found); tests = counted }
    pub passed_once : (p : ℕ) → PassedAt bytes h ray p → count p (list_left before) ≡ 1
    pub no_other : (p : ℕ) → ¬ (PassedAt bytes h ray p) → count p (list_left before) ≡ 0

  pub record TestsAt : Type 0 where
    pub reached : List ℕ
    pub reached_once : Nodup reached
    pub reached_all : (v : ℕ) → In v reached ↔ ReachedAt bytes h ray v
    pub tests : counted ≡ length reached

  -- For a list that is short: the length needed is the number of positions passed, and the list is as it was.
  pub record LacksAt (before : List ℕ) : Type 0 where
    pub passed : List ℕ
    pub passed_once : Nodup passed
    pub passed_all : (p : ℕ) → In p passed ↔ PassedAt bytes h ray p
    pub answer : any_hit_timed_of bytes h ray (length before) ≡ unanswered (lacking 11 (length passed))
    pub kept : list_timed bytes h ray before ≡ before

  -- The timed call and the untimed one, each with the same list, are answered, and the timed one's list is the untimed one's without the positions
  -- whose own spans do not hold the quarter hour, in the same sequence.
  pub record FilteredAt (before : List ℕ) : Type 0 where
    pub timed : any_hit_timed_of bytes h ray (length before) ≡ record { answer = listed (length found); tests = counted }
    pub untimed : any_hit_of bytes (length h.indices) ray (length before)
        ≡ record { answer = listed (length (U.found bytes ray (length h.indices))); tests = U.counted bytes ray (length h.indices) }
    pub filtered : list_left before ≡ filter (drawn h) (U.list_left bytes ray (length h.indices) before)

  -- ---- steps and tellings

  -- where the record has this deepest level
  pub record StepsAt (deepest : ℕ) (l : List TimedOp) : Type 0 where
    -- no position is reported twice,
    pub no_position_twice : Nodup (timed_reports bytes ray h.quarter l)
    -- only positions that boxes and spans let through for the ray as begun are reported, whatever is told,
    pub only_passed : All (PassedAt bytes h ray) (timed_reports bytes ray h.quarter l)
    -- and the waiting groups of the walker then held do not outnumber the deepest level.
    pub groups_within_level : timed_waiting bytes ray h.quarter l ≤ deepest
