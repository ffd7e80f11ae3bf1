-- What is claimed of walks (01, "Walking"; "Words, bytes and bounds"): that done stays done; over which records the others are made; and those.
use Rattle.std.specs.Prelude.{true, ◌↔◌, ◌≡◌, ℕ, ◌%◌, ◌≤◌, ◌<◌, Float, length, get_or, take}
use mathlib.Core.List.{List, [], ◌∷◌, Nodup}
use Rattle.lists.specs.Counts.{count}
use Rattle.ray.specs.declared.Vec3.{Vec3}
use Rattle.ray.specs.declared.Ray.{Ray}
use Rattle.ray.specs.Ray.{ray_of, accepted_ray}
use Rattle.record_shape.specs.Record.{node_count, SoundRecord, DeepestLevel}
use Rattle.walk.specs.Step.{Answer, tested, position, done, refused}
use Rattle.walk.specs.Calls.{All, Op, reported, Answered, StepsWith}
use Rattle.walk.specs.Listing.{In}
use Rattle.walk.specs.WordStep.{RunWords}
use Rattle.walk_record.specs.WalkRay.{WalkRay, walk_ray, by_boxes}
use Rattle.walk_record.specs.Walk.{listing_at, Reached, Passed}
use Rattle.query.specs.Met.{positions_met, tests_made}
use Rattle.traverse.specs.Walker.{started}
use Rattle.traverse.specs.Calls.{run_bytes}
use Rattle.any_hit.specs.AnyHit.{listed, any_hit_of, list_after}

-- the answer is done or a refusal: nothing is tested and nothing reported
abbrev pub DoneOrRefused : Answer → Type 0
DoneOrRefused (tested v) = ⊥
DoneOrRefused (position p) = ⊥
DoneOrRefused done = Unit {0}
DoneOrRefused (refused e) = Unit {0}

-- done stays done: once an answer is done, every later one is done or a refusal
abbrev pub DoneStays : List Answer → Type 0
DoneStays [] = Unit {0}
DoneStays (a ∷ l) = (a ≡ done → All DoneOrRefused l) × DoneStays l

-- a sound record of n positions with deepest level d, of sizes that the record check takes; each member is a byte, as in any slice of bytes
pub record CheckedRecord (bytes : List ℕ) (n d : ℕ) : Type 0 where
  pub sound : SoundRecord bytes n
  pub deepest : DeepestLevel bytes n d
  pub layout : length bytes % 80 ≡ 0
  pub nodes : node_count bytes ≤ 65535
  pub positions : n ≤ 65536
  pub are_bytes : (i : ℕ) → get_or bytes i 0 < 256

-- a ray as it is made from its origin, direction, start and reach, of which cause 9 does not hold
pub record AcceptedRay (ray : Ray) : Type 0 where
  pub origin : Vec3
  pub direction : Vec3
  pub tmin : Float
  pub tmax : Float
  pub made : ray ≡ ray_of origin direction tmin tmax
  pub accepted : accepted_ray ray ≡ true

-- a list of calls: steps, each with the count of positions that it brings, and distances told
abbrev pub Calls : Type 0
Calls = List (Op Float)

-- ---- the walks of a ray over a record

module _ (bytes : List ℕ) (ray : Ray) where
  -- the run of a list of calls on the record, from the walker that `Walker::new` promises: each call takes the walker that the last left, and a
  -- refused step leaves the one that it took
  abbrev pub run : Calls → RunWords WalkRay
  run l = run_bytes bytes l (started ray).walker

  -- the answers of its steps
  abbrev pub answers : Calls → List Answer
  answers l = (run l).answers

  -- the positions that these report, in order
  abbrev pub reports : Calls → List ℕ
  reports l = reported (answers l)

  -- how many groups wait in the walker that it leaves
  abbrev pub waiting : Calls → ℕ
  waiting l = (run l).walker.depth

  module _ (n : ℕ) where
    -- ---- any-hit, the record taken to have n positions

    -- the positions that any-hit's walk finds, and the node tests that it counts
    abbrev pub found : List ℕ
    found = positions_met bytes n ray

    abbrev pub counted : ℕ
    counted = tests_made bytes n ray

    -- room for any list of positions that the ray passes, each once: a list is long enough exactly if all of them fit
    abbrev pub LongEnough : ℕ → Type 0
    LongEnough k = (l : List ℕ) → Nodup l → ((p : ℕ) → In p l → Passed bytes n ray p) → length l ≤ k

    -- so many from the front of the list that the public call leaves
    abbrev pub list_left : List ℕ → List ℕ
    list_left before = take (length found) (list_after bytes n ray before)

    -- The answer and the list of the public call, for a list as it was before: so many positions after so many tests. They are the first node's
    -- listing; each position passed stands among them once, and no other; and the tests are as many as the nodes reached.
    pub record AnyHitLists (before : List ℕ) : Type 0 where
      pub answer : any_hit_of bytes n ray (length before) ≡ record { answer = listed (length found); tests = counted }
      pub listing : list_left before ≡ listing_at bytes by_boxes n (walk_ray ray)
      pub passed_once : (p : ℕ) → Passed bytes n ray p → count p (list_left before) ≡ 1
      pub no_other : (p : ℕ) → ¬ (Passed bytes n ray p) → count p (list_left before) ≡ 0
      pub reached : List ℕ
      pub reached_once : Nodup reached
      pub reached_all : (v : ℕ) → In v reached ↔ Reached bytes n ray v
      pub tests : counted ≡ length reached

    -- ---- the third demand, the walk's half

    -- where the record has this deepest level
    pub record Walks (deepest : ℕ) : Type 0 where
      -- For every list of calls, refused steps included: no position is reported twice,
      pub no_position_twice : (l : Calls) → Nodup (reports l)
      -- only positions that the ray passes with the reach it began with are reported, whatever is told,
      pub only_passed : (l : Calls) → All (Passed bytes n ray) (reports l)
      -- the waiting groups of the walker then held don't outnumber the deepest level,
      pub groups_within_level : (l : Calls) → waiting l ≤ deepest
      -- and where each step brings the record's own count of positions none is refused.
      pub no_step_refused : (l : Calls) → All (StepsWith n) l → All Answered (answers l)
      -- With a list that has room for all passed positions any-hit is not refused; its list has a position exactly when the ray passes every slot
      -- box down to it, once each; and the node tests that it counted are as many as the nodes so reached.
      pub any_hit_lists : (before : List ℕ) → LongEnough (length before) → AnyHitLists before
      -- A list with room for every position is long enough.
      pub any_hit_lists_all : (before : List ℕ) → n ≤ length before → AnyHitLists before
