-- A walker of words and its step, in the order in which code takes it (01, "Walking"; "Causes of refusal"). It is defined for all words.
use Rattle.std.specs.Prelude.{Bool, true, false, not, ◌&&◌, ◌||◌, ◌≡◌, eqb, leb, ltb, length, get_or, replicate}
use Rattle.std.proofs.Math.Bool.{cond}
use mathlib.Core.List.{List, [], ◌∷◌}
use Prim.Native.Nat.{ℕ, zero, suc, ◌+◌, ◌-◌, ◌*◌, ◌/◌, ◌%◌, ◌^◌, ◌≤◌, ◌<◌}
use Rattle.faststack.specs.Stack.{capacity, has_room, pushed, top_of}
use Rattle.walk.specs.Tests.{Tests}
use Rattle.walk.specs.Step.{Walker, Answer, tested, position, done, refused, Stepped, stay}
use Rattle.walk.specs.Calls.{Op, step, tell, Run}
use Rattle.causes.specs.Sizes.{sizes_fit}
use Rattle.walk.specs.Words.{Group, packed, unpacked, positions_in, children_in, groups_in, rest_of, first_position, past_skipped, first_child}
use Rattle.walk.specs.Words.{has_child, waiting_depth}

pub record WalkerWords (RayData : Type 0) : Type 0 where
  pub ray : RayData
  pub tests : ℕ
  -- positions in hand, and the group in hand
  pub positions : Group
  pub current : Group
  -- how many groups wait, and their words, the last pushed highest
  pub depth : ℕ
  pub stack : List ℕ

pub record SteppedWords (RayData : Type 0) : Type 0 where
  pub walker : WalkerWords RayData
  pub answer : Answer

-- What a step in words reads: `rule`, `told`, `forged` and `absent` as in `Tests`, which positions are passed over where their report is due, and of
-- a node its hit mask for a ray and its fields.
pub record NodeWords (RayData Distance : Type 0) : Type 0 where
  pub rule : ℕ → ℕ → Bool
  pub told : Distance → RayData → RayData
  pub forged : RayData → Bool
  pub absent : RayData → ℕ → Bool
  pub skips : RayData → ℕ → Bool
  pub octant : RayData → ℕ
  pub mask : RayData → ℕ → ℕ
  pub imask : ℕ → ℕ
  pub child_base : ℕ → ℕ
  pub position_base : ℕ → ℕ

abbrev pub no_group : Group
no_group = record { base = 0; bits = 0 }

-- a walker just begun: the first node is the only child of a group without imask
abbrev pub fresh_words : {RayData : Type 0} → RayData → WalkerWords RayData
fresh_words r = record {
  ray = r;
  tests = 0;
  positions = no_group;
  current = record { base = 0; bits = 0x8000_0000 };
  depth = 0;
  stack = replicate
      capacity 0;
}

-- all words are in range, as a walker's fields of 32 and 64 bits are
pub record WordsFit {RayData : Type 0} (w : WalkerWords RayData) : Type 0 where
  pub positions : w.positions.bits < 2 ^ 32
  pub base : w.current.base < 2 ^ 32
  pub bits : w.current.bits < 2 ^ 32
  pub room : capacity ≤ length w.stack
  pub words : (i : ℕ) → get_or w.stack i 0 < 2 ^ 64

abbrev pub stay_words : {RayData : Type 0} → WalkerWords RayData → Answer → SteppedWords RayData
stay_words w a = record { walker = w; answer = a }

-- the group in hand is emptied, and the walk is done
abbrev pub emptied_words : {RayData : Type 0} → WalkerWords RayData → SteppedWords RayData
emptied_words w =
    record {
      walker = record { ray = w.ray; tests = w.tests; positions = w.positions; current = no_group; depth = w.depth; stack = w.stack };
      answer = done;
    }

-- the position of the highest bit was reported
abbrev pub after_report_words : {RayData : Type 0} → WalkerWords RayData → SteppedWords RayData
after_report_words w =
    record {
      walker =
          record { ray = w.ray; tests = w.tests; positions = rest_of w.positions; current = w.current; depth = w.depth; stack = w.stack };
      answer = position (first_position w.positions);
    }

-- it is reported if it is one of the n
unfoldable pub report_words : {RayData : Type 0} → ℕ → WalkerWords RayData → SteppedWords RayData
report_words n w = cond (leb n (first_position w.positions)) (stay_words w (refused 10)) (after_report_words w)

-- the walker after a step that leads to u: a refused one leaves it as it was
abbrev pub leaving : {RayData : Type 0} → WalkerWords RayData → Answer → WalkerWords RayData → WalkerWords RayData
leaving w (tested v) u = u
leaving w (position p) u = u
leaving w done u = u
leaving w (refused e) u = w

-- a node was tested
abbrev pub is_test : Answer → Bool
is_test (tested v) = true
is_test (position p) = false
is_test done = false
is_test (refused k) = false

-- a node was tested and none of its positions is passed
abbrev pub finds_none : {RayData : Type 0} → SteppedWords RayData → Bool
finds_none r = is_test r.answer && eqb r.walker.positions.bits 0

-- the walker last held, and the answers of the steps
pub record RunWords (RayData : Type 0) : Type 0 where
  pub walker : WalkerWords RayData
  pub answers : List Answer

-- ---- what the words of a node and of a walker say

module _ {RayData Distance : Type 0} (N : NodeWords RayData Distance) where
  -- the low 24 bits of a mask are positions; its top byte is laid over imask
  abbrev pub passed_positions : RayData → ℕ → Group
  passed_positions r v = record { base = N.position_base v; bits = N.mask r v % 0x100_0000 }

  abbrev pub passed_children : RayData → ℕ → Group
  passed_children r v = record { base = N.child_base v; bits = N.mask r v / 0x100_0000 * 0x100_0000 + N.imask v }

  abbrev pub tell_words : Distance → WalkerWords RayData → WalkerWords RayData
  tell_words x w = record {
    ray = N.told x w.ray;
    tests = w.tests;
    positions = w.positions;
    current = w.current;
    depth = w.depth;
    stack =
        w.stack;
  }

  -- the walker on lists that the words stand for
  abbrev pub decoded : WalkerWords RayData → Walker RayData
  decoded w =
      record {
        ray = w.ray;
        tests = w.tests;
        positions = positions_in (N.skips w.ray) w.positions;
        group = children_in (N.octant w.ray) w.current;
        stack = groups_in (N.octant w.ray) w.stack w.depth;
      }

  abbrev pub decoded_step : SteppedWords RayData → Stepped RayData
  decoded_step r = stay (decoded r.walker) r.answer

  abbrev pub decoded_run : RunWords RayData → Run RayData
  decoded_run r = record { walker = decoded r.walker; answers = r.answers }

  -- the tests of a step on lists: it differs in the lists that a node gives
  abbrev pub tests_with : (RayData → ℕ → List ℕ) → (RayData → ℕ → List ℕ) → Tests RayData Distance
  tests_with positions children =
      record { rule = N.rule; positions = positions; children = children; told = N.told; forged = N.forged; absent = N.absent }

  -- the walker without the positions in front of its hand that are passed over
  abbrev pub past_skips : WalkerWords RayData → WalkerWords RayData
  past_skips w =
      record {
        ray = w.ray;
        tests = w.tests;
        positions = past_skipped (N.skips w.ray) 32 w.positions;
        current = w.current;
        depth = w.depth;
        stack = w.stack;
      }

-- ---- a step on a record of m nodes

module _ {RayData Distance : Type 0} (m : ℕ) (N : NodeWords RayData Distance) where
  -- ---- what stands in the way

  abbrev pub forged_words : WalkerWords RayData → Bool
  forged_words w = N.forged w.ray || ltb capacity w.depth || ltb m w.tests

  abbrev pub only_first_words : WalkerWords RayData → Bool
  only_first_words w = eqb w.positions.bits 0 && has_child w.current && eqb (first_child (N.octant w.ray) w.current) 0 && not
      (has_child (rest_of w.current)) && eqb w.depth 0

  -- the first child of group g may not be tested, with depth groups below
  abbrev pub bad_child : ℕ → WalkerWords RayData → Group → ℕ → Bool
  bad_child n w g depth =
      (has_child (rest_of g) && not (has_room depth)) || leb m (first_child (N.octant w.ray) g) || leb m w.tests
      || not (N.rule n (first_child (N.octant w.ray) g))

  -- ---- a step

  -- the first child of group g is tested; the rest waits above depth groups, if it holds a child
  abbrev pub after_test_words : WalkerWords RayData → Group → ℕ → SteppedWords RayData
  after_test_words w g depth =
      record {
        walker =
            record {
              ray = w.ray;
              tests = suc w.tests;
              positions = passed_positions N w.ray (first_child (N.octant w.ray) g);
              current = passed_children N w.ray (first_child (N.octant w.ray) g);
              depth = cond (has_child (rest_of g)) (suc depth) depth;
              stack = cond (has_child (rest_of g)) (pushed w.stack depth (packed (rest_of g))) w.stack;
            };
        answer = tested (first_child (N.octant w.ray) g);
      }

  unfoldable pub visit_words : ℕ → WalkerWords RayData → Group → ℕ → SteppedWords RayData
  visit_words n w g depth = cond (bad_child n w g depth) (stay_words w (refused 10)) (after_test_words w g depth)

  -- the last group that waits, depth being the depth with it on top
  unfoldable pub pop_words : ℕ → WalkerWords RayData → ℕ → SteppedWords RayData
  pop_words n w depth = cond (ltb 0 depth) (visit_words n w (unpacked (top_of w.stack depth)) (depth - 1)) (stay_words w done)

  -- positions come first, one that is absent refused; then the group in hand, then the stack
  unfoldable pub turn_words : ℕ → WalkerWords RayData → SteppedWords RayData
  turn_words n w =
      cond (ltb 0 w.positions.bits)
      (cond (N.absent w.ray (first_position w.positions)) (stay_words w (refused 10)) (report_words n w))
      (cond (has_child w.current) (visit_words n w w.current w.depth) (pop_words n w (waiting_depth w.stack w.depth)))

  -- first of all positions that are passed over go, and then the same turn does what is due
  unfoldable pub advance_words : ℕ → WalkerWords RayData → SteppedWords RayData
  unfolding turn_words
  advance_words n w = let r = turn_words n (past_skips N w) in record { walker = leaving w r.answer r.walker; answer = r.answer }

  -- A turn, and up to k more after tests of nodes of which no position is passed: on until positions are in hand, nothing is left, or one is refused.
  unfoldable pub seek_words : ℕ → ℕ → WalkerWords RayData → SteppedWords RayData
  unfolding advance_words
  seek_words zero n w = advance_words n w
  seek_words (suc k) n w = let r = advance_words n w in cond (finds_none r) (seek_words k n r.walker) r

  unfoldable pub step_words : ℕ → WalkerWords RayData → SteppedWords RayData
  step_words n w =
      cond (sizes_fit m n)
      (cond (forged_words w) (stay_words w (refused 10))
      (cond (leb m 0 && only_first_words (past_skips N w)) (emptied_words (past_skips N w)) (advance_words n w)))
      (stay_words w (refused 2))

  -- ---- lists of calls

  unfoldable pub run_words : List (Op Distance) → WalkerWords RayData → RunWords RayData
  unfolding step_words
  run_words [] w = record { walker = w; answers = [] }
  run_words (step n ∷ l) w =
      let r = run_words l (step_words n w).walker in
      record { walker = r.walker; answers = (step_words n w).answer ∷ r.answers }
  run_words (tell x ∷ l) w = run_words l (tell_words N x w)

  -- a node's words stand for the lists of its passed positions and children, where the node meets the rule
  pub record Decodes (positions children : RayData → ℕ → List ℕ) : Type 0 where
    pub octant_lt : (r : RayData) → N.forged r ≡ false → N.octant r < 8
    pub octant_told : (x : Distance) (r : RayData) → N.octant (N.told x r) ≡ N.octant r
    pub skips_told : (x : Distance) (r : RayData) → N.skips (N.told x r) ≡ N.skips r
    pub mask_lt : (r : RayData) (v : ℕ) → N.mask r v < 2 ^ 32
    pub imask_lt : (v : ℕ) → v < m → N.imask v < 256
    pub child_base_lt : (v : ℕ) → v < m → N.child_base v < 2 ^ 32
    pub positions_are : (r : RayData) (n v : ℕ) → N.forged r ≡ false → v < m → N.rule n v ≡ true
        → positions_in (N.skips r) (passed_positions N r v) ≡ positions r v
    pub children_are : (r : RayData) (n v : ℕ) → N.forged r ≡ false → v < m → N.rule n v ≡ true → children_in (N.octant r) (passed_children N r v)
        ≡ children r v
