-- Internal: all but `step_answer`, `group_of` and `walker_of`. What the core of a walk says of the walker whose numbers it takes (01, "Walking").
use Rattle.std.specs.Prelude.{Bool, not, ◌&&◌, ◌||◌, cond, List, ℕ, zero, suc, ◌+◌, ◌*◌, ◌/◌, ◌%◌, eqb, leb, ltb}
use Rattle.std.specs.Prelude.{Option, Some, None}
use Rattle.ray.specs.declared.Ray.{Ray}
use Rattle.causes.specs.Refusal.{cause_number}
use Rattle.faststack.specs.Stack.{has_room, pushed, top_of}
use Rattle.node_test.specs.declared.Tested.{Tested}
use Rattle.walk.specs.Step as S
use Rattle.walk.specs.Words as W
use Rattle.walk.specs.WordStep.{WalkerWords, SteppedWords, is_test, no_group}
use Rattle.walk_record.specs.WalkRay.{WalkRay}
use Rattle.advance.specs.declared.Group.{Group}
use Rattle.advance.specs.declared.Walk.{Walk}
use Rattle.advance.specs.declared.Turn.{Turn}
use Rattle.advance.specs.declared.Due.{Due}
use Rattle.advance.specs.declared.Answer.{Answer}
use Rattle.advance.specs.declared.Answer.TheVariants.{Tested as TestedNode, Position, Done, Refused}

abbrev pub group_of : Group → W.Group
group_of g = record { base = g.base; bits = g.bits }

-- an answer in the requirements' terms: a node tested, a position reported, done, or refused with the number of a cause
unfoldable pub step_answer : Answer → S.Answer
step_answer (TestedNode v) = S.tested v
step_answer (Position p) = S.position p
step_answer Done = S.done
step_answer (Refused r) = S.refused (cause_number r)

-- only the first node is in hand
abbrev pub begun : Walk
begun = record { tests = 0; positions = record { base = 0; bits = 0 }; current = record { base = 0; bits = 0x8000_0000 }; depth = 0 }

-- a walk without positions in hand, by its numbers: the tests made, the base of the positions last in hand, the group in hand, and how many groups
-- wait
abbrev pub seeking : (tests held current bits depth : ℕ) → Walk
seeking tests held current bits depth =
    record { tests = tests; positions = record { base = held; bits = 0 }; current = record { base = current; bits = bits }; depth = depth }

-- the walker of a ray with its octant, a walk and a stack
abbrev pub walker_of : Ray → ℕ → Walk → List ℕ → WalkerWords WalkRay
walker_of ray octant v stack =
    record {
      ray = record { ray = ray; octant = octant };
      tests = v.tests;
      positions = group_of v.positions;
      current = group_of v.current;
      depth = v.depth;
      stack = stack;
    }

-- the walker after a turn, and the turn's answer
abbrev pub turned : Ray → ℕ → Turn → List ℕ → SteppedWords WalkRay
turned ray octant t stack = record { walker = walker_of ray octant t.walk stack; answer = step_answer t.answer }

-- ---- what is due

-- the group whose first child is due, and how many groups wait below it; a group without children where none is
pub record DueGroup : Type 0 where
  pub group : W.Group
  pub depth : ℕ

abbrev pub due_in : Option Due → DueGroup
due_in (Some g) = record { group = group_of g.group; depth = g.depth }
due_in None = record { group = no_group; depth = 0 }

-- the last of so many groups that wait
abbrev pub popped : List ℕ → ℕ → DueGroup
popped stack zero = record { group = no_group; depth = 0 }
popped stack (suc d) = record { group = W.unpacked (top_of stack (suc d)); depth = d }

-- the group in hand, or the last that waits and holds a child
unfoldable pub due_group : W.Group → List ℕ → ℕ → DueGroup
due_group g stack depth = cond (W.has_child g) (record { group = g; depth = depth }) (popped stack (W.waiting_depth stack depth))

-- ---- the test of a node, and what follows it

-- what is left of a group holds a child and would be the 33rd to wait
abbrev pub lacks_room : ℕ → ℕ → Bool
lacks_room depth bits = leb 0x100_0000 bits && not (has_room depth)

-- node c does not exist, or all tests were made
unfoldable pub is_past : (c tests m : ℕ) → Bool
is_past c tests m = leb m c || leb m tests

-- how many groups wait once what is left of a group does, if it holds a child, and their words
abbrev pub waits : ℕ → ℕ → ℕ
waits depth bits = cond (leb 0x100_0000 bits) (suc depth) depth

abbrev pub stacked : List ℕ → ℕ → W.Group → List ℕ
stacked stack depth rest = cond (W.has_child rest) (pushed stack depth (W.packed rest)) stack

-- the low 24 bits of a mask are positions; its top byte is laid over imask
unfoldable pub followed : ℕ → Tested → ℕ → Walk
followed tests t depth =
    record {
      tests = tests + 1;
      positions = record { base = t.primitive_base_idx; bits = t.mask % 0x100_0000 };
      current = record { base = t.child_base_idx; bits = t.mask / 0x100_0000 * 0x100_0000 + t.imask };
      depth = depth;
    }

-- ---- on to the next position

-- a node was tested of which no position is passed, and tests are left
unfoldable pub goes_on : Turn → ℕ → Bool
unfolding step_answer
goes_on t left = is_test (step_answer t.answer) && eqb t.walk.positions.bits 0 && ltb 0 left
