-- A walker, its step, and telling (01, "Walking"; "Causes of refusal"). For any record and any tests.
use Rattle.std.specs.Prelude.{Bool, true, false, not, ◌&&◌, ◌||◌, cond, List, [], ◌∷◌, ℕ, zero, suc, leb, ltb, length}
use Rattle.causes.specs.Sizes.{sizes_fit}
use Rattle.walk.specs.Tests.{Tests}

pub record Walker (RayData : Type 0) : Type 0 where
  pub ray : RayData
  -- how many nodes it has tested
  pub tests : ℕ
  -- one node's passed positions, not yet reported
  pub positions : List ℕ
  -- one node's passed children, not yet tested: the group in hand
  pub group : List ℕ
  -- the waiting groups, the last pushed first
  pub stack : List (List ℕ)

-- a node was tested, or a position is reported, or nothing is left, or the step is refused with the number of a cause
pub data Answer : Type 0 where
  tested : ℕ → Answer
  position : ℕ → Answer
  done : Answer
  refused : ℕ → Answer

-- the walker after a step, and the step's answer
pub record Stepped (RayData : Type 0) : Type 0 where
  pub walker : Walker RayData
  pub answer : Answer

-- a walker just begun: only the first node is in hand
abbrev pub fresh : {RayData : Type 0} → RayData → Walker RayData
fresh r = record { ray = r; tests = 0; positions = []; group = 0 ∷ []; stack = [] }

-- ---- what is due

-- Position p, the others staying in hand; or node c, r being the rest of its group and st the groups below; or nothing.
pub data Due : Type 0 where
  report : ℕ → List ℕ → Due
  test : ℕ → List ℕ → List (List ℕ) → Due
  nothing : Due

-- the first node of the last group pushed; a group without nodes is passed over
abbrev pub due_on_stack : List (List ℕ) → Due
due_on_stack [] = nothing
due_on_stack ([] ∷ st) = due_on_stack st
due_on_stack ((c ∷ r) ∷ st) = test c r st

-- positions come first, then the group in hand, then the stack
abbrev pub due_of : List ℕ → List ℕ → List (List ℕ) → Due
due_of (p ∷ ps) g st = report p ps
due_of [] (c ∷ r) st = test c r st
due_of [] [] st = due_on_stack st

-- ---- what stands in the way

-- a walker that is forged on a record of m nodes: by its ray, by over 32 groups, or by more tests than nodes
abbrev pub forged_walker : {RayData Distance : Type 0} → ℕ → Tests RayData Distance → Walker RayData → Bool
forged_walker m T w = T.forged w.ray || ltb 32 (length w.stack) || ltb m w.tests

-- the rest of a group would be the 33rd to wait
abbrev pub no_room : List ℕ → List (List ℕ) → Bool
no_room [] st = false
no_room (x ∷ r) st = leb 32 (length st)

-- position p is absent, or none of the n
abbrev pub bad_position : {RayData Distance : Type 0} → Tests RayData Distance → ℕ → RayData → ℕ → Bool
bad_position T n ray p = T.absent ray p || leb n p

-- node c may not be tested: it leaves a 33rd group, or does not exist, or all tests were made, or it breaks the rule
abbrev pub bad_node : {RayData Distance : Type 0} → ℕ → Tests RayData Distance → ℕ → ℕ → ℕ → List ℕ → List (List ℕ) → Bool
bad_node m T n tests c r st = no_room r st || leb m c || leb m tests || not (T.rule n c)

-- only the first node is in hand and nothing waits
abbrev pub only_first : List ℕ → List ℕ → List (List ℕ) → Bool
only_first [] (zero ∷ []) [] = true
only_first [] (zero ∷ []) (g ∷ st) = false
only_first [] (zero ∷ x ∷ r) st = false
only_first [] (suc c ∷ r) st = false
only_first [] [] st = false
only_first (p ∷ ps) g st = false

-- ---- a step

-- the walker stays as it is
abbrev pub stay : {RayData : Type 0} → Walker RayData → Answer → Stepped RayData
stay w a = record { walker = w; answer = a }

-- the group in hand is emptied, and the walk is done
abbrev pub emptied : {RayData : Type 0} → Walker RayData → Stepped RayData
emptied w = record { walker = record { ray = w.ray; tests = w.tests; positions = w.positions; group = []; stack = w.stack }; answer = done }

-- position p was reported
abbrev pub after_report : {RayData : Type 0} → Walker RayData → ℕ → List ℕ → Stepped RayData
after_report w p ps =
    record { walker = record { ray = w.ray; tests = w.tests; positions = ps; group = w.group; stack = w.stack }; answer = position p }

-- what is left of a group waits on the stack, if anything is
abbrev pub push : List ℕ → List (List ℕ) → List (List ℕ)
push [] st = st
push (x ∷ r) st = (x ∷ r) ∷ st

-- node c was tested
abbrev pub after_test : {RayData Distance : Type 0} → Tests RayData Distance → Walker RayData → ℕ → List ℕ → List (List ℕ) → Stepped RayData
after_test T w c r st =
    record {
      walker =
          record { ray = w.ray; tests = suc w.tests; positions = T.positions w.ray c; group = T.children w.ray c; stack = push r st };
      answer = tested c;
    }

abbrev pub advance : {RayData Distance : Type 0} → ℕ → Tests RayData Distance → ℕ → Walker RayData → Due → Stepped RayData
advance m T n w (report p ps) = cond (bad_position T n w.ray p) (stay w (refused 10)) (after_report w p ps)
advance m T n w (test c r st) = cond (bad_node m T n w.tests c r st) (stay w (refused 10)) (after_test T w c r st)
advance m T n w nothing = stay w done

-- One step on a record of m nodes, taken to have n positions. Without nodes a walker that holds only the first is done, and holds nothing then.
unfoldable pub step_of : {RayData Distance : Type 0} → ℕ → Tests RayData Distance → ℕ → Walker RayData → Stepped RayData
step_of m T n w =
    cond (sizes_fit m n)
    (cond (forged_walker m T w) (stay w (refused 10))
    (cond (leb m 0 && only_first w.positions w.group w.stack) (emptied w)
    (advance m T n w (due_of w.positions w.group w.stack))))
    (stay w (refused 2))

-- telling refuses nothing, and changes nothing but the ray
abbrev pub tell_of : {RayData Distance : Type 0} → Tests RayData Distance → Distance → Walker RayData → Walker RayData
tell_of T x w = record { ray = T.told x w.ray; tests = w.tests; positions = w.positions; group = w.group; stack = w.stack }
