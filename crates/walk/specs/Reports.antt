-- What calls test, what a query reports and notes, and which of some positions is the nearest (01, "Walking"; "Corners of each file", cwbvh/mod.rs).
use Rattle.std.specs.Prelude.{Bool, true, false, cond, List, [], ◌∷◌, ◌++◌, ◌≡◌, ℕ}
use Rattle.walk.specs.Tests.{Tests}
use Rattle.walk.specs.Step.{Walker, Answer, tested, position, done, refused}
use Rattle.walk.specs.Calls.{All, run_ops, reported}
use Rattle.walk.specs.Queries.{Reaction, query_calls}

-- ---- lists of calls

-- the node that an answer says was tested, if any
abbrev pub test_of : Answer → List ℕ
test_of (tested v) = v ∷ []
test_of (position p) = []
test_of done = []
test_of (refused e) = []

-- the nodes tested, in order
abbrev pub tested_nodes : List Answer → List ℕ
tested_nodes [] = []
tested_nodes (a ∷ l) = test_of a ++ tested_nodes l

-- ---- queries

-- a ray after several distances were told
abbrev pub told_ray : {RayData Distance : Type 0} → Tests RayData Distance → List Distance → RayData → RayData
told_ray T [] r = r
told_ray T (x ∷ l) r = told_ray T l (T.told x r)

module _ {RayData Distance a : Type 0} (m : ℕ) (T : Tests RayData Distance) (react : ℕ → RayData → a → Reaction Distance a) where
  -- the positions that a query's steps report, in order
  abbrev pub query_reports : ℕ → ℕ → Walker RayData → a → List ℕ
  query_reports f n w x = reported (run_ops m T (query_calls m T react f n w x) w).answers

  -- From x noted, it reacts to these positions in turn, to each with the ray as told until then, and has noted y. One that stops it is the last.
  abbrev pub Notes : RayData → a → List ℕ → a → Type 0
  Notes r x [] y = y ≡ x
  Notes r x (p ∷ l) y = elim (react p r x).stop [
    | true ↦ (l ≡ []) × (y ≡ (react p r x).accumulator)
    | false ↦ Notes (told_ray T (react p r x).tells r) (react p r x).accumulator l y
  ]

-- a list up to its first member of a kind, that one included
abbrev pub up_to : (ℕ → Bool) → List ℕ → List ℕ
up_to f [] = []
up_to f (p ∷ l) = p ∷ cond (f p) [] (up_to f l)

-- ---- distances

-- Positions have distances, of which one may be less than another; a reach is one too.
module _ {Distance : Type 0} (less : Distance → Distance → Bool) (distance_of : ℕ → Distance) (reach : Distance) where
  -- no position of a list is below the reach
  abbrev pub NoneBelow : List ℕ → Type 0
  NoneBelow l = All (λ q. less (distance_of q) reach ≡ false) l

  -- Position p of a list is below the reach, none is nearer, and of equal ones it is the first met: all before it are farther.
  pub record Nearest (l : List ℕ) (p : ℕ) : Type 0 where
    pub before : List ℕ
    pub after : List ℕ
    pub met : l ≡ before ++ (p ∷ after)
    pub below : less (distance_of p) reach ≡ true
    pub none_nearer : All (λ q. less (distance_of q) (distance_of p) ≡ false) l
    pub farther : All (λ q. less (distance_of p) (distance_of q) ≡ true) before

  -- Position p is the first below the reach, and the last of a list.
  pub record Blocks (l : List ℕ) (p : ℕ) : Type 0 where
    pub before : List ℕ
    pub last : l ≡ before ++ (p ∷ [])
    pub below : less (distance_of p) reach ≡ true
    pub first : NoneBelow before
