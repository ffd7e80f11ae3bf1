-- Lists of steps and tellings on one record (01, "Walking": demand 3's list).
use Rattle.std.specs.Prelude.{List, [], ◌∷◌, ◌++◌, ◌≡◌, ℕ}
use Rattle.walk.specs.Tests.{Tests}
use Rattle.walk.specs.Step.{Walker, Answer, tested, position, done, refused, step_of, tell_of}

-- each member has the property
abbrev pub All : {A : Type 0} → (A → Type 0) → List A → Type 0
All P [] = Unit {0}
All P (x ∷ l) = P x × All P l

-- one call: a step that brings the count of positions, or a distance told
pub data Op (Distance : Type 0) : Type 0 where
  step : ℕ → Op Distance
  tell : Distance → Op Distance

-- the walker last held, and the answers of the steps
pub record Run (RayData : Type 0) : Type 0 where
  pub walker : Walker RayData
  pub answers : List Answer

-- each call takes what the one before it left: a refused step leaves the walker that it took
unfoldable pub run_ops : {RayData Distance : Type 0} → ℕ → Tests RayData Distance → List (Op Distance) → Walker RayData → Run RayData
unfolding step_of
run_ops m T [] w = record { walker = w; answers = [] }
run_ops m T (step n ∷ l) w =
    let r = run_ops m T l (step_of m T n w).walker in
    record { walker = r.walker; answers = (step_of m T n w).answer ∷ r.answers }
run_ops m T (tell x ∷ l) w = run_ops m T l (tell_of T x w)

-- the position that an answer reports, if any
abbrev pub position_in : Answer → List ℕ
position_in (tested v) = []
position_in (position p) = p ∷ []
position_in done = []
position_in (refused e) = []

-- the positions reported, in order
abbrev pub reported : List Answer → List ℕ
reported [] = []
reported (a ∷ l) = position_in a ++ reported l

-- the answer is not a refusal
abbrev pub Answered : Answer → Type 0
Answered (tested v) = Unit {0}
Answered (position p) = Unit {0}
Answered done = Unit {0}
Answered (refused e) = ⊥

-- a step brings the record's own count
abbrev pub StepsWith : {Distance : Type 0} → ℕ → Op Distance → Type 0
StepsWith n (step k) = k ≡ n
StepsWith n (tell x) = Unit {0}
