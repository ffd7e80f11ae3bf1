-- What a step in words leaves where it goes no further: refused, the walker as it was; done, a walker with nothing left, which is done or refused on
-- every record from then on, whatever it is told. And a walker whose hand begins with a position that is not passed over, as every one does where
-- none is, takes its turn as it stands. Whatever a step does, it leaves the ray as it was, and reports
-- no position that is passed over or absent.
use mathlib.Core.Bool.{Bool, true, false, not, ◌&&◌, cond}
use mathlib.Core.Path.{◌≡◌, refl, sym, ap, ◌∙◌, subst}
use Prim.Native.Nat.{ℕ, ◌-◌, ◌^◌, ◌<◌}
use native.Mathlib.Omega.{arith}
use lib.Dec.{eqb, leb, ltb}
use borrow.Author.Tests.{eqb-true, eq-eqb, ltb-true, ltb-false, le-ltb}
use Rattle.faststack.specs.Stack.{top_of}
use Rattle.causes.specs.Sizes.{sizes_fit}
use Rattle.walk.specs.Step.{Answer, tested, position, done, refused}
use Rattle.walk.specs.Words.{Group, unpacked, rest_of, first_position, first_child, has_child, waiting_depth}
use Rattle.walk.specs.WordStep.{WalkerWords, SteppedWords, NodeWords, stay_words, emptied_words, leaving, past_skips, forged_words}
use Rattle.walk.specs.WordStep.{only_first_words, bad_child, report_words, visit_words, pop_words, turn_words, advance_words, step_words, tell_words}
use Rattle.lists.proofs.Tells.{both_pass}
use Rattle.walk.proofs.Cases.{cond_elim, and-false}
use Rattle.walk.proofs.Words.{AtFront, front_first, front_stays, skipped_front, empty_front}

first_and_last : (a b c d e : Bool) → a && b && c && d && e ≡ true → (a ≡ true) × (e ≡ true)
first_and_last a b c d e h =
    let p = both_pass (a && b && c && d) e h in
    let q = both_pass (a && b) c (both_pass (a && b && c) d p.0).0 in
    ((both_pass a b q.0).0, p.1)

-- nothing is left: no position in hand, and no child in hand or in a group that waits
pub record Finished {RayData : Type 0} (w : WalkerWords RayData) : Type 0 where
  pub positions : ltb 0 w.positions.bits ≡ false
  pub current : has_child w.current ≡ false
  pub stack : ltb 0 (waiting_depth w.stack w.depth) ≡ false

pub tell_finished : {RayData Distance : Type 0} (N : NodeWords RayData Distance) (x : Distance) (w : WalkerWords RayData) → Finished w
    → Finished (tell_words N x w)
tell_finished N x w f = record { positions = f.positions; current = f.current; stack = f.stack }

-- ---- a turn

module _ {RayData Distance : Type 0} (m : ℕ) (N : NodeWords RayData Distance) (n : ℕ) (w : WalkerWords RayData) where
  -- done or refused, a turn leaves the walker as it was, and done only where nothing is left
  abbrev pub Rests : Answer → WalkerWords RayData → Type 0
  Rests (tested v) u = Unit {0}
  Rests (position p) u = Unit {0}
  Rests done u = Finished u × (u ≡ w)
  Rests (refused e) u = u ≡ w

  abbrev RestsOf : SteppedWords RayData → Type 0
  RestsOf r = Rests r.answer r.walker

  visit_rests : (g : Group) (e : ℕ) → RestsOf (visit_words m N n w g e)
  unfolding visit_words
  visit_rests g e = cond_elim RestsOf (bad_child m N n w g e) _ _ (λ _. refl) (λ _. tt)

  pub turn_rests : Rests (turn_words m N n w).answer (turn_words m N n w).walker
  unfolding turn_words report_words pop_words
  turn_rests =
      cond_elim RestsOf (ltb 0 w.positions.bits) _ _
      (λ _. cond_elim RestsOf (N.absent w.ray (first_position w.positions)) _ _ (λ _. refl)
      (λ _. cond_elim RestsOf (leb n (first_position w.positions)) _ _ (λ _. refl) (λ _. tt)))
      (λ h. cond_elim RestsOf (has_child w.current) _ _ (λ _. visit_rests w.current w.depth)
      (λ i. cond_elim RestsOf (ltb 0 (waiting_depth w.stack w.depth)) _ _
      (λ _. visit_rests (unpacked (top_of w.stack (waiting_depth w.stack w.depth))) (waiting_depth w.stack w.depth - 1))
      (λ j. (record { positions = h; current = i; stack = j }, refl))))

  -- a turn leaves the ray as it was
  abbrev SameRay : SteppedWords RayData → Type 0
  SameRay r = r.walker.ray ≡ w.ray

  visit_ray : (g : Group) (e : ℕ) → SameRay (visit_words m N n w g e)
  unfolding visit_words
  visit_ray g e = cond_elim SameRay (bad_child m N n w g e) _ _ (λ _. refl) (λ _. refl)

  turn_ray : (turn_words m N n w).walker.ray ≡ w.ray
  unfolding turn_words report_words pop_words
  turn_ray =
      cond_elim SameRay (ltb 0 w.positions.bits) _ _
      (λ _. cond_elim SameRay (N.absent w.ray (first_position w.positions)) _ _ (λ _. refl)
      (λ _. cond_elim SameRay (leb n (first_position w.positions)) _ _ (λ _. refl) (λ _. refl)))
      (λ _. cond_elim SameRay (has_child w.current) _ _ (λ _. visit_ray w.current w.depth)
      (λ _. cond_elim SameRay (ltb 0 (waiting_depth w.stack w.depth)) _ _ (λ _. visit_ray _ _) (λ _. refl)))

  -- ---- with the first position in hand not passed over

  module _ (front : AtFront (N.skips w.ray) w.positions) where
    same_walker : past_skips N w ≡ w
    same_walker =
        ap (λ (g : Group). record { ray = w.ray; tests = w.tests; positions = g; current = w.current; depth = w.depth; stack = w.stack })
        (front_stays (N.skips w.ray) 32 w.positions front)

    pub unskipped_turn : advance_words m N n w ≡ turn_words m N n w
    unfolding advance_words
    unskipped_turn =
        ap (λ (u : WalkerWords RayData). let r = turn_words m N n u in record { walker = leaving w r.answer r.walker; answer = r.answer })
        same_walker
        ∙ go (turn_words m N n w).answer (turn_words m N n w).walker turn_rests
      where
        go : (a : Answer) (u : WalkerWords RayData) → Rests a u → ◌≡◌ {A = SteppedWords RayData} (stay_words (leaving w a u) a) (stay_words u a)
        go (tested v) u h = refl
        go (position p) u h = refl
        go done u h = refl
        go (refused e) u h = ap (λ (x : WalkerWords RayData). stay_words x (refused e)) (sym h)

    pub unskipped_step : step_words m N n w
        ≡ cond (sizes_fit m n)
        (cond (forged_words m N w) (stay_words w (refused 10)) (cond (leb m 0 && only_first_words m N w) (emptied_words w) (turn_words m N n w)))
        (stay_words w (refused 2))
    unfolding step_words
    unskipped_step =
        rw unskipped_turn
        (ap (λ (u : WalkerWords RayData). cond (sizes_fit m n)
        (cond (forged_words m N w) (stay_words w (refused 10)) (cond (leb m 0 && only_first_words m N u) (emptied_words u) (turn_words m N n w)))
        (stay_words w (refused 2))) same_walker)

-- ---- a step

module _ {RayData Distance : Type 0} (m : ℕ) (N : NodeWords RayData Distance) (n : ℕ) (w : WalkerWords RayData) where
  -- ---- what a step leaves

  abbrev pub Leaves : Answer → WalkerWords RayData → Type 0
  Leaves (tested v) u = Unit {0}
  Leaves (position p) u = Unit {0}
  Leaves done u = Finished u × (forged_words m N u ≡ false)
  Leaves (refused e) u = u ≡ w

  abbrev pub LeavesOf : SteppedWords RayData → Type 0
  LeavesOf r = Leaves r.answer r.walker

  advance-leaves : forged_words m N w ≡ false → LeavesOf (advance_words m N n w)
  unfolding advance_words
  advance-leaves f = go (turn_words m N n (past_skips N w)).answer (turn_words m N n (past_skips N w)).walker (turn_rests m N n (past_skips N w))
    where
      go : (a : Answer) (u : WalkerWords RayData) → Rests m N n (past_skips N w) a u → Leaves a (leaving w a u)
      go (tested v) u h = tt
      go (position p) u h = tt
      go done u h = (h.0, ap (forged_words m N) h.1 ∙ f)
      go (refused e) u h = refl

  -- the first node put down leaves nothing
  emptied_finished : (u : WalkerWords RayData) → leb m 0 && only_first_words m N u ≡ true → Finished (emptied_words u).walker
  emptied_finished u a =
      let b =
      first_and_last (eqb u.positions.bits 0) (has_child u.current) (eqb (first_child (N.octant u.ray) u.current) 0)
      (not (has_child (rest_of u.current))) (eqb u.depth 0) (both_pass (leb m 0) (only_first_words m N u) a).1 in
      record {
        positions = le-ltb 0 u.positions.bits (omega (arith, eqb-true u.positions.bits 0 b.0));
        current = refl;
        stack = ap (λ (k : ℕ). ltb 0 (waiting_depth u.stack k)) (eqb-true u.depth 0 b.1);
      }

  pub words_leave : LeavesOf (step_words m N n w)
  unfolding step_words
  words_leave =
      cond_elim LeavesOf (sizes_fit m n) _ _
      (λ _. cond_elim LeavesOf (forged_words m N w) _ _ (λ _. refl)
      (λ f. cond_elim LeavesOf (leb m 0 && only_first_words m N (past_skips N w)) _ _ (λ a. (emptied_finished (past_skips N w) a, f))
      (λ _. advance-leaves f)))
      (λ _. refl)

  advance_ray : (advance_words m N n w).walker.ray ≡ w.ray
  unfolding advance_words
  advance_ray = go (turn_words m N n (past_skips N w)).answer (turn_words m N n (past_skips N w)).walker (turn_ray m N n (past_skips N w))
    where
      go : (a : Answer) (u : WalkerWords RayData) → u.ray ≡ w.ray → (leaving w a u).ray ≡ w.ray
      go (tested v) u h = h
      go (position p) u h = h
      go done u h = h
      go (refused e) u h = refl

  -- whatever it does, the ray
  pub step_keeps_ray : (step_words m N n w).walker.ray ≡ w.ray
  unfolding step_words
  step_keeps_ray =
      cond_elim (SameRay m N n w) (sizes_fit m n) _ _
      (λ _. cond_elim (SameRay m N n w) (forged_words m N w) _ _ (λ _. refl)
      (λ _. cond_elim (SameRay m N n w) (leb m 0 && only_first_words m N (past_skips N w)) _ _ (λ _. refl) (λ _. advance_ray)))
      (λ _. refl)

  -- ---- a walker with nothing left

  -- every step leaves it as it is: done if nothing refuses it
  pub finished_step : Finished w → step_words m N n w
      ≡ cond (sizes_fit m n) (cond (forged_words m N w) (stay_words w (refused 10)) (stay_words w done)) (stay_words w (refused 2))
  unfolding turn_words pop_words
  finished_step f =
      let z = ltb-false 0 w.positions.bits f.positions in
      unskipped_step m N n w (empty_front (N.skips w.ray) w.positions z)
      ∙ rw (eq-eqb w.positions.bits 0 (omega arith), f.current, and-false (leb m 0), f.positions, f.stack)

-- ---- a position reported

module _ {RayData Distance : Type 0} (m : ℕ) (N : NodeWords RayData Distance) (n : ℕ) (w : WalkerWords RayData) where
  -- a position that is reported is neither passed over nor absent
  abbrev Admits : Answer → Type 0
  Admits (tested v) = Unit {0}
  Admits (position p) = (N.skips w.ray p ≡ false) × (N.absent w.ray p ≡ false)
  Admits done = Unit {0}
  Admits (refused e) = Unit {0}

  abbrev AdmitsOf : SteppedWords RayData → Type 0
  AdmitsOf r = Admits r.answer

  visit_admits : (u : WalkerWords RayData) (g : Group) (e : ℕ) → AdmitsOf (visit_words m N n u g e)
  unfolding visit_words
  visit_admits u g e = cond_elim AdmitsOf (bad_child m N n u g e) _ _ (λ _. tt) (λ _. tt)

  advance_admits : w.positions.bits < 2 ^ 32 → AdmitsOf (advance_words m N n w)
  unfolding advance_words turn_words report_words pop_words
  advance_admits l =
      let u = past_skips N w in
      let front : AtFront (N.skips w.ray) u.positions = skipped_front (N.skips w.ray) 32 w.positions (omega arith) l in
      cond_elim AdmitsOf (ltb 0 u.positions.bits) _ _
      (λ h. cond_elim AdmitsOf (N.absent w.ray (first_position u.positions)) _ _ (λ _. tt)
      (λ a. cond_elim AdmitsOf (leb n (first_position u.positions)) _ _ (λ _. tt)
      (λ _. (front_first (N.skips w.ray) u.positions front (ltb-true 0 u.positions.bits h), a))))
      (λ _. cond_elim AdmitsOf (has_child u.current) _ _ (λ _. visit_admits u u.current u.depth)
      (λ _. cond_elim AdmitsOf (ltb 0 (waiting_depth u.stack u.depth)) _ _ (λ _. visit_admits u _ _) (λ _. tt)))

  step_admits : w.positions.bits < 2 ^ 32 → AdmitsOf (step_words m N n w)
  unfolding step_words
  step_admits l =
      cond_elim AdmitsOf (sizes_fit m n) _ _
      (λ _. cond_elim AdmitsOf (forged_words m N w) _ _ (λ _. tt)
      (λ _. cond_elim AdmitsOf (leb m 0 && only_first_words m N (past_skips N w)) _ _ (λ _. tt) (λ _. advance_admits l)))
      (λ _. tt)

  pub reports_admitted : w.positions.bits < 2 ^ 32 → (p : ℕ) → (step_words m N n w).answer ≡ position p
      → (N.skips w.ray p ≡ false) × (N.absent w.ray p ≡ false)
  reports_admitted l p e = subst Admits e (step_admits l)

-- done stays done, whatever count a later step on the same record brings, if it is no cause of refusal
pub words_done_stays : {RayData Distance : Type 0} (m : ℕ) (N : NodeWords RayData Distance) (n : ℕ) (w : WalkerWords RayData)
    → (step_words m N n w).answer ≡ done → (k : ℕ)
    → sizes_fit m k ≡ true
    → step_words m N k (step_words m N n w).walker ≡ stay_words (step_words m N n w).walker done
words_done_stays m N n w e k z =
    let l = subst (λ (a : Answer). Leaves m N n w a (step_words m N n w).walker) e (words_leave m N n w) in
    rw (finished_step m N k (step_words m N n w).walker l.0, z, l.1)
