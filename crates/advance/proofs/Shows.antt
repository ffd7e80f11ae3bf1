-- What the answer of a turn tells, for any fields and masks of nodes and any rays; and that a turn is the defined step where nothing stands in the
-- way.
use mathlib.Core.Bool.{Bool, true, false, not, ◌&&◌, ◌||◌, cond}
use mathlib.Core.Path.{◌≡◌, refl}
use Prim.Native.Nat.{ℕ, suc, ◌≤◌, ◌<◌}
use native.Mathlib.Omega.{arith}
use lib.Dec.{leb, ltb}
use borrow.Author.Tests.{le-leb, lt-leb, le-ltb, leb-false, ltb-true, ltb-false}
use Rattle.faststack.specs.Stack.{capacity, has_room, top_of}
use Rattle.walk.specs.Step.{Answer, tested, position, done, refused}
use Rattle.walk.specs.Words.{Group, unpacked, rest_of, first_position, first_child, has_child, waiting_depth}
use Rattle.walk.specs.WordStep.{WalkerWords, SteppedWords, NodeWords, leaving, past_skips, bad_child, report_words, visit_words, pop_words}
use Rattle.walk.specs.WordStep.{turn_words}
use Rattle.walk.specs.WordStep.{advance_words, step_words}
use Rattle.walk.proofs.Cases.{cond_elim, or_false}
use Rattle.walk.proofs.Stacks.{waiting_most}

-- the rest of a group waits only where there is room
rest_deep : (h : Bool) (e : ℕ) → h && not (has_room e) ≡ false → e ≤ capacity → cond h (suc e) e ≤ capacity
rest_deep false e z l = l
rest_deep true e z l = go (has_room e) refl z
  where
    go : (b : Bool) → has_room e ≡ b → not b ≡ false → suc e ≤ capacity
    go true q y = omega (arith, ltb-true e capacity q)
    go false q y = absurd (let u : ◌≡◌ {A = ℕ} 0 1 = cc in omega arith)

module _ {RayData Distance : Type 0} (m : ℕ) (N : NodeWords RayData Distance) (n : ℕ) (w : WalkerWords RayData) where
  -- a test comes where no position is in hand and tests are left, and leaves the ray; a position is one of the n; and a refusal is cause 10
  abbrev pub ShowsAs : Answer → WalkerWords RayData → Type 0
  ShowsAs (tested v) u = (w.positions.bits ≤ 0) × (w.tests < m) × (u.depth ≤ capacity) × (u.ray ≡ w.ray) × (u.tests ≡ suc w.tests)
  ShowsAs (position p) u = (0 < w.positions.bits) × (p < n)
  ShowsAs done u = w.positions.bits ≤ 0
  ShowsAs (refused k) u = k ≡ 10

  abbrev ShowsOf : SteppedWords RayData → Type 0
  ShowsOf r = ShowsAs r.answer r.walker

  visit_shows : (g : Group) (e : ℕ) → w.positions.bits ≤ 0 → e ≤ capacity → ShowsOf (visit_words m N n w g e)
  unfolding visit_words
  visit_shows g e z l = cond_elim ShowsOf (bad_child m N n w g e) _ _ (λ _. refl) (λ b.
      let c = first_child (N.octant w.ray) g in
      let r = has_child (rest_of g) && not (has_room e) in
      let o = or_false (r || leb m c || leb m w.tests) (not (N.rule n c)) b in
      let p = or_false (r || leb m c) (leb m w.tests) o.0 in
      let q = or_false r (leb m c) p.0 in
      (z, leb-false m w.tests p.1, rest_deep (has_child (rest_of g)) e q.0 l, refl, refl))

  shows_as : w.depth ≤ capacity → ShowsOf (turn_words m N n w)
  unfolding turn_words report_words pop_words
  shows_as l =
      cond_elim ShowsOf (ltb 0 w.positions.bits) _ _
      (λ h. cond_elim ShowsOf (N.absent w.ray (first_position w.positions)) _ _ (λ _. refl)
      (λ _. cond_elim ShowsOf (leb n (first_position w.positions)) _ _ (λ _. refl)
      (λ b. (ltb-true 0 w.positions.bits h, leb-false n (first_position w.positions) b))))
      (λ h. let z = ltb-false 0 w.positions.bits h in
      cond_elim ShowsOf (has_child w.current) _ _ (λ _. visit_shows w.current w.depth z l)
      (λ _. let k = waiting_most w.stack w.depth in
      cond_elim ShowsOf (ltb 0 (waiting_depth w.stack w.depth)) _ _
      (λ _. visit_shows (unpacked (top_of w.stack (waiting_depth w.stack w.depth))) _ z (omega arith)) (λ _. z)))

module _ {RayData Distance : Type 0} (m : ℕ) (N : NodeWords RayData Distance) (n : ℕ) (w : WalkerWords RayData) where
  -- what a turn's answer tells, of the hand without the positions that are passed over
  abbrev pub Shows : Answer → WalkerWords RayData → Type 0
  Shows a u = ShowsAs m N n (past_skips N w) a u

  pub turn_shows : w.depth ≤ capacity → Shows (advance_words m N n w).answer (advance_words m N n w).walker
  unfolding advance_words
  turn_shows l = go (turn_words m N n (past_skips N w)).answer (turn_words m N n (past_skips N w)).walker (shows_as m N n (past_skips N w) l)
    where
      go : (a : Answer) (u : WalkerWords RayData) → Shows a u → Shows a (leaving w a u)
      go (tested v) u h = h
      go (position p) u h = h
      go done u h = h
      go (refused e) u h = h

  -- a turn is the step, where sizes fit, there is a node, and the walker is not forged
  pub turn_is_step : m ≤ 65535 → n ≤ 65536 → 0 < m → N.forged w.ray ≡ false → w.depth ≤ capacity → w.tests ≤ m
      → step_words m N n w ≡ advance_words m N n w
  unfolding step_words
  turn_is_step a b c f e t = rw (le-leb n 65536 b, le-leb m 65535 a, f, le-ltb capacity w.depth e, le-ltb m w.tests t, lt-leb m 0 c)
