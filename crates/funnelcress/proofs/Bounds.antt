-- What a query's answer can hold, on any bytes: tests of at most every node, positions that are there, and no more of them than steps; and what
-- number a cause can have.
use mathlib.Core.Bool.{◌&&◌, ◌||◌, not}
use mathlib.Core.List.{List, [], ◌∷◌}
use mathlib.Core.Logic.{◌⊎◌, inl, inr}
use mathlib.Core.Path.{◌≡◌, refl}
use Prim.Native.Nat.{ℕ, zero, suc, ◌≤◌, ◌<◌}
use native.Mathlib.Omega.{arith}
use lib.Dec.{T, leb, leb→le, ltb}
use borrow.Author.Tests.{leb-false}
use Rattle.faststack.specs.Stack.{has_room, top_of}
use Rattle.causes.specs.Causes.{Condition, first_cause}
use Rattle.causes.proofs.Causes.{all_numbers, first_among}
use Rattle.causes.specs.Sizes.{sizes_fit}
use Rattle.walk.specs.Step.{Answer, tested, position, done, refused}
use Rattle.walk.specs.Words.{Group, unpacked, rest_of, first_position, first_child, has_child, waiting_depth}
use Rattle.walk.specs.WordStep.{WalkerWords, SteppedWords, NodeWords, tell_words, forged_words, only_first_words, bad_child}
use Rattle.walk.specs.WordStep.{leaving, past_skips, report_words, visit_words, pop_words, turn_words, advance_words, step_words}
use Rattle.walk.specs.Queries.{Reaction}
use Rattle.walk.specs.WordQueries.{OutcomeWords, told_all_words, follow_words, query_words}
use Rattle.walk.proofs.Cases.{cond_elim, or_false}

-- the first of causes none of which has a greater number than this
pub numbers_most : (most : ℕ) (l : List Condition) → T (all_numbers (λ k. leb k most) l) → first_cause l ≤ most
numbers_most most l h = go (first_among (λ k. leb k most) l h)
  where
    go : (first_cause l ≡ 0) ⊎ T (leb (first_cause l) most) → first_cause l ≤ most
    go (inl e) = omega (arith, e)
    go (inr t) = leb→le (first_cause l) most t

-- a position is one of the n, and a refusal has a cause's number
abbrev pub Below : ℕ → Answer → Type 0
Below n (tested v) = Unit {0}
Below n (position p) = p < n
Below n done = Unit {0}
Below n (refused k) = k ≤ 11

module _ {RayData Distance : Type 0} (m : ℕ) (N : NodeWords RayData Distance) (n : ℕ) where
  -- after a step: no more tests than nodes
  abbrev Few : SteppedWords RayData → Type 0
  Few r = (r.walker.tests ≤ m) × Below n r.answer

  module _ (w : WalkerWords RayData) (h : w.tests ≤ m) where
    visit_few : (g : Group) (e : ℕ) → Few (visit_words m N n w g e)
    unfolding visit_words
    visit_few g e =
        cond_elim Few (bad_child m N n w g e) _ _ (λ _. (h, omega arith)) (λ b.
        let c = first_child (N.octant w.ray) g in
        let r = has_child (rest_of g) && not (has_room e) in
        let o = or_false (r || leb m c || leb m w.tests) (not (N.rule n c)) b in
        (leb-false m w.tests (or_false (r || leb m c) (leb m w.tests) o.0).1, tt))

    turn_few : Few (turn_words m N n w)
    unfolding turn_words report_words pop_words
    turn_few =
        cond_elim Few (ltb 0 w.positions.bits) _ _
        (λ _. cond_elim Few (N.absent w.ray (first_position w.positions)) _ _ (λ _. (h, omega arith))
        (λ _. cond_elim Few (leb n (first_position w.positions)) _ _ (λ _. (h, omega arith))
        (λ b. (h, leb-false n (first_position w.positions) b))))
        (λ _. cond_elim Few (has_child w.current) _ _ (λ _. visit_few w.current w.depth)
        (λ _. cond_elim Few (ltb 0 (waiting_depth w.stack w.depth)) _ _
        (λ _. visit_few (unpacked (top_of w.stack (waiting_depth w.stack w.depth))) _) (λ _. (h, tt))))

  module _ (w : WalkerWords RayData) (h : w.tests ≤ m) where
    advance_few : Few (advance_words m N n w)
    unfolding advance_words
    advance_few = let t = turn_few (past_skips N w) h in
        (go (turn_words m N n (past_skips N w)).answer (turn_words m N n (past_skips N w)).walker t.0, t.1)
      where
        go : (a : Answer) (u : WalkerWords RayData) → u.tests ≤ m → (leaving w a u).tests ≤ m
        go (tested v) u k = k
        go (position p) u k = k
        go done u k = k
        go (refused e) u k = h

    step_few : Few (step_words m N n w)
    unfolding step_words
    step_few =
        cond_elim Few (sizes_fit m n) _ _
        (λ _. cond_elim Few (forged_words m N w) _ _ (λ _. (h, omega arith))
        (λ _. cond_elim Few (leb m 0 && only_first_words m N (past_skips N w)) _ _ (λ _. (h, tt)) (λ _. advance_few)))
        (λ _. (h, omega arith))

  -- ---- a query, whatever is said of what it notes with so many steps left

  module _ {a : Type 0} (react : ℕ → RayData → a → Reaction Distance a) (Q : ℕ → a → Type 0)
      (drops : (f : ℕ) (x : a) → Q (suc f) x → Q f x)
      (notes : (f p : ℕ) (r : RayData) (x : a) → p < n → Q (suc f) x → Q f (react p r x).accumulator) where
    abbrev Ends : OutcomeWords RayData a → Type 0
    Ends o = (o.walker.tests ≤ m) × Below n o.ended × Q 0 o.accumulator

    at_last : (f : ℕ) (x : a) → Q f x → Q 0 x
    at_last zero x q = q
    at_last (suc f) x q = at_last f x (drops f x q)

    told_tests : (l : List Distance) (w : WalkerWords RayData) → (told_all_words N l w).tests ≡ w.tests
    told_tests [] w = refl
    told_tests (x ∷ l) w = told_tests l (tell_words N x w)

    pub query_few : (f : ℕ) (w : WalkerWords RayData) (x : a) → w.tests ≤ m → Q f x → Ends (query_words m N react f n w x)
    unfolding query_words
    query_few zero w x h q = (h, tt, q)
    query_few (suc f) w x h q = go (step_words m N n w).answer (step_words m N n w).walker (step_few w h).0 (step_few w h).1 (query_few f)
      where
        go : (b : Answer) (u : WalkerWords RayData) → u.tests ≤ m → Below n b
            → ((v : WalkerWords RayData) (y : a) → v.tests ≤ m → Q f y → Ends (query_words m N react f n v y))
            → Ends (follow_words m N react b u x (query_words m N react f n))
        go (tested c) u k l on = on u x k (drops f x q)
        go (position p) u k l on =
            let r : Reaction Distance a = react p u.ray x in
            let t = told_tests r.tells u in
            let y = notes f p u.ray x l q in
            cond_elim Ends r.stop _ _ (λ _. (omega (arith, t), l, at_last f r.accumulator y))
            (λ _. on (told_all_words N r.tells u) r.accumulator (omega (arith, t)) y)
        go done u k l on = (k, tt, at_last (suc f) x q)
        go (refused e) u k l on = (k, l, at_last (suc f) x q)
