-- Two walks in words over a record of m nodes, of which the one has positions that are absent and the other has none, with the same masks of the
-- nodes that there are: a step of the first that is not refused is the second's, and so is a query.
use mathlib.Core.Bool.{Bool, true, false, ◌&&◌, cond}
use mathlib.Core.List.{List, [], ◌∷◌}
use mathlib.Core.Path.{◌≡◌, refl, ap, ◌∙◌}
use Prim.Native.Nat.{ℕ, zero, suc, ◌<◌}
use lib.Dec.{leb, ltb}
use Rattle.causes.specs.Sizes.{sizes_fit}
use Rattle.walk.specs.Step.{Answer, tested, position, done, refused}
use Rattle.walk.specs.Calls.{Answered}
use Rattle.walk.specs.Queries.{Reaction}
use Rattle.walk.specs.Words.{Group, first_position, first_child, has_child, waiting_depth}
use Rattle.walk.specs.WordStep.{WalkerWords, SteppedWords, NodeWords, stay_words, after_test_words, leaving, past_skips, forged_words}
use Rattle.walk.specs.WordStep.{only_first_words, bad_child, report_words, visit_words, pop_words, turn_words, advance_words, step_words, tell_words}
use Rattle.walk.specs.WordQueries.{OutcomeWords, told_all_words, follow_words, query_words}
use Rattle.walk.proofs.WordStep.{good_child}

module _ {RayData Distance : Type 0} (m : ℕ) (N : NodeWords RayData Distance) (mask : RayData → ℕ → ℕ) (absent : RayData → ℕ → Bool) where
  -- what the first walk reads, N being what the second reads
  abbrev pub with_absent : NodeWords RayData Distance
  with_absent = record {
    rule = N.rule;
    told = N.told;
    forged = N.forged;
    absent = absent;
    skips = N.skips;
    octant = N.octant;
    mask = mask;
    imask = N.imask;
    child_base = N.child_base;
    position_base = N.position_base;
  }

  module _ (same_mask : (r : RayData) (v : ℕ) → v < m → mask r v ≡ N.mask r v) (none_absent : (r : RayData) (p : ℕ) → N.absent r p ≡ false) where
    -- ---- steps

    -- where the first is not refused both are one
    abbrev Same : SteppedWords RayData → SteppedWords RayData → Type 0
    Same a b = Answered a.answer → a ≡ b

    both : (c : Bool) (a b u v : SteppedWords RayData) → (c ≡ true → Same a u) → (c ≡ false → Same b v) → Same (cond c a b) (cond c u v)
    both true a b u v f g = f refl
    both false a b u v f g = g refl

    visit_same : (n : ℕ) (w : WalkerWords RayData) (g : Group) (e : ℕ) → Same (visit_words m with_absent n w g e) (visit_words m N n w g e)
    unfolding visit_words
    visit_same n w g e =
        both (bad_child m N n w g e) _ _ _ _ (λ _ a. refl)
        (λ b a.
        let c = first_child (N.octant w.ray) g in
        ap (λ (k : ℕ). after_test_words m (record N { mask = λ r v. k }) w g e) (same_mask w.ray c (good_child m N n w g e b).node))

    turn_same : (n : ℕ) (w : WalkerWords RayData) → Same (turn_words m with_absent n w) (turn_words m N n w)
    unfolding turn_words pop_words
    turn_same n w =
        both (ltb 0 w.positions.bits) _ _ _ _ (λ _. report (absent w.ray (first_position w.positions)))
        (λ _. both (has_child w.current) _ _ _ _ (λ _. visit_same n w w.current w.depth)
        (λ _. both (ltb 0 (waiting_depth w.stack w.depth)) _ _ _ _ (λ _. visit_same n w _ _) (λ _ a. refl)))
      where
        report : (b : Bool) → Same (cond b (stay_words w (refused 10)) (report_words n w))
            (cond (N.absent w.ray (first_position w.positions)) (stay_words w (refused 10)) (report_words n w))
        report true a = absurd a
        report false a = rw (none_absent w.ray (first_position w.positions)) refl

    pub step_same : (n : ℕ) (w : WalkerWords RayData) → Same (step_words m with_absent n w) (step_words m N n w)
    unfolding step_words advance_words
    step_same n w =
        both (sizes_fit m n) _ _ _ _
        (λ _. both (forged_words m N w) _ _ _ _ (λ _ a. refl)
        (λ _. both (leb m 0 && only_first_words m N (past_skips N w)) _ _ _ _ (λ _ a. refl)
        (λ _ a. ap (λ (r : SteppedWords RayData). stay_words (leaving w r.answer r.walker) r.answer) (turn_same n (past_skips N w) a))))
        (λ _ a. refl)

    -- ---- queries

    module _ {a : Type 0} (react : ℕ → RayData → a → Reaction Distance a) where
      told_same : (l : List Distance) (w : WalkerWords RayData) → told_all_words with_absent l w ≡ told_all_words N l w
      told_same [] w = refl
      told_same (x ∷ l) w = told_same l (tell_words N x w)

      -- what follows a step of the second
      abbrev rest : (f n : ℕ) (x : a) → SteppedWords RayData → OutcomeWords RayData a
      rest f n x r = follow_words m N react r.answer r.walker x (query_words m N react f n)

      pub query_same : (f n : ℕ) (w : WalkerWords RayData) (x : a) → Answered (query_words m with_absent react f n w x).ended
          → query_words m with_absent react f n w x ≡ query_words m N react f n w x
      unfolding query_words
      query_same zero n w x h = refl
      query_same (suc f) n w x h =
          go (step_words m with_absent n w).answer (step_words m with_absent n w).walker (step_same n w) (query_same f n) h
        where
          go : (b : Answer) (u : WalkerWords RayData) → Same (stay_words u b) (step_words m N n w)
              → ((u : WalkerWords RayData) (y : a) → Answered (query_words m with_absent react f n u y).ended
              → query_words m with_absent react f n u y ≡ query_words m N react f n u y)
              → Answered (follow_words m with_absent react b u x (query_words m with_absent react f n)).ended
              → follow_words m with_absent react b u x (query_words m with_absent react f n) ≡ rest f n x (step_words m N n w)
          go (tested v) u s q h = q u x h ∙ ap (rest f n x) (s tt)
          go (position p) u s q h = by (react p u.ray x) (react p u.ray x).stop h ∙ ap (rest f n x) (s tt)
            where
              by : (r : Reaction Distance a) (t : Bool)
                  → Answered (cond t (record { walker = told_all_words with_absent r.tells u; accumulator = r.accumulator; ended = position p })
                  (query_words m with_absent react f n (told_all_words with_absent r.tells u) r.accumulator)).ended
                  → cond t (record { walker = told_all_words with_absent r.tells u; accumulator = r.accumulator; ended = position p })
                  (query_words m with_absent react f n (told_all_words with_absent r.tells u) r.accumulator)
                  ≡ cond t (record { walker = told_all_words N r.tells u; accumulator = r.accumulator; ended = position p })
                  (query_words m N react f n (told_all_words N r.tells u) r.accumulator)
              by r true k =
                  ap (λ (v : WalkerWords RayData). record { walker = v; accumulator = r.accumulator; ended = position p }) (told_same r.tells u)
              by r false k =
                  q (told_all_words with_absent r.tells u) r.accumulator k
                  ∙ ap (λ (v : WalkerWords RayData). query_words m N react f n v r.accumulator) (told_same r.tells u)
          go done u s q h = ap (rest f n x) (s tt)
          go (refused e) u s q h = absurd h
