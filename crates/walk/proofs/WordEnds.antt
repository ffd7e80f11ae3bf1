-- A measure for loops over steps in words: it falls at every step that goes on, so that more steps than it counts change nothing.
use mathlib.Core.Bool.{Bool, false, ◌&&◌, cond}
use mathlib.Core.List.{List, [], ◌∷◌}
use mathlib.Core.Path.{◌≡◌, refl, ap}
use Prim.Native.Nat.{ℕ, zero, suc, ◌+◌, ◌-◌, ◌*◌, ◌%◌, ◌^◌, ◌≤◌, ◌<◌}
use native.Mathlib.Omega.{arith}
use lib.Dec.{leb, ltb}
use lib.ListN.{length}
use borrow.Author.Tests.{ltb-true}
use Rattle.words.specs.Ones.{ones_below}
use Rattle.words.specs.Fields.{field}
use Rattle.words.proofs.Fields.{field_lt}
use Rattle.words.proofs.Ranks.{rank_step}
use Rattle.faststack.specs.Stack.{top_of}
use Rattle.causes.specs.Sizes.{sizes_fit}
use Rattle.walk.specs.Step.{Answer, tested, position, done, refused}
use Rattle.walk.specs.Queries.{Reaction, Going}
use Rattle.walk.specs.Slots.{falling}
use Rattle.walk.specs.Words.{Group, unpacked, is_set, positions_in, rest_of, first_position, past_skipped, first_child, has_child, waiting_depth}
use Rattle.walk.specs.WordStep.{WalkerWords, SteppedWords, NodeWords, forged_words, only_first_words, bad_child, leaving, past_skips, report_words}
use Rattle.walk.specs.WordStep.{visit_words, pop_words, turn_words, advance_words, step_words, tell_words, WordsFit, Decodes}
use Rattle.walk.specs.WordQueries.{OutcomeWords, told_all_words, follow_words, query_words}
use Rattle.lists.proofs.Tells.{both_pass}
use Rattle.walk.proofs.Cases.{cond_elim}
use Rattle.walk.proofs.Falling.{falling-length, falling_cut}
use Rattle.walk.proofs.Words.{set_is, clear_is, past_clear, positions_first, rest_lt}
use Rattle.walk.proofs.WordStep.{good_child, past_range}
use Rattle.walk.proofs.WordRuns.{step_range}
use Rattle.walk.proofs.WordQueries.{all_range}

-- a word stands for as many positions as it has ones
ones_falling : (f : ℕ → ℕ) (n w : ℕ) → length (falling f (λ b. is_set b n) w) ≡ ones_below w n
unfolding ones_below
ones_falling f n zero = refl
ones_falling f n (suc w) = go (field 1 w n) refl (ones_falling f n w)
  where
    go : (b : ℕ) → field 1 w n ≡ b → length (falling f (λ b. is_set b n) w) ≡ ones_below w n → length (falling f (λ b. is_set b n) (suc w))
        ≡ ones_below (suc w) n
    go zero e r = rw (clear_is w n e) (omega (arith, rank_step w n))
    go (suc zero) e r = rw (set_is w n e) (omega (arith, rank_step w n))
    go (suc (suc b)) e r = absurd (omega (arith, field_lt 1 w n))

-- where none is passed over
positions-length : (g : Group) → length (positions_in (λ p. false) g) ≡ ones_below 32 g.bits
positions-length g = ones_falling (λ b. g.base + b) g.bits 32

-- without the highest it has one less,
pub ones_rest : (g : Group) → 0 < g.bits → g.bits < 2 ^ 32 → ones_below 32 g.bits ≡ suc (ones_below 32 (rest_of g).bits)
ones_rest g h l =
    let e : length (positions_in (λ p. false) g) ≡ suc (length (positions_in (λ p. false) (rest_of g))) =
    ap length (positions_first (λ p. false) g h l refl) in
    omega (arith, positions-length g, positions-length (rest_of g))

-- past those that are passed over no more,
ones_skipped : (skips : ℕ → Bool) (k : ℕ) (g : Group) → g.bits < 2 ^ 32 → ones_below 32 (past_skipped skips k g).bits ≤ ones_below 32 g.bits
ones_skipped skips zero g l = omega arith
ones_skipped skips (suc k) g l =
    cond_elim (λ (u : Group). ones_below 32 u.bits ≤ ones_below 32 g.bits) (skips (first_position g) && ltb 0 g.bits)
    (past_skipped skips k (rest_of g)) g
    (λ e. let h = ltb-true 0 g.bits (both_pass (skips (first_position g)) (ltb 0 g.bits) e).1 in
    omega (arith, ones_skipped skips k (rest_of g) (rest_lt g l), ones_rest g h l))
    (λ e. omega arith)

-- and the positions of a node are 24 at most
ones_cut : (n : ℕ) → ones_below 32 (n % 0x100_0000) ≤ 24
ones_cut n =
    let f : ℕ → ℕ = λ b. b in
    let e =
    ap length (falling_cut f (λ b. is_set b (n % 0x100_0000)) 24 32 (omega arith) (λ i x y. past_clear 24 i (n % 0x100_0000) (omega arith) x)) in
    omega (arith, ones_falling f (n % 0x100_0000) 32, falling-length f (λ b. is_set b (n % 0x100_0000)) 24)

-- no more steps than this are left
abbrev pub steps_left_words : {RayData : Type 0} → ℕ → WalkerWords RayData → ℕ
steps_left_words m w = 25 * (m - w.tests) + ones_below 32 w.positions.bits

module _ {RayData Distance : Type 0} (m : ℕ) (N : NodeWords RayData Distance) (n : ℕ) (w : WalkerWords RayData) where
  -- a step that goes on leaves fewer
  abbrev FallsTo : Answer → WalkerWords RayData → Type 0
  FallsTo a u = Going a → steps_left_words m u < steps_left_words m w

  abbrev Falls : SteppedWords RayData → Type 0
  Falls r = FallsTo r.answer r.walker

  visit_falls : (g : Group) (e : ℕ) → Falls (visit_words m N n w g e)
  unfolding visit_words
  visit_falls g e =
      cond_elim Falls (bad_child m N n w g e) _ _ (λ _ h. absurd h)
      (λ b h. omega (arith, (good_child m N n w g e b).untested, ones_cut (N.mask w.ray (first_child (N.octant w.ray) g))))

  turn_falls : WordsFit w → Falls (turn_words m N n w)
  unfolding turn_words report_words pop_words
  turn_falls i =
      cond_elim Falls (ltb 0 w.positions.bits) _ _
      (λ a. cond_elim Falls (N.absent w.ray (first_position w.positions)) _ _ (λ _ h. absurd h)
      (λ _. cond_elim Falls (leb n (first_position w.positions)) _ _ (λ _ h. absurd h)
      (λ _ h. omega (arith, ones_rest w.positions (ltb-true 0 w.positions.bits a) i.positions))))
      (λ _. cond_elim Falls (has_child w.current) _ _ (λ _. visit_falls w.current w.depth)
      (λ _. cond_elim Falls (ltb 0 (waiting_depth w.stack w.depth)) _ _
      (λ _. visit_falls (unpacked (top_of w.stack (waiting_depth w.stack w.depth))) (waiting_depth w.stack w.depth - 1))
      (λ _ h. absurd h)))

module _ {RayData Distance : Type 0} (m : ℕ) (N : NodeWords RayData Distance) where
  advance_falls : (n : ℕ) (w : WalkerWords RayData) → WordsFit w → Falls m N n w (advance_words m N n w)
  unfolding advance_words
  advance_falls n w i =
      go (turn_words m N n (past_skips N w)).answer (turn_words m N n (past_skips N w)).walker (turn_falls m N n (past_skips N w) (past_range N w i))
    where
      fewer : (u : WalkerWords RayData) → steps_left_words m u < steps_left_words m (past_skips N w) → steps_left_words m u < steps_left_words m w
      fewer u h = omega (arith, ones_skipped (N.skips w.ray) 32 w.positions i.positions)

      go : (a : Answer) (u : WalkerWords RayData) → FallsTo m N n (past_skips N w) a u → FallsTo m N n w a (leaving w a u)
      go (tested v) u h = λ g. fewer u (h tt)
      go (position p) u h = λ g. fewer u (h tt)
      go done u h = λ g. absurd g
      go (refused e) u h = λ g. absurd g

  pub words_fall : (n : ℕ) (w : WalkerWords RayData) → WordsFit w → Going (step_words m N n w).answer
      → steps_left_words m (step_words m N n w).walker < steps_left_words m w
  unfolding step_words
  words_fall n w i =
      cond_elim (Falls m N n w) (sizes_fit m n) _ _
      (λ _. cond_elim (Falls m N n w) (forged_words m N w) _ _ (λ _ h. absurd h)
      (λ _. cond_elim (Falls m N n w) (leb m 0 && only_first_words m N (past_skips N w)) _ _ (λ _ h. absurd h) (λ _. advance_falls n w i)))
      (λ _ h. absurd h)

module _ {RayData Distance : Type 0} (m : ℕ) (N : NodeWords RayData Distance) (ps cs : RayData → ℕ → List ℕ) (D : Decodes m N ps cs) where
  module _ {a : Type 0} (react : ℕ → RayData → a → Reaction Distance a) where
    told_left : (l : List Distance) (w : WalkerWords RayData) → steps_left_words m (told_all_words N l w) ≡ steps_left_words m w
    told_left [] w = refl
    told_left (x ∷ l) w = told_left l (tell_words N x w)

    -- more steps change nothing
    pub query_words_enough : (f g n : ℕ) (w : WalkerWords RayData) (x : a) → WordsFit w → steps_left_words m w < f → steps_left_words m w < g
        → query_words m N react f n w x ≡ query_words m N react g n w x
    unfolding query_words
    query_words_enough zero g n w x i h k = absurd (omega arith)
    query_words_enough (suc f) zero n w x i h k = absurd (omega arith)
    query_words_enough (suc f) (suc g) n w x i h k =
        go (step_words m N n w).answer (step_words m N n w).walker (step_range m N ps cs D n w i) (words_fall m N n w i) (query_words_enough f g n)
      where
        go : (b : Answer) (u : WalkerWords RayData) → WordsFit u → (Going b → steps_left_words m u < steps_left_words m w)
            → ((u : WalkerWords RayData) (x : a) → WordsFit u → steps_left_words m u < f → steps_left_words m u < g → query_words m N react f n u x
            ≡ query_words m N react g n u x)
            → follow_words m N react b u x (query_words m N react f n) ≡ follow_words m N react b u x (query_words m N react g n)
        go (tested c) u j l q = q u x j (omega (arith, l tt)) (omega (arith, l tt))
        go (position p) u j l q =
            let r : Reaction Distance a = react p u.ray x in
            let z = told_left r.tells u in
            ap (λ (o : OutcomeWords RayData a). cond r.stop
            (record { walker = told_all_words N r.tells u; accumulator = r.accumulator; ended = position p }) o)
            (q (told_all_words N r.tells u) r.accumulator (all_range m N ps cs D react r.tells u j) (omega (arith, l tt))
            (omega (arith, l tt)))
        go done u j l q = refl
        go (refused e) u j l q = refl
