-- A step in words is the step on the lists that the words stand for, for every walker of words in range.
use mathlib.Core.Bool.{Bool, true, false, not, ◌&&◌, ◌||◌, cond}
use mathlib.Core.List.{List, [], ◌∷◌}
use mathlib.Core.Path.{◌≡◌, refl, sym, ap, ap₂, ◌∙◌, subst}
use Prim.Native.Nat.{ℕ, zero, suc, ◌-◌, ◌^◌, ◌≤◌, ◌<◌}
use native.Mathlib.Omega.{arith}
use native.Mathlib.Decide.{dec_lt}
use lib.Dec.{eqb, leb, ltb}
use lib.ListN.{length}
use borrow.Author.Tests.{leb-true, leb-false, ltb-true, ltb-false, lt-ltb, le-ltb, le-leb, lt-leb, eq-eqb, ne_eqb}
use Rattle.faststack.specs.Stack.{capacity, has_room, top_of}
use Rattle.walk.specs.Tests.{Tests}
use Rattle.causes.specs.Sizes.{sizes_fit}
use Rattle.walk.specs.Step.{Walker, Answer, tested, position, done, refused, Stepped, Due, report, test, due_of, forged_walker, no_room}
use Rattle.walk.specs.Step.{bad_node, only_first, stay, emptied, after_report, after_test, advance, step_of}
use Rattle.walk.specs.Words.{Group, unpacked, positions_in, children_in, groups_in, rest_of, first_position, first_child, has_child, waiting_depth}
use Rattle.walk.specs.WordStep.{WalkerWords, SteppedWords, NodeWords, no_group, forged_words, only_first_words, bad_child, stay_words, emptied_words}
use Rattle.walk.specs.WordStep.{after_report_words, after_test_words, leaving, past_skips, report_words, visit_words, pop_words, turn_words}
use Rattle.walk.specs.WordStep.{advance_words, step_words, decoded, decoded_step, WordsFit, tests_with, Decodes}
use Rattle.walk.proofs.Cases.{cond_elim, or_false, not_false_true}
use Rattle.walk.proofs.Words.{positions_first, positions_none, AtFront, front_first, skipped_same, skipped_lt, skipped_front, children_none}
use Rattle.walk.proofs.Words.{children_first, rest_lt}
use Rattle.walk.proofs.WordKept.{Rests, turn_rests}
use Rattle.walk.proofs.Stacks.{groups-length, top_bits, due_words, due_stack, waiting_child, groups-pushed}

-- ---- tests of lists and of words

cond_same : {A B : Type 0} (f : A → B) (b c : Bool) (x y : A) (u v : B) → b ≡ c → (b ≡ true → f x ≡ u) → (b ≡ false → f y ≡ v) → f (cond b x y)
    ≡ cond c u v
cond_same f true c x y u v e g h = rw (← e) (g refl)
cond_same f false c x y u v e g h = rw (← e) (h refl)

not_less : (a b : ℕ) → not (ltb a b) ≡ leb b a
not_less a b = go (dec_lt a b)
  where
    go : Dec (a < b) → not (ltb a b) ≡ leb b a
    go (yes h) = rw (lt-ltb a b h, lt-leb b a h)
    go (no h) = rw (le-ltb a b (omega arith), le-leb b a (omega arith))

-- the rest of a group finds no room, in words
room_same : (octant d : ℕ) (g : Group) (st : List (List ℕ)) → octant < 8 → g.bits < 2 ^ 32 → length st ≡ d → has_child g && not (has_room d)
    ≡ no_room (children_in octant g) st
room_same octant d g st o w l = go (has_child g) refl
  where
    go : (b : Bool) → has_child g ≡ b → b && not (has_room d) ≡ no_room (children_in octant g) st
    go false e = rw (children_none octant g (leb-false 0x100_0000 _ e))
    go true e = rw (children_first octant g o (leb-true 0x100_0000 _ e) w, l) (not_less d 32)

-- only the first node is in hand, in words
first_same : (c d : ℕ) (b : Bool) (r : List ℕ) (st : List (List ℕ)) → (b ≡ false → r ≡ []) → (b ≡ true → (x : ℕ) × (t : List ℕ) × (r ≡ x ∷ t))
    → length st ≡ d
    → eqb c 0 && not b && eqb d 0 ≡ only_first [] (c ∷ r) st
first_same (suc c) d b r st f g l = rw (ne_eqb (suc c) 0 (λ e. omega arith))
first_same zero d true r st f g l = let q = g refl in rw q.2
first_same zero d false r [] f g l = rw (f refl, ← l)
first_same zero d false r (x ∷ st) f g l = rw (f refl, ne_eqb d 0 (λ e. omega (arith, l)))

-- a child that nothing stands in the way of
pub record GoodChild {RayData Distance : Type 0} (m : ℕ) (N : NodeWords RayData Distance) (n : ℕ) (w : WalkerWords RayData) (g : Group)
    (e : ℕ) : Type 0 where
  pub roomy : has_child (rest_of g) && not (has_room e) ≡ false
  pub node : first_child (N.octant w.ray) g < m
  pub untested : w.tests < m
  pub rule : N.rule n (first_child (N.octant w.ray) g) ≡ true

pub good_child : {RayData Distance : Type 0} (m : ℕ) (N : NodeWords RayData Distance) (n : ℕ) (w : WalkerWords RayData) (g : Group) (e : ℕ)
    → bad_child m N n w g e ≡ false
    → GoodChild m N n w g e
good_child m N n w g e z =
    let c = first_child (N.octant w.ray) g in
    let r = has_child (rest_of g) && not (has_room e) in
    let a = or_false (r || leb m c || leb m w.tests) (not (N.rule n c)) z in
    let a2 = or_false (r || leb m c) (leb m w.tests) a.0 in
    let a3 = or_false r (leb m c) a2.0 in
    record { roomy = a3.0; node = leb-false m c a3.1; untested = leb-false m w.tests a2.1; rule = not_false_true (N.rule n c) a.1 }

-- past the positions that are passed over words stay in range
pub past_range : {RayData Distance : Type 0} (N : NodeWords RayData Distance) (w : WalkerWords RayData) → WordsFit w → WordsFit (past_skips N w)
past_range N w i =
    record {
      positions = skipped_lt (N.skips w.ray) 32 w.positions i.positions;
      base = i.base;
      bits = i.bits;
      room = i.room;
      words = i.words;
    }

module _ {RayData Distance : Type 0} (m : ℕ) (N : NodeWords RayData Distance) (ps cs : RayData → ℕ → List ℕ) (D : Decodes m N ps cs) where
  abbrev T : Tests RayData Distance
  T = tests_with N ps cs

  -- what is due, and whether only the first node is in hand, on the lists
  abbrev due_in : WalkerWords RayData → Due
  due_in w =
      due_of (positions_in (N.skips w.ray) w.positions) (children_in (N.octant w.ray) w.current)
      (groups_in (N.octant w.ray) w.stack w.depth)

  abbrev only_in : WalkerWords RayData → Bool
  only_in w =
      only_first (positions_in (N.skips w.ray) w.positions) (children_in (N.octant w.ray) w.current)
      (groups_in (N.octant w.ray) w.stack w.depth)

  -- the first position in hand is not passed over
  abbrev Front : WalkerWords RayData → Type 0
  Front w = AtFront (N.skips w.ray) w.positions

  first_held : (w : WalkerWords RayData) → WordsFit w → Front w → 0 < w.positions.bits
      → positions_in (N.skips w.ray) w.positions ≡ first_position w.positions ∷ positions_in (N.skips w.ray) (rest_of w.positions)
  first_held w i a h = positions_first (N.skips w.ray) w.positions h i.positions (front_first (N.skips w.ray) w.positions a h)

  none_held : (w : WalkerWords RayData) → w.positions.bits ≡ 0 → positions_in (N.skips w.ray) w.positions ≡ []
  none_held w e = positions_none (N.skips w.ray) w.positions e

  only_same : (w : WalkerWords RayData) → WordsFit w → N.octant w.ray < 8 → Front w → only_first_words m N w ≡ only_in w
  only_same w i o a = go (dec_lt 0 w.positions.bits) (has_child w.current) refl
    where
      rest : (b : Bool) → has_child (rest_of w.current) ≡ b → b ≡ true → (x : ℕ) × (t : List ℕ)
          × (children_in (N.octant w.ray) (rest_of w.current) ≡ x ∷ t)
      rest b e z = (
        _,
        _,
        children_first (N.octant w.ray) (rest_of w.current) o (leb-true 0x100_0000 _ (e ∙ z))
            (rest_lt w.current i.bits),
      )

      go : Dec (0 < w.positions.bits) → (b : Bool) → has_child w.current ≡ b
          → eqb w.positions.bits 0 && b && eqb (first_child (N.octant w.ray) w.current) 0 && not (has_child (rest_of w.current)) && eqb
          w.depth 0
          ≡ only_in w
      go (yes h) b e = rw (first_held w i a h, ne_eqb w.positions.bits 0 (λ z. omega arith))
      go (no h) false e =
          rw (
            none_held w (omega arith),
            children_none (N.octant w.ray) w.current (leb-false 0x100_0000 _ e),
            eq-eqb w.positions.bits 0 (omega arith),
          )
      go (no h) true e =
          rw (
            none_held w (omega arith),
            children_first (N.octant w.ray) w.current o (leb-true 0x100_0000 _ e) i.bits,
            eq-eqb w.positions.bits 0 (omega arith),
          )
          (first_same (first_child (N.octant w.ray) w.current) w.depth (has_child (rest_of w.current)) _ _
          (λ z. children_none (N.octant w.ray) (rest_of w.current) (leb-false 0x100_0000 _ z)) (rest (has_child (rest_of w.current)) refl)
          (groups-length (N.octant w.ray) w.depth w.stack))

  same_walker : (r : RayData) (t : ℕ) (h k : List ℕ) (g l : List ℕ) (st u : List (List ℕ)) → h ≡ k → g ≡ l → st ≡ u
      → ◌≡◌ {A = Walker RayData} (record { ray = r; tests = t; positions = h; group = g; stack = st })
      (record { ray = r; tests = t; positions = k; group = l; stack = u })
  same_walker r t h k g l st u a b c = λ i. record { ray = r; tests = t; positions = a i; group = b i; stack = c i }

  -- ---- a visit

  visit_decoded : (n : ℕ) (w : WalkerWords RayData) (g : Group) (e : ℕ) → T.forged w.ray ≡ false → capacity ≤ length w.stack
      → has_child g ≡ true
      → g.bits < 2 ^ 32 → g.base < 2 ^ 32
      → decoded_step N (visit_words m N n w g e)
      ≡ advance m T n (decoded N w) (test (first_child (N.octant w.ray) g) (children_in (N.octant w.ray) (rest_of g))
      (groups_in (N.octant w.ray) w.stack e))
  unfolding visit_words
  visit_decoded n w g e f long h l b =
      cond_same (decoded_step N) (bad_child m N n w g e)
      (bad_node m T n w.tests (first_child (N.octant w.ray) g) (children_in (N.octant w.ray) (rest_of g))
      (groups_in (N.octant w.ray) w.stack e))
      _ _ _ _ same_bad (λ _. refl) after
    where
      small : N.octant w.ray < 8
      small = D.octant_lt w.ray f

      same_room : has_child (rest_of g) && not (has_room e)
          ≡ no_room (children_in (N.octant w.ray) (rest_of g)) (groups_in (N.octant w.ray) w.stack e)
      same_room = room_same (N.octant w.ray) e (rest_of g) (groups_in (N.octant w.ray) w.stack e) small (rest_lt g l)
          (groups-length (N.octant w.ray) e w.stack)

      same_bad : bad_child m N n w g e
          ≡ bad_node m T n w.tests (first_child (N.octant w.ray) g) (children_in (N.octant w.ray) (rest_of g))
          (groups_in (N.octant w.ray) w.stack e)
      same_bad = ap (λ (x : Bool). x || leb m (first_child (N.octant w.ray) g) || leb m w.tests || not
          (T.rule n (first_child (N.octant w.ray) g))) same_room

      room : has_child (rest_of g) && not (has_room e) ≡ false → has_child (rest_of g) ≡ true → e < capacity
      room z y = ltb-true e capacity (go (has_room e) (subst (λ (x : Bool). x && not (has_room e) ≡ false) y z))
        where
          go : (x : Bool) → true && not x ≡ false → x ≡ true
          go true q = refl
          go false q = not_false_true false q

      after : bad_child m N n w g e ≡ false
          → decoded_step N (after_test_words m N w g e)
          ≡ after_test T (decoded N w) (first_child (N.octant w.ray) g) (children_in (N.octant w.ray) (rest_of g))
          (groups_in (N.octant w.ray) w.stack e)
      after z =
          let k = good_child m N n w g e z in
          ap (λ (u : Walker RayData). stay u (tested (first_child (N.octant w.ray) g)))
          (same_walker w.ray (suc w.tests) _ _ _ _ _ _
          (D.positions_are w.ray n (first_child (N.octant w.ray) g) f k.node k.rule)
          (D.children_are w.ray n (first_child (N.octant w.ray) g) f k.node k.rule)
          (groups-pushed w.stack e long (N.octant w.ray) (rest_of g) small b (rest_lt g l) (room k.roomy)))

  -- ---- what is due

  pop_decoded : (n : ℕ) (w : WalkerWords RayData) (e : ℕ) → WordsFit w → T.forged w.ray ≡ false
      → (0 < e → has_child (unpacked (top_of w.stack e)) ≡ true)
      → decoded_step N (pop_words m N n w e) ≡ advance m T n (decoded N w) (due_words (N.octant w.ray) w.stack e)
  unfolding pop_words
  pop_decoded n w zero i f h = refl
  pop_decoded n w (suc e) i f h =
      let z : suc e - 1 ≡ e = omega arith in
      rw (lt-ltb 0 (suc e) (omega arith), z)
      (visit_decoded n w (unpacked (top_of w.stack (suc e))) e f i.room (h (omega arith)) (top_bits w.stack (suc e) i.words) (omega arith))

  -- a step in words does what is due on the lists
  abbrev DoesDue : ℕ → WalkerWords RayData → SteppedWords RayData → Type 0
  DoesDue n w r =
      decoded_step N r
      ≡ advance m T n (decoded N w) (due_in w)

  turn_decoded : (n : ℕ) (w : WalkerWords RayData) → WordsFit w → T.forged w.ray ≡ false → Front w → DoesDue n w (turn_words m N n w)
  unfolding turn_words report_words
  turn_decoded n w i f front =
      cond_elim (DoesDue n w) (ltb 0 w.positions.bits) _ _ (λ a. in_hand_lem (ltb-true 0 _ a))
      (λ a. cond_elim (DoesDue n w) (has_child w.current) _ _ (λ b. in_group (ltb-false 0 _ a) b) (λ b. on_stack (ltb-false 0 _ a) b))
    where
      small : N.octant w.ray < 8
      small = D.octant_lt w.ray f

      go : (x : Due) → due_in w ≡ x
          → (r : SteppedWords RayData) → decoded_step N r ≡ advance m T n (decoded N w) x → DoesDue n w r
      go x e r q = q ∙ ap (advance m T n (decoded N w)) (sym e)

      -- an absent position is refused, and so is one that is none of the n
      either : (a b : Bool)
          → decoded_step N (cond a (stay_words w (refused 10)) (cond b (stay_words w (refused 10)) (after_report_words w)))
          ≡ cond (a || b) (stay (decoded N w) (refused 10))
          (after_report (decoded N w) (first_position w.positions) (positions_in (N.skips w.ray) (rest_of w.positions)))
      either true b = refl
      either false true = refl
      either false false = refl

      in_hand_lem : 0 < w.positions.bits
          → DoesDue n w (cond (N.absent w.ray (first_position w.positions)) (stay_words w (refused 10)) (report_words n w))
      in_hand_lem a =
          go (report (first_position w.positions) (positions_in (N.skips w.ray) (rest_of w.positions)))
          (ap (λ (l : List ℕ). due_of l (children_in (N.octant w.ray) w.current) (groups_in (N.octant w.ray) w.stack w.depth))
          (first_held w i front a))
          (cond (N.absent w.ray (first_position w.positions)) (stay_words w (refused 10)) (report_words n w))
          (either (N.absent w.ray (first_position w.positions)) (leb n (first_position w.positions)))

      in_group : w.positions.bits ≤ 0 → has_child w.current ≡ true → DoesDue n w (visit_words m N n w w.current w.depth)
      in_group a b =
          go (test (first_child (N.octant w.ray) w.current) (children_in (N.octant w.ray) (rest_of w.current))
          (groups_in (N.octant w.ray) w.stack w.depth))
          (ap₂ (λ (l h : List ℕ). due_of l h (groups_in (N.octant w.ray) w.stack w.depth)) (none_held w (omega arith))
          (children_first (N.octant w.ray) w.current small (leb-true 0x100_0000 _ b) i.bits))
          (visit_words m N n w w.current w.depth) (visit_decoded n w w.current w.depth f i.room b i.bits i.base)

      on_stack : w.positions.bits ≤ 0 → has_child w.current ≡ false → DoesDue n w (pop_words m N n w (waiting_depth w.stack w.depth))
      on_stack a b =
          go (due_words (N.octant w.ray) w.stack (waiting_depth w.stack w.depth))
          (ap₂ (λ (l h : List ℕ). due_of l h (groups_in (N.octant w.ray) w.stack w.depth)) (none_held w (omega arith))
          (children_none (N.octant w.ray) w.current (leb-false 0x100_0000 _ b))
          ∙ due_stack (N.octant w.ray) w.stack w.depth small i.words)
          (pop_words m N n w (waiting_depth w.stack w.depth))
          (pop_decoded n w (waiting_depth w.stack w.depth) i f (waiting_child w.stack w.depth))

  -- ---- past the positions that are passed over

  past_front : (w : WalkerWords RayData) → WordsFit w → Front (past_skips N w)
  past_front w i = skipped_front (N.skips w.ray) 32 w.positions (omega arith) i.positions

  past_decoded : (w : WalkerWords RayData) → WordsFit w → decoded N (past_skips N w) ≡ decoded N w
  past_decoded w i =
      same_walker w.ray w.tests _ _ _ _ _ _ (skipped_same (N.skips w.ray) 32 w.positions i.positions) refl refl

  advance_decoded : (n : ℕ) (w : WalkerWords RayData) → WordsFit w → T.forged w.ray ≡ false → DoesDue n w (advance_words m N n w)
  unfolding advance_words
  advance_decoded n w i f =
      go r.answer r.walker (turn_rests m N n (past_skips N w))
      ∙ turn_decoded n (past_skips N w) (past_range N w i) f (past_front w i)
      ∙ ap (λ (u : Walker RayData). advance m T n u (due_of u.positions u.group u.stack)) (past_decoded w i)
    where
      r : SteppedWords RayData
      r = turn_words m N n (past_skips N w)

      go : (a : Answer) (u : WalkerWords RayData) → Rests m N n (past_skips N w) a u
          → ◌≡◌ {A = Stepped RayData} (stay (decoded N (leaving w a u)) a) (stay (decoded N u) a)
      go (tested v) u h = refl
      go (position p) u h = refl
      go done u h = refl
      go (refused e) u h = ap (λ (x : Walker RayData). stay x (refused e)) (sym (ap (decoded N) h ∙ past_decoded w i))

  -- ---- a step

  same_forged : (w : WalkerWords RayData) → forged_words m N w ≡ forged_walker m T (decoded N w)
  same_forged w = ap (λ (x : ℕ). T.forged w.ray || ltb 32 x || ltb m w.tests) (sym (groups-length (N.octant w.ray) w.depth w.stack))

  pub forged_ray_lem : (w : WalkerWords RayData) → forged_words m N w ≡ false → T.forged w.ray ≡ false
  forged_ray_lem w a = (or_false (T.forged w.ray) (ltb capacity w.depth)
      (or_false (T.forged w.ray || ltb capacity w.depth) (ltb m w.tests) a).0).0

  empty_decoded : (w : WalkerWords RayData) → decoded_step N (emptied_words w) ≡ emptied (decoded N w)
  empty_decoded w =
      ap (λ (u : Walker RayData). stay u done)
      (same_walker w.ray w.tests _ _ _ _ _ _ refl (children_none (N.octant w.ray) no_group (omega arith)) refl)

  unforged_decoded : (n : ℕ) (w : WalkerWords RayData) → WordsFit w → forged_words m N w ≡ false
      → decoded_step N (cond (leb m 0 && only_first_words m N (past_skips N w)) (emptied_words (past_skips N w)) (advance_words m N n w))
      ≡ cond (leb m 0 && only_in w) (emptied (decoded N w)) (advance m T n (decoded N w) (due_in w))
  unforged_decoded n w i a =
      let u = past_skips N w in
      let o = only_same u (past_range N w i) (D.octant_lt w.ray (forged_ray_lem w a)) (past_front w i) in
      cond_same (decoded_step N) (leb m 0 && only_first_words m N u) (leb m 0 && only_in w) (emptied_words u) (advance_words m N n w)
      (emptied (decoded N w)) (advance m T n (decoded N w) (due_in w))
      (ap (λ (x : Bool). leb m 0 && x) (o ∙ ap (λ (v : Walker RayData). only_first v.positions v.group v.stack) (past_decoded w i)))
      (λ _. empty_decoded u ∙ ap emptied (past_decoded w i)) (λ _. advance_decoded n w i (forged_ray_lem w a))

  pub step_decoded : (n : ℕ) (w : WalkerWords RayData) → WordsFit w → decoded_step N (step_words m N n w) ≡ step_of m T n (decoded N w)
  unfolding step_words step_of
  step_decoded n w i =
      cond_same (decoded_step N) (sizes_fit m n) (sizes_fit m n) (cond (forged_words m N w) (stay_words w (refused 10)) goes_on_lem)
      (stay_words w (refused 2))
      (cond (forged_walker m T (decoded N w)) (stay (decoded N w) (refused 10)) goes_on_lists) (stay (decoded N w) (refused 2)) refl
      (λ _. cond_same (decoded_step N) (forged_words m N w) (forged_walker m T (decoded N w)) (stay_words w (refused 10)) goes_on_lem
      (stay (decoded N w) (refused 10)) goes_on_lists (same_forged w) (λ _. refl) (λ a. unforged_decoded n w i a))
      (λ _. refl)
    where
      goes_on_lem : SteppedWords RayData
      goes_on_lem = cond (leb m 0 && only_first_words m N (past_skips N w)) (emptied_words (past_skips N w)) (advance_words m N n w)

      goes_on_lists : Stepped RayData
      goes_on_lists = cond (leb m 0 && only_in w) (emptied (decoded N w)) (advance m T n (decoded N w) (due_in w))
