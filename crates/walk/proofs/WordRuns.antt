-- Lists of calls in words are those on the lists that the words stand for: a walker's words stay in range.
use mathlib.Core.Bool.{Bool, false, ◌&&◌}
use mathlib.Core.List.{List, [], ◌∷◌}
use mathlib.Core.Path.{◌≡◌, refl, sym, ap, ap₂, ◌∙◌, subst}
use Prim.Native.Nat.{ℕ, zero, suc, ◌-◌, ◌^◌, ◌≤◌, ◌<◌}
use native.Mathlib.Omega.{arith}
use lib.Bits.{bit_xor, xor_lt}
use lib.Count.{count_leading_zeros}
use lib.Dec.{leb, ltb}
use lib.ListN.{get_or, replicate, length-replicate}
use Rattle.words.specs.Ones.{ones_below}
use Rattle.words.proofs.Upto.{equal}
use Rattle.faststack.specs.Stack.{capacity, top_of}
use Rattle.node.specs.Node.{child_index}
use Rattle.walk.specs.Tests.{Tests}
use Rattle.causes.specs.Sizes.{sizes_fit}
use Rattle.walk.specs.Step.{Answer, tested, position, done, refused, Stepped, fresh, tell_of}
use Rattle.walk.specs.Calls.{Op, step, tell, Run, run_ops}
use Rattle.walk.specs.Words.{Group, packed, unpacked, positions_in, children_in, groups_in, rest_of, first_position, first_child, has_child}
use Rattle.walk.specs.Words.{waiting_depth}
use Rattle.walk.specs.WordStep.{WalkerWords, SteppedWords, NodeWords, fresh_words, forged_words, only_first_words, bad_child, stay_words}
use Rattle.walk.specs.WordStep.{emptied_words, after_report_words, after_test_words, leaving, past_skips, visit_words, report_words, pop_words}
use Rattle.walk.specs.WordStep.{turn_words, advance_words, step_words, tell_words, run_words, decoded, decoded_run, WordsFit, tests_with, Decodes}
use Rattle.walk.proofs.Cases.{cond_elim}
use Rattle.walk.proofs.Words.{positions_none, children_none, children_first, rest_lt}
use Rattle.walk.proofs.Stacks.{top_bits, pushed-length, pushed_words}
use Rattle.walk.proofs.WordStep.{good_child, past_range, step_decoded}

-- the words of an empty stack
zeros : (n i : ℕ) → ◌≡◌ {A = ℕ} (get_or (replicate n 0) i 0) 0
zeros zero i = refl
zeros (suc n) zero = refl
zeros (suc n) (suc i) = zeros n i

-- a slot has rank 0 in a word without imask
no_rank : (j : ℕ) → j < 8 → child_index 0 0x8000_0000 j ≡ 0
unfolding child_index ones_below
no_rank = equal (λ j. child_index 0 0x8000_0000 j) (λ j. 0) 8 tt

-- so its one child is the first node, for whatever octant
first_group : (o : ℕ) → o < 8 → children_in o (record { base = 0; bits = 0x8000_0000 }) ≡ 0 ∷ []
unfolding count_leading_zeros
first_group o h =
    children_first o (record { base = 0; bits = 0x8000_0000 }) h (omega arith) (omega arith)
    ∙ ap₂ (λ (x : ℕ) (l : List ℕ). x ∷ l) (no_rank (bit_xor 7 o) (xor_lt 3 7 o (omega arith) h))
    (children_none o (record { base = 0; bits = 0 }) (omega arith))

module _ {RayData Distance : Type 0} (m : ℕ) (N : NodeWords RayData Distance) (ps cs : RayData → ℕ → List ℕ) (D : Decodes m N ps cs) where
  abbrev T : Tests RayData Distance
  T = tests_with N ps cs

  -- ---- words stay in range

  test_range : (w : WalkerWords RayData) (g : Group) (e : ℕ) → WordsFit w → g.bits < 2 ^ 32 → g.base < 2 ^ 32
      → first_child (N.octant w.ray) g < m
      → WordsFit (after_test_words m N w g e).walker
  test_range w g e i h b l =
      record {
        positions = omega arith;
        base = D.child_base_lt (first_child (N.octant w.ray) g) l;
        bits = omega (arith, D.mask_lt w.ray (first_child (N.octant w.ray) g), D.imask_lt (first_child (N.octant w.ray) g) l);
        room = subst (λ (x : ℕ). capacity ≤ x) (sym (pushed-length w.stack e i.room (has_child (rest_of g)) (packed (rest_of g)))) i.room;
        words = pushed_words w.stack e i.room (has_child (rest_of g)) (packed (rest_of g)) (let z = rest_lt g h in omega arith) i.words;
      }

  abbrev StaysIn : SteppedWords RayData → Type 0
  StaysIn r = WordsFit r.walker

  visit_range : (n : ℕ) (w : WalkerWords RayData) (g : Group) (e : ℕ) → WordsFit w → g.bits < 2 ^ 32 → g.base < 2 ^ 32
      → StaysIn (visit_words m N n w g e)
  unfolding visit_words
  visit_range n w g e i h b =
      cond_elim StaysIn (bad_child m N n w g e) (stay_words w (refused 10)) (after_test_words m N w g e) (λ _. i)
      (λ z. test_range w g e i h b (good_child m N n w g e z).node)

  report_range : (w : WalkerWords RayData) → WordsFit w → WordsFit (after_report_words w).walker
  report_range w i =
      record { positions = rest_lt w.positions i.positions; base = i.base; bits = i.bits; room = i.room; words = i.words }

  empty_range : (w : WalkerWords RayData) → WordsFit w → WordsFit (emptied_words w).walker
  empty_range w i = record { positions = i.positions; base = omega arith; bits = omega arith; room = i.room; words = i.words }

  turn_range : (n : ℕ) (w : WalkerWords RayData) → WordsFit w → StaysIn (turn_words m N n w)
  unfolding turn_words report_words pop_words
  turn_range n w i =
      cond_elim StaysIn (ltb 0 w.positions.bits) _ _
      (λ _. cond_elim StaysIn (N.absent w.ray (first_position w.positions)) _ _ (λ _. i)
      (λ _. cond_elim StaysIn (leb n (first_position w.positions)) _ _ (λ _. i) (λ _. report_range w i)))
      (λ _. cond_elim StaysIn (has_child w.current) _ _ (λ _. visit_range n w w.current w.depth i i.bits i.base)
      (λ _. cond_elim StaysIn (ltb 0 (waiting_depth w.stack w.depth)) _ _
      (λ _. visit_range n w (unpacked (top_of w.stack (waiting_depth w.stack w.depth))) (waiting_depth w.stack w.depth - 1) i
      (top_bits w.stack (waiting_depth w.stack w.depth) i.words) (omega arith))
      (λ _. i)))

  advance_range : (n : ℕ) (w : WalkerWords RayData) → WordsFit w → StaysIn (advance_words m N n w)
  unfolding advance_words
  advance_range n w i =
      go (turn_words m N n (past_skips N w)).answer (turn_words m N n (past_skips N w)).walker (turn_range n (past_skips N w) (past_range N w i))
    where
      go : (a : Answer) (u : WalkerWords RayData) → WordsFit u → WordsFit (leaving w a u)
      go (tested v) u h = h
      go (position p) u h = h
      go done u h = h
      go (refused e) u h = i

  pub step_range : (n : ℕ) (w : WalkerWords RayData) → WordsFit w → WordsFit (step_words m N n w).walker
  unfolding step_words
  step_range n w i =
      cond_elim StaysIn (sizes_fit m n) _ _
      (λ _. cond_elim StaysIn (forged_words m N w) _ _ (λ _. i)
      (λ _. cond_elim StaysIn (leb m 0 && only_first_words m N (past_skips N w)) _ _ (λ _. empty_range (past_skips N w) (past_range N w i))
      (λ _. advance_range n w i)))
      (λ _. i)

  -- ---- telling

  pub tell_range : (x : Distance) (w : WalkerWords RayData) → WordsFit w → WordsFit (tell_words N x w)
  tell_range x w i = record { positions = i.positions; base = i.base; bits = i.bits; room = i.room; words = i.words }

  pub tell_decoded : (x : Distance) (w : WalkerWords RayData) → decoded N (tell_words N x w) ≡ tell_of T x (decoded N w)
  tell_decoded x w =
      ap₂ (λ (o : ℕ) (skips : ℕ → Bool). record {
        ray = T.told x w.ray;
        tests = w.tests;
        positions = positions_in skips w.positions;
        group = children_in o w.current;
        stack = groups_in o w.stack w.depth;
      }) (D.octant_told x w.ray) (D.skips_told x w.ray)

  -- ---- a walker just begun

  pub fresh_range : (r : RayData) → WordsFit (fresh_words r)
  fresh_range r =
      record {
        positions = omega arith;
        base = omega arith;
        bits = omega arith;
        room = omega (arith, length-replicate {A = ℕ} capacity 0);
        words =
            λ i. omega (arith, zeros capacity i);
      }

  pub fresh_decoded : (r : RayData) → T.forged r ≡ false → decoded N (fresh_words r) ≡ fresh r
  fresh_decoded r f =
      ap₂ (λ (l g : List ℕ). record { ray = r; tests = 0; positions = l; group = g; stack = [] })
      (positions_none (N.skips r) (record { base = 0; bits = 0 }) refl) (first_group (N.octant r) (D.octant_lt r f))

  -- ---- lists of calls

  pub run_decoded : (l : List (Op Distance)) (w : WalkerWords RayData) → WordsFit w → decoded_run N (run_words m N l w) ≡ run_ops m T l (decoded N w)
  unfolding run_words run_ops
  run_decoded [] w i = refl
  run_decoded (step n ∷ l) w i =
      ap (λ (r : Run RayData). record { walker = r.walker; answers = (step_words m N n w).answer ∷ r.answers })
      (run_decoded l (step_words m N n w).walker (step_range n w i))
      ∙ ap (λ (r : Stepped RayData). record { walker = (run_ops m T l r.walker).walker; answers = r.answer ∷ (run_ops m T l r.walker).answers })
      (step_decoded m N ps cs D n w i)
  run_decoded (tell x ∷ l) w i = run_decoded l (tell_words N x w) (tell_range x w i) ∙ ap (run_ops m T l) (tell_decoded x w)

  pub calls_decoded : (l : List (Op Distance)) (r : RayData) → T.forged r ≡ false
      → decoded_run N (run_words m N l (fresh_words r)) ≡ run_ops m T l (fresh r)
  calls_decoded l r f = run_decoded l (fresh_words r) (fresh_range r) ∙ ap (run_ops m T l) (fresh_decoded r f)
