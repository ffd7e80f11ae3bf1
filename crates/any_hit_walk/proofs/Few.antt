-- The positions in hand after a search are one node's: at most 24. For any fields and masks of nodes and any rays.
use mathlib.Core.Path.{◌≡◌, sym, subst, ◌∙◌}
use Prim.Native.Nat.{ℕ, zero, suc, ◌≤◌, ◌<◌}
use native.Mathlib.Omega.{arith}
use lib.Dec.{ltb}
use borrow.Author.Tests.{ltb-true, eqb-true}
use Rattle.words.specs.Ones.{ones_below}
use Rattle.words.proofs.Ranks.{ones_word}
use Rattle.walk.specs.Words.{Group, unpacked, has_child, waiting_depth}
use Rattle.walk.specs.WordStep.{WalkerWords, SteppedWords, NodeWords, is_test, finds_none, bad_child, visit_words, pop_words, turn_words}
use Rattle.walk.specs.WordStep.{advance_words}
use Rattle.walk.specs.WordStep.{seek_words}
use Rattle.lists.proofs.Tells.{both_pass}
use Rattle.walk.proofs.Cases.{cond_elim}
use Rattle.walk.proofs.Words.{empty_front}
use Rattle.walk.proofs.WordKept.{unskipped_turn}
use Rattle.faststack.specs.Stack.{top_of}

-- no more digits are set than there are
ones_most : (k x : ℕ) → ones_below k x ≤ k
unfolding ones_below
ones_most zero x = omega arith
ones_most (suc k) x = omega (arith, ones_most k x)

low_ones : (x : ℕ) → x < 0x100_0000 → ones_below 32 x ≤ 24
low_ones x h =
    let e : ones_below 32 x ≡ ones_below 24 x = sym (ones_word 32 x (omega arith)) ∙ ones_word 24 x h in
    omega (arith, e, ones_most 24 x)

module _ {RayData Distance : Type 0} (m : ℕ) (N : NodeWords RayData Distance) (n : ℕ) where
  abbrev Low : SteppedWords RayData → Type 0
  Low r = r.walker.positions.bits < 0x100_0000

  visit_low : (w : WalkerWords RayData) (g : Group) (e : ℕ) → w.positions.bits ≤ 0 → Low (visit_words m N n w g e)
  unfolding visit_words
  visit_low w g e z = cond_elim Low (bad_child m N n w g e) _ _ (λ _. omega arith) (λ _. omega arith)

  -- where nothing is passed over
  plain_low : (w : WalkerWords RayData) → w.positions.bits ≤ 0 → Low (turn_words m N n w)
  unfolding turn_words pop_words
  plain_low w z =
      cond_elim Low (ltb 0 w.positions.bits) _ _ (λ h. absurd (let k = ltb-true 0 w.positions.bits h in omega arith))
      (λ _. cond_elim Low (has_child w.current) _ _ (λ _. visit_low w w.current w.depth z)
      (λ _. cond_elim Low (ltb 0 (waiting_depth w.stack w.depth)) _ _
      (λ _. visit_low w (unpacked (top_of w.stack (waiting_depth w.stack w.depth))) _ z) (λ _. omega arith)))

  turn_low : (w : WalkerWords RayData) → w.positions.bits ≤ 0 → Low (advance_words m N n w)
  turn_low w z = subst Low (sym (unskipped_turn m N n w (empty_front (N.skips w.ray) w.positions z))) (plain_low w z)

  seek_low : (k : ℕ) (w : WalkerWords RayData) → w.positions.bits ≤ 0 → Low (seek_words m N k n w)
  unfolding seek_words
  seek_low zero w z = turn_low w z
  seek_low (suc k) w z =
      let r = advance_words m N n w in
      cond_elim Low (finds_none r) _ _
      (λ h. let e : r.walker.positions.bits ≡ 0 = eqb-true _ _ (both_pass (is_test r.answer) _ h).1 in
      seek_low k (advance_words m N n w).walker (omega (arith, e))) (λ _. turn_low w z)

  pub seek_few : (k : ℕ) (w : WalkerWords RayData) → w.positions.bits ≤ 0 → ones_below 32 (seek_words m N k n w).walker.positions.bits ≤ 24
  seek_few k w z = low_ones _ (seek_low k w z)
