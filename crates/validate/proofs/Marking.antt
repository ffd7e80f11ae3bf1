-- One node's marks: its leaf ranges slot by slot, its child range, and what a word that is marked already says.
use mathlib.Core.List.{List}
use mathlib.Core.Logic.{◌⊎◌, inl, inr}
use mathlib.Core.Path.{◌≡◌, refl, ◌∙◌}
use Prim.Native.Nat.{ℕ, suc, ◌+◌, ◌<◌, ◌≤◌}
use native.Mathlib.Decide.{dec_le, dec_lt}
use native.Mathlib.Omega.{arith}
use lib.ListN.{get_or}
use Rattle.lists.specs.Sums.{sum}
use Rattle.lists.proofs.Sums.{sum_grows}
use Rattle.soundness.specs.Range.{in_range}
use Rattle.soundness.specs.Shape.{Shape, ChildOf, RangesPlaced}
use Rattle.soundness.proofs.Range.{in_range_lem}
use Rattle.validate.specs.Marks.{Filled, Blocked, PositionsMarked, PositionTwice, NodeMarked, WordTwice}
use Rattle.validate.proofs.Filling.{filled_adds}

module _ (S : Shape) (i : ℕ) where
  -- ---- positions

  pub positions_none : (o : List ℕ) → PositionsMarked S i 0 o o
  unfolding sum
  positions_none o = record { adds = λ k. omega arith; nodes = λ x h. refl }

  pub positions_next : (t : ℕ) (o q r : List ℕ) → PositionsMarked S i t o q → Filled q (S.nodes + S.start i t) (S.count i t) 1 r
      → PositionsMarked S i (suc t) o r
  unfolding sum
  positions_next t o q r a f = record {
    adds = λ k. omega (arith, filled_adds q (S.nodes + S.start i t) (S.count i t) 1 r (omega arith) f k, a.adds k);
    nodes = λ x h. f.before x (omega arith) ∙ a.nodes x h;
  }

  pub positions_blocked : (t : ℕ) (o q : List ℕ) → RangesPlaced S i → t < 8 → PositionsMarked S i t o q
      → Blocked q (S.nodes + S.start i t) (S.count i t) → PositionTwice S i o
  unfolding sum
  positions_blocked t o q w h a b =
      let f : ℕ → ℕ = λ s. in_range b.place (S.nodes + S.start i s) (S.count i s) in
      let one : in_range b.place (S.nodes + S.start i t) (S.count i t)
      ≡ 1 = in_range_lem b.place (S.nodes + S.start i t) (S.count i t) b.from b.before in
      let up : sum f (suc t) ≤ sum f 8 = sum_grows f (suc t) 8 h in
      let x = b.taken in
      let u = b.before in
      let l = b.from in
      let z = a.adds b.place in
      let n = w.inside t h (omega arith) in
      record { word = b.place; within = omega arith; count = omega (arith, up, one, x, z) }

  -- ---- the whole node

  pub node_marked : (o p q : List ℕ) → i < S.nodes → Filled o (S.base i) (S.children i) (suc (get_or o i 0)) p → PositionsMarked S i 8 p q
      → NodeMarked S i o q
  node_marked o p q h f a = record {
    adds = λ k. omega (arith, filled_adds o (S.base i) (S.children i) (suc (get_or o i 0)) p (omega arith) f k, a.adds k);
    sets = λ x l. go x l (dec_le (S.base i) x) (dec_lt x (S.base i + S.children i));
  }
    where
      go : (x : ℕ) → x < S.nodes → Dec (S.base i ≤ x) → Dec (x < S.base i + S.children i)
          → (get_or q x 0 ≡ get_or o x 0) ⊎ (ChildOf S i x × (get_or q x 0 ≡ suc (get_or o i 0)))
      go x l (yes b) (yes u) = inr (record { parent = h; from = b; before = u }, a.nodes x l ∙ f.inside x b u)
      go x l (yes b) (no u) = inl (a.nodes x l ∙ f.after x (omega arith))
      go x l (no b) d = inl (a.nodes x l ∙ f.before x (omega arith))

  pub children_blocked : (o : List ℕ) → RangesPlaced S i → Blocked o (S.base i) (S.children i) → WordTwice S i o
  children_blocked o w b =
      let one = in_range_lem b.place (S.base i) (S.children i) b.from b.before in
      let x = b.taken in
      let u = b.before in
      let l = b.from in
      let n = w.exist (omega arith) in
      record { word = b.place; within = omega arith; count = omega arith }

  pub position_word : (v : ℕ) (o p : List ℕ) → 0 < v → Filled o (S.base i) (S.children i) v p → PositionTwice S i p → WordTwice S i o
  position_word v o p h f c = record {
    word = c.word;
    within = c.within;
    count = omega (arith, filled_adds o (S.base i) (S.children i) v p h f c.word, c.count);
  }
