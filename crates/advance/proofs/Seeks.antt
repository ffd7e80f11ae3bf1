-- On from turn to turn until positions are in hand.
use mathlib.Core.Path.{◌≡◌, refl, sym, ap, ◌∙◌}
use mathlib.Core.Bool.{Bool, true, false, ◌&&◌, cond}
use mathlib.Core.List.{List}
use Prim.Native.Nat.{ℕ, zero, suc, ◌-◌, ◌<◌}
use native.Mathlib.Omega.{arith}
use lib.Dec.{ltb}
use borrow.Author.Tests.{lt-ltb, ltb-true, eqb-true}
use Rattle.lists.proofs.Tells.{both_pass}
use Rattle.ray.specs.declared.Ray.{Ray}
use Rattle.walk.specs.WordStep.{WalkerWords, SteppedWords, NodeWords, is_test, finds_none, advance_words, seek_words}
use Rattle.advance.specs.declared.Walk.{Walk}
use Rattle.advance.specs.Turn.{walker_of, seeking}

-- A search from a walk without positions in hand, by its numbers, is one from the walk.
pub seeking_from : (ray : Ray) (octant : ℕ) (stack : List ℕ) (v : Walk) → v.positions.bits ≡ 0
    → walker_of ray octant (seeking v.tests v.positions.base v.current.base v.current.bits v.depth) stack
    ≡ walker_of ray octant v stack
seeking_from ray octant stack v e =
    ap (λ (bits : ℕ). walker_of ray octant
    (record {
      tests = v.tests;
      positions = record { base = v.positions.base; bits = bits };
      current = v.current;
      depth = v.depth;
    })
    stack)
    (sym e)

-- ---- a search, turn by turn, for any fields and masks of nodes and any rays

module _ {RayData Distance : Type 0} (m : ℕ) (N : NodeWords RayData Distance) (n : ℕ) (w : WalkerWords RayData) (r : SteppedWords RayData) (left : ℕ)
    (turn : r ≡ advance_words m N n w) where
  -- with k more turns allowed after it
  abbrev after : ℕ → SteppedWords RayData → SteppedWords RayData
  after k x = cond (finds_none x) (seek_words m N k n x.walker) x

  only_turn : r ≡ seek_words m N 0 n w
  unfolding seek_words
  only_turn = turn

  first_turn : (k : ℕ) → after k r ≡ seek_words m N (suc k) n w
  unfolding seek_words
  first_turn k = ap (after k) turn

  -- the turn is the last
  pub seek_ends : (finds_none r && ltb 0 left) ≡ false → r ≡ seek_words m N left n w
  seek_ends h = go left h
    where
      go : (k : ℕ) → (finds_none r && ltb 0 k) ≡ false → r ≡ seek_words m N k n w
      go zero e = only_turn
      go (suc k) e = sym (ap (λ (b : Bool). cond b (seek_words m N k n r.walker) r) (last (finds_none r) e)) ∙ first_turn k
        where
          last : (b : Bool) → (b && ltb 0 (suc k)) ≡ false → b ≡ false
          last true f = sym (lt-ltb 0 (suc k) (omega arith)) ∙ f
          last false f = refl

  -- another follows
  pub seek_goes : (finds_none r && ltb 0 left) ≡ true → seek_words m N (left - 1) n r.walker ≡ seek_words m N left n w
  seek_goes h = go left (both_pass (finds_none r) (ltb 0 left) h).0 (ltb-true 0 left (both_pass (finds_none r) (ltb 0 left) h).1)
    where
      go : (k : ℕ) → finds_none r ≡ true → 0 < k → seek_words m N (k - 1) n r.walker ≡ seek_words m N k n w
      go zero f l = absurd (omega arith)
      go (suc k) f l =
          let z : suc k - 1 ≡ k = omega arith in
          ap (λ (x : ℕ). seek_words m N x n r.walker) z ∙ sym (ap (λ (b : Bool). cond b (seek_words m N k n r.walker) r) f) ∙ first_turn k

  -- and then no position is in hand
  pub seek_none : (finds_none r && ltb 0 left) ≡ true → r.walker.positions.bits ≡ 0
  seek_none h = eqb-true _ _ (both_pass (is_test r.answer) _ (both_pass (finds_none r) (ltb 0 left) h).0).1

  -- it was not the last test allowed
  pub seek_left : (finds_none r && ltb 0 left) ≡ true → 0 < left
  seek_left h = ltb-true 0 left (both_pass (finds_none r) (ltb 0 left) h).1
