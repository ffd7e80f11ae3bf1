-- Nodes one behind the other: how many words, and one more written.
use mathlib.Core.List.{List}
use mathlib.Core.Path.{◌≡◌, refl, ◌∙◌}
use Prim.Native.Nat.{ℕ, zero, suc, ◌+◌, ◌*◌, ◌≤◌}
use native.Mathlib.Omega.{arith}
use lib.ListN.{length, length-append}
use Rattle.lists.specs.Splice.{splice}
use Rattle.lists.proofs.Splice.{written_next}
use Rattle.tree_words.specs.Nodes.{in_turn}

module _ (f : ℕ → List ℕ) (seven : (v : ℕ) → length (f v) ≡ 7) where
  pub turn-length : (k : ℕ) → length (in_turn f k) ≡ k * 7
  unfolding in_turn
  turn-length zero = refl
  turn-length (suc k) = length-append (in_turn f k) (f k) ∙ omega (arith, turn-length k, seven k)

  -- node k behind those before it
  pub turn_next : (s : List ℕ) (at k : ℕ) (t u : List ℕ) → at + (k * 7 + 7) ≤ length s → t ≡ splice s at (in_turn f k)
      → u ≡ splice t (at + k * 7) (f k) → u ≡ splice s at (in_turn f (suc k))
  unfolding in_turn
  turn_next s at k t u h e g = written_next s at (k * 7) 7 (in_turn f k) (f k) t u (turn-length k) (seven k) h e g
