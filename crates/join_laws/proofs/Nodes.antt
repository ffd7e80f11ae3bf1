-- Lists of whole nodes: the nodes of two one behind the other, and of such as a function gives in turn.
use mathlib.Core.List.{List, ◌++◌}
use mathlib.Core.Path.{◌≡◌, ap, ◌∙◌}
use Prim.Native.Nat.{ℕ, zero, suc, ◌+◌, ◌*◌, ◌<◌, ◌≤◌}
use native.Mathlib.Decide.{dec_lt}
use native.Mathlib.Omega.{arith}
use lib.ListN.{length, get_or, take, drop, length-drop}
use lib.Seq.{take_all, take-append-le, drop-append-le, drop-append-add, get_or-take, get_or-drop}
use Rattle.bvh2.specs.Words.{word_at}
use Rattle.tree_words.specs.Nodes.{in_turn}
use Rattle.tree_words.proofs.Nodes.{turn-length}
use Rattle.join_laws.specs.Joined.{seven_words}

pub node-word : (ws : List ℕ) (v i : ℕ) → i < 7 → get_or (seven_words ws v) i 0 ≡ word_at ws v i
node-word ws v i h = get_or-take 7 (drop (v * 7) ws) i 0 h ∙ get_or-drop (v * 7) ws i 0

node_alone : (node : List ℕ) → length node ≡ 7 → seven_words node 0 ≡ node
node_alone node e = take_all 7 node (omega arith)

-- ---- one list behind another
module _ (a b : List ℕ) where
  pub node_before : (v : ℕ) → v * 7 + 7 ≤ length a → seven_words (a ++ b) v ≡ seven_words a v
  node_before v h =
      ap (take 7) (drop-append-le (v * 7) a b (omega arith)) ∙ take-append-le 7 (drop (v * 7) a) b (let e = length-drop (v * 7) a in omega arith)

  pub node_behind : (k v : ℕ) → length a ≡ k * 7 → seven_words (a ++ b) (k + v) ≡ seven_words b v
  node_behind k v e =
      let f : (k + v) * 7 ≡ length a + v * 7 = omega arith in
      ap (λ (i : ℕ). take 7 (drop i (a ++ b))) f ∙ ap (take 7) (drop-append-add a b (v * 7))

-- ---- nodes in turn
module _ (f : ℕ → List ℕ) (seven : (v : ℕ) → length (f v) ≡ 7) where
  pub turn-node : (k v : ℕ) → v < k → seven_words (in_turn f k) v ≡ f v
  unfolding in_turn
  turn-node zero v h = absurd (omega arith)
  turn-node (suc k) v h = pick (dec_lt v k) (turn-node k v)
    where
      pick : Dec (v < k) → (v < k → seven_words (in_turn f k) v ≡ f v) → seven_words (in_turn f k ++ f k) v ≡ f v
      pick (yes l) before = node_before (in_turn f k) (f k) v (let e = turn-length f seven k in omega arith) ∙ before l
      pick (no l) before =
          let e : v ≡ k + 0 = omega arith in
          let g : k ≡ v = omega arith in
          ap (seven_words (in_turn f k ++ f k)) e ∙ node_behind (in_turn f k) (f k) k 0 (turn-length f seven k) ∙ node_alone (f k) (seven k) ∙ ap f g
