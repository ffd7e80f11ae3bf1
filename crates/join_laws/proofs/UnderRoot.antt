-- The words of two trees under a new root, node by node.
use mathlib.Core.List.{List, ◌++◌}
use mathlib.Core.Path.{◌≡◌, refl, ap, ◌∙◌}
use Prim.Native.Nat.{ℕ, ◌+◌, ◌-◌, ◌*◌, ◌<◌}
use native.Mathlib.Omega.{arith}
use lib.ListN.{length, length-append}
use Rattle.lists.specs.Counts.{upto}
use Rattle.aabb.specs.Aabb.{union_of}
use Rattle.bvh2.specs.Words.{tree_nodes, box_at}
use Rattle.bvh2.specs.Words.{boxed_words}
use Rattle.tree_words.specs.Nodes.{in_turn}
use Rattle.tree_words.proofs.Nodes.{turn-length}
use Rattle.join.specs.Join.{moved_node, under_root}
use Rattle.join.proofs.Moving.{moved_seven}
use Rattle.join_laws.specs.Joined.{seven_words, InOrder}
use Rattle.join_laws.proofs.Nodes.{node_before, node_behind, turn-node}

-- all nodes of a tree of n leaves but its root
module _ (ws : List ℕ) (nodes positions n : ℕ) where
  abbrev rest : List ℕ
  rest = in_turn (λ v. moved_node ws nodes positions (v + 1)) (tree_nodes n - 1)

  rest_length : length rest ≡ (tree_nodes n - 1) * 7
  rest_length = turn-length (λ v. moved_node ws nodes positions (v + 1)) (λ v. moved_seven ws nodes positions (v + 1)) (tree_nodes n - 1)

  rest_node_lem : (v : ℕ) → 0 < v → v < tree_nodes n → seven_words rest (v - 1) ≡ moved_node ws nodes positions v
  rest_node_lem v p h =
      let e : v - 1 + 1 ≡ v = omega arith in
      turn-node (λ u. moved_node ws nodes positions (u + 1)) (λ u. moved_seven ws nodes positions (u + 1)) (tree_nodes n - 1) (v - 1) (omega arith)
      ∙ ap (moved_node ws nodes positions) e

module _ (ws : List ℕ) (n : ℕ) (us : List ℕ) (m : ℕ) where
  abbrev roots : List ℕ
  roots = boxed_words (union_of (box_at ws 0) (box_at us 0)) 1 ++ moved_node ws 2 0 0 ++ moved_node us (2 * n) n 0

  abbrev firsts : List ℕ
  firsts = rest ws 2 0 n

  abbrev seconds : List ℕ
  seconds = rest us (2 * n) n m

  roots_length : length roots ≡ 21
  unfolding moved_node upto
  roots_length = refl

  front_length : length (roots ++ firsts) ≡ (3 + (tree_nodes n - 1)) * 7
  front_length =
      let e = roots_length in
      let f = rest_length ws 2 0 n in
      length-append roots firsts ∙ omega arith

  module _ (p : 0 < n) (q : 0 < m) where
    pub under_length : length (under_root ws n us m) ≡ tree_nodes (n + m) * 7
    unfolding under_root
    under_length =
        let e = front_length in
        let f = rest_length us (2 * n) n m in
        length-append (roots ++ firsts) seconds ∙ omega arith

    -- a node of the roots or of the first tree
    in_front : (v : ℕ) → v < tree_nodes n + 2 → seven_words (under_root ws n us m) v ≡ seven_words (roots ++ firsts) v
    unfolding under_root
    in_front v h = node_before (roots ++ firsts) seconds v (let e = front_length in omega arith)

    root_node : (v : ℕ) → v < 3 → seven_words (under_root ws n us m) v ≡ seven_words roots v
    root_node v h = in_front v (omega arith) ∙ node_before roots firsts v (let e = roots_length in omega arith)

    first_node_lem : (v : ℕ) → 0 < v → v < tree_nodes n → seven_words (under_root ws n us m) (v + 2) ≡ moved_node ws 2 0 v
    first_node_lem v h l =
        let e : v + 2 ≡ 3 + (v - 1) = omega arith in
        in_front (v + 2) (omega arith)
        ∙ ap (seven_words (roots ++ firsts)) e
        ∙ node_behind roots firsts 3 (v - 1) (let f = roots_length in omega arith)
        ∙ rest_node_lem ws 2 0 n v h l

    second_node_lem : (v : ℕ) → 0 < v → v < tree_nodes m → seven_words (under_root ws n us m) (v + 2 * n) ≡ moved_node us (2 * n) n v
    unfolding under_root
    second_node_lem v h l =
        let e : v + 2 * n ≡ 3 + (tree_nodes n - 1) + (v - 1) = omega arith in
        ap (seven_words (under_root ws n us m)) e
        ∙ node_behind (roots ++ firsts) seconds (3 + (tree_nodes n - 1)) (v - 1) front_length
        ∙ rest_node_lem us (2 * n) n m v h l

    pub under_order : InOrder ws n us m (under_root ws n us m)
    unfolding moved_node upto
    under_order = record {
      root = root_node 0 (omega arith);
      first_root = root_node 1 (omega arith);
      second_root = root_node 2 (omega arith);
      first_rest = first_node_lem;
      second_rest = second_node_lem;
    }
