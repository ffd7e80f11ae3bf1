-- Two trees joined (02, [4]): what a call that joins gives is accepted, and is both trees under a new root.
use mathlib.Core.List.{List, ◌++◌, map}
use mathlib.Core.Path.{◌≡◌, sym, ap, ◌∙◌}
use Prim.Native.Nat.{ℕ, zero, suc, ◌+◌, ◌<◌, ◌≤◌, max}
use native.Mathlib.Nat.{zero-add, add-zero}
use native.Mathlib.Omega.{arith}
use Rattle.aabb.specs.Aabb.{union_of}
use Rattle.aabb.proofs.Union.{union_accepted, union_first, union_second, union_plain}
use Rattle.bvh2.specs.Tree.{box_of, depth, positions}
use Rattle.bvh2.specs.Words.{tree_nodes, tree_of}
use Rattle.bvh2.specs.Causes.{Accepted}
use Rattle.bvh2.specs.Decoded.{LabelsWithin}
use Rattle.bvh2.proofs.Decoded.{accepted_decoded}
use Rattle.bvh2.proofs.Subtree.{root}
use Rattle.join.specs.Join.{JoinCall, first_leaves, second_leaves, both_leaves, under_root, joined_words}
use Rattle.join.proofs.Parts.{both_joined}
use Rattle.join_laws.specs.Joined.{joined_tree, InOrder, leaf_panes, counted_on}
use Rattle.join_laws.specs.Joined.{Joins, words_given, indices_given, first_tree, second_tree, tree_given, RootBox}
use Rattle.join_laws.proofs.Joinable.{Joinable, joinable}
use Rattle.join_laws.proofs.Panes.{joined_panes}
use Rattle.join_laws.proofs.Read.{root_accepted, order_decodes, order_accepted}
use Rattle.join_laws.proofs.Tree.{depth_joined, positions_joined}
use Rattle.join_laws.proofs.UnderRoot.{under_length, under_order}
use Rattle.join_laws.proofs.Written.{words_given_lem, joined_indices_lem}

-- whichever have leaves
all_accepted : (ws : List ℕ) (n : ℕ) (us : List ℕ) (m : ℕ) → Accepted ws n → Accepted us m → n + m ≤ 65536
    → (0 < n → 0 < m → suc (max (depth (tree_of ws)) (depth (tree_of us))) ≤ 127) → Accepted (joined_words ws n us m) (n + m)
all_accepted ws zero us m a b few h = rw (zero-add m) b
all_accepted ws (suc n) us zero a b few h = rw (add-zero (suc n)) a
all_accepted ws (suc n) us (suc m) a b few h =
    order_accepted ws (suc n) us (suc m) a b (omega arith) (omega arith) few (under_root ws (suc n) us (suc m))
    (under_order ws (suc n) us (suc m) (omega arith) (omega arith)) (h (omega arith) (omega arith))
    (under_length ws (suc n) us (suc m) (omega arith) (omega arith))

within : (ws : List ℕ) (n : ℕ) → Accepted ws n → 0 < n → LabelsWithin (tree_nodes n) n (tree_of ws)
within ws n a p = (root ws n ((accepted_decoded ws n p).0 a)).within

module _ (c : JoinCall) (joins : Joins c) where
  J : Joinable c
  J = joinable c joins

  -- The words given are accepted, with as many leaves as both trees have.
  pub joined_accepted : Accepted (words_given c) (both_leaves c)
  joined_accepted =
      rw (words_given_lem c joins)
      (all_accepted c.first (first_leaves c) c.second (second_leaves c) J.accepted.0 J.accepted.1 J.few J.shallow)

  module _ (p : 0 < first_leaves c) (q : 0 < second_leaves c) where
    under_given : words_given c ≡ under_root c.first (first_leaves c) c.second (second_leaves c)
    under_given =
        words_given_lem c joins
        ∙ sym (both_joined c.first (first_leaves c) c.second (second_leaves c) (λ z. omega (arith, p, z)) (λ z. omega (arith, q, z)))

    -- The new root, the old roots, the rest of the first in its order, the rest of the second: seven words each.
    pub joined_order : InOrder c.first (first_leaves c) c.second (second_leaves c) (words_given c)
    joined_order = rw under_given (under_order c.first (first_leaves c) c.second (second_leaves c) p q)

    -- The tree given is both under a new root.
    pub joined_tree_lem : tree_given c ≡ joined_tree (first_leaves c) (first_tree c) (second_tree c)
    joined_tree_lem =
        order_decodes c.first (first_leaves c) c.second (second_leaves c) J.accepted.0 J.accepted.1 p q J.few (words_given c)
        joined_order (J.shallow p q)

    -- Its leaves are from left to right the first's, then the second's, each with its box and its index word, the second's counted on.
    pub joined_leaves : leaf_panes (indices_given c) (tree_given c)
        ≡ leaf_panes c.first_indices (first_tree c) ++ map (counted_on c.panes) (leaf_panes c.second_indices (second_tree c))
    joined_leaves =
        rw (joined_tree_lem, joined_indices_lem c joins)
        (joined_panes c.first_indices c.panes c.second_indices (tree_nodes (first_leaves c)) (tree_nodes (second_leaves c))
        (first_tree c) (second_tree c) (within c.first (first_leaves c) J.accepted.0 p) (within c.second (second_leaves c) J.accepted.1 q))

    -- Their positions are the first's, then the second's, moved up by as many leaves as the first has.
    pub joined_positions : positions (tree_given c) ≡ positions (first_tree c) ++ map (λ k. k + first_leaves c) (positions (second_tree c))
    joined_positions = ap positions joined_tree_lem ∙ positions_joined (first_leaves c) (first_tree c) (second_tree c)

    -- Its depth is one more than the greater depth.
    pub joined_depth : depth (tree_given c) ≡ suc (max (depth (first_tree c)) (depth (second_tree c)))
    joined_depth = ap depth joined_tree_lem ∙ depth_joined (first_leaves c) (first_tree c) (second_tree c)

    root_union : box_of (tree_given c) ≡ union_of (box_of (first_tree c)) (box_of (second_tree c))
    unfolding joined_tree box_of
    root_union = ap box_of joined_tree_lem

    -- Its root box is the union of the old ones, is accepted, holds both, and has no end that is -0.
    pub joined_root : RootBox c
    joined_root =
        let a = box_of (first_tree c) in
        let b = box_of (second_tree c) in
        let h = root_accepted c.first (first_leaves c) J.accepted.0 p in
        let k = root_accepted c.second (second_leaves c) J.accepted.1 q in
        record {
          union = root_union;
          accepted = rw root_union (union_accepted a b h k);
          holds_first = rw root_union (union_first a b h k);
          holds_second = rw root_union (union_second a b h k);
          plain = rw root_union (union_plain a b);
        }
