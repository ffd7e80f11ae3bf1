-- The parts of the joined words, written one behind the other.
use mathlib.Core.Bool.{true}
use mathlib.Core.List.{List, ◌++◌, map}
use mathlib.Core.Path.{◌≡◌, refl, sym, ap, ◌∙◌}
use Prim.Native.Nat.{ℕ, zero, suc, ◌+◌, ◌-◌, ◌*◌, ◌<◌, ◌≤◌}
use native.Mathlib.Nat.{zero-add}
use native.Mathlib.Omega.{arith}
use lib.ListN.{length, length-append, length-map}
use Rattle.lists.specs.Splice.{splice}
use Rattle.lists.proofs.Splice.{written_next}
use Rattle.aabb.specs.declared.Aabb.{Aabb}
use Rattle.aabb.specs.Aabb.{union_of, accepted_box}
use Rattle.aabb.proofs.Union.{union_accepted}
use Rattle.bvh2.specs.Words.{tree_nodes, box_at}
use Rattle.bvh2.specs.Causes.{Accepted}
use Rattle.bvh2.specs.Words.{boxed_words}
use Rattle.bvh2.proofs.First.{accepted_facts}
use Rattle.tree_words.specs.Nodes.{in_turn}
use Rattle.tree_words.proofs.Nodes.{turn-length}
use Rattle.join.specs.Join.{first_node, second_node, under_root, joined_words, joined_indices}
use Rattle.join.proofs.Moving.{moved_seven}

-- the box of an accepted tree's root, and of two
root_box : (ws : List ℕ) (n : ℕ) → Accepted ws n → 0 < n → accepted_box (box_at ws 0) ≡ true
root_box ws n a p = (accepted_facts ws n a p).boxes 0 (omega arith)

pub roots_box : (ws us : List ℕ) (n m : ℕ) → Accepted ws n → Accepted us m → 0 < n → 0 < m → accepted_box (union_of (box_at ws 0) (box_at us 0))
    ≡ true
roots_box ws us n m a b p q = union_accepted (box_at ws 0) (box_at us 0) (root_box ws n a p) (root_box us m b q)

-- an accepted tree with leaves has its root in words
pub root_room : (ws : List ℕ) (n : ℕ) → Accepted ws n → 0 < n → 6 < length ws
root_room ws n a p = let e = (accepted_facts ws n a p).sized.fit in omega arith

module _ (ws : List ℕ) (n : ℕ) (us : List ℕ) (m : ℕ) where
  abbrev new_root : List ℕ
  new_root = boxed_words (union_of (box_at ws 0) (box_at us 0)) 1

  abbrev roots : List ℕ
  roots = new_root ++ first_node ws n us m 0 ++ second_node ws n us m 0

  first_seven : (v : ℕ) → length (first_node ws n us m v) ≡ 7
  first_seven v = moved_seven ws 2 0 v

  second_seven : (v : ℕ) → length (second_node ws n us m v) ≡ 7
  second_seven v = moved_seven us (2 * n) n v

  -- the three roots
  pub roots_written : (b : Aabb) (s t u v : List ℕ) → b ≡ union_of (box_at ws 0) (box_at us 0) → 21 ≤ length s → t ≡ splice s 0 (boxed_words b 1)
      → u ≡ splice t 7 (first_node ws n us m 0) → v ≡ splice u 14 (second_node ws n us m 0) → v ≡ splice s 0 roots
  roots_written b s t u v i h e f g =
      let one = e ∙ ap (λ (x : Aabb). splice s 0 (boxed_words x 1)) i in
      let two = written_next s 0 7 7 new_root (first_node ws n us m 0) t u refl (first_seven 0) (omega arith) one f in
      let long : length (new_root ++ first_node ws n us m 0) ≡ 14 = omega (arith, length-append new_root (first_node ws n us m 0), first_seven 0) in
      written_next s 0 14 7 (new_root ++ first_node ws n us m 0) (second_node ws n us m 0) u v long (second_seven 0) (omega arith) two g

  -- all parts
  pub whole_written : (s t u v : List ℕ) → 0 < n → 0 < m → tree_nodes (n + m) * 7 ≤ length s → t ≡ splice s 0 roots
      → u ≡ splice t 21 (in_turn (λ k. first_node ws n us m (k + 1)) (tree_nodes n - 1))
      → v ≡ splice u ((1 + 2 * n) * 7) (in_turn (λ k. second_node ws n us m (k + 1)) (tree_nodes m - 1)) → v ≡ splice s 0 (under_root ws n us m)
  unfolding under_root
  whole_written s t u v p q h e f g =
      let a = in_turn (λ k. first_node ws n us m (k + 1)) (tree_nodes n - 1) in
      let b = in_turn (λ k. second_node ws n us m (k + 1)) (tree_nodes m - 1) in
      let la : length a ≡ (tree_nodes n - 1) * 7 = turn-length (λ k. first_node ws n us m (k + 1)) (λ k. first_seven (k + 1)) (tree_nodes n - 1) in
      let lb : length b ≡ (tree_nodes m - 1) * 7 = turn-length (λ k. second_node ws n us m (k + 1)) (λ k. second_seven (k + 1)) (tree_nodes m - 1) in
      let one = length-append new_root (first_node ws n us m 0) in
      let two = length-append (new_root ++ first_node ws n us m 0) (second_node ws n us m 0) in
      let lr : length roots ≡ 21 = omega (arith, one, two, first_seven 0, second_seven 0) in
      let more = written_next s 0 21 ((tree_nodes n - 1) * 7) roots a t u lr la (omega arith) e f in
      let lra : length (roots ++ a) ≡ (1 + 2 * n) * 7 = omega (arith, length-append roots a, lr, la) in
      written_next s 0 ((1 + 2 * n) * 7) ((tree_nodes m - 1) * 7) (roots ++ a) b u v lra lb (omega arith) more
      (g ∙ ap (λ (k : ℕ). splice u k b) (sym (zero-add ((1 + 2 * n) * 7))))

  -- neither is empty
  pub both_joined : (n ≡ 0 → ⊥) → (m ≡ 0 → ⊥) → under_root ws n us m ≡ joined_words ws n us m
  both_joined h k = go n m h k
    where
      go : (i j : ℕ) → (i ≡ 0 → ⊥) → (j ≡ 0 → ⊥) → under_root ws i us j ≡ joined_words ws i us j
      go zero j h k = absurd (h refl)
      go (suc i) zero h k = absurd (k refl)
      go (suc i) (suc j) h k = refl

-- index words of both
pub both_moved : (l : List ℕ) (panes : ℕ) (k s t u : List ℕ) → length l + length k ≤ length s → t ≡ splice s 0 l
    → u ≡ splice t (length l) (map (λ i. i + panes) k) → u ≡ splice s 0 (joined_indices l panes k)
both_moved l panes k s t u h e f =
    let moved = map (λ i. i + panes) k in
    written_next s 0 (length l) (length k) l moved t u refl (length-map k (λ i. i + panes)) (omega arith) e
    (f ∙ ap (λ (a : ℕ). splice t a moved) (sym (zero-add (length l))))
