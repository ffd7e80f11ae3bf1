-- The leaves of a joined tree, by their boxes and index words: the first's as they are, then the second's counted on.
use mathlib.Core.List.{List, [], ◌∷◌, ◌++◌, map, map-append, map-id}
use mathlib.Core.Path.{◌≡◌, refl, ap, ◌∙◌}
use Prim.Native.Nat.{ℕ, zero, suc, ◌+◌, ◌*◌, ◌<◌}
use native.Mathlib.Omega.{arith}
use lib.ListN.{length, get_or, get_or-append}
use lib.Seq.{get_or-append-add}
use Rattle.aabb.specs.declared.Aabb.{Aabb}
use Rattle.bvh2.specs.Tree.{Tree, leaf, inner, relabel, reposition}
use Rattle.bvh2.specs.Decoded.{LabelsWithin}
use Rattle.bvh2.proofs.Moved.{reposition_none}
use Rattle.join.specs.Join.{joined_indices}
use Rattle.join_laws.specs.Joined.{moved_label, joined_tree, leaf_panes, counted_on}

map_at : (f : ℕ → ℕ) (l : List ℕ) (i : ℕ) → i < length l → get_or (map f l) i 0 ≡ f (get_or l i 0)
map_at f [] i h = absurd (omega arith)
map_at f (x ∷ l) zero h = refl
map_at f (x ∷ l) (suc i) h = map_at f l i (omega arith)

-- a tree of positions below n, with its leaves at other places of a list that has other index words there
module _ (list moved : List ℕ) (label place word : ℕ → ℕ) (m n : ℕ)
    (at : (p : ℕ) → p < n → get_or moved (place p) 0 ≡ word (get_or list p 0)) where
  abbrev other : Aabb × ℕ → Aabb × ℕ
  other x = (x.0, word x.1)

  panes_moved : (t : Tree ℕ) → LabelsWithin m n t → leaf_panes moved (reposition place (relabel label t)) ≡ map other (leaf_panes list t)
  unfolding LabelsWithin reposition relabel leaf_panes
  panes_moved (leaf v b p) w = ap (λ (k : ℕ). (b, k) ∷ []) (at p w.1)
  panes_moved (inner v b l r) w =
      rw (panes_moved l w.1, panes_moved r w.2, map-append other (leaf_panes list l) (leaf_panes list r))

module _ (list : List ℕ) (panes : ℕ) (more : List ℕ) where
  first_word : (p : ℕ) → p < length list → get_or (joined_indices list panes more) p 0 ≡ get_or list p 0
  first_word p h = get_or-append list (map (λ k. k + panes) more) 0 p h

  second_word : (p : ℕ) → p < length more → get_or (joined_indices list panes more) (p + length list) 0 ≡ get_or more p 0 + panes
  second_word p h =
      let e : p + length list ≡ length list + p = omega arith in
      ap (λ (i : ℕ). get_or (joined_indices list panes more) i 0) e ∙ get_or-append-add list (map (λ k. k + panes) more) p 0
      ∙ map_at (λ k. k + panes) more p h

  pub joined_panes : (j k : ℕ) (t u : Tree ℕ) → LabelsWithin j (length list) t → LabelsWithin k (length more) u
      → leaf_panes (joined_indices list panes more) (joined_tree (length list) t u) ≡ leaf_panes list t ++ map (counted_on panes) (leaf_panes more u)
  unfolding joined_tree leaf_panes
  joined_panes j k t u w x =
      let all = joined_indices list panes more in
      let a : leaf_panes all (relabel (moved_label 1 2) t) ≡ leaf_panes list t =
      rw (← (reposition_none (λ p. p) (λ p. refl) (relabel (moved_label 1 2) t)))
      (panes_moved list all (moved_label 1 2) (λ p. p) (λ i. i) j (length list) first_word t w ∙ map-id (leaf_panes list t)) in
      let b = panes_moved more all (moved_label 2 (2 * length list)) (λ p. p + length list) (λ i. i + panes) k (length more) second_word u x in
      rw (a, b)
