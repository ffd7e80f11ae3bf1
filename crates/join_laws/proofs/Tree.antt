-- Laws of the tree that two become: its leaves and depth, and its labels and positions, which are consecutive numbers, each once.
use mathlib.Core.List.{List, ◌∷◌, ◌++◌, map, Perm, perm_middle}
use mathlib.Core.Path.{◌≡◌, refl, ap, ◌∙◌}
use Prim.Native.Nat.{ℕ, zero, suc, ◌+◌, ◌-◌, ◌*◌, ◌<◌, max}
use native.Mathlib.Omega.{arith}
use Rattle.lists.specs.Counts.{upto}
use Rattle.lists.proofs.Counts.{upto-append}
use Rattle.bvh2.specs.Tree.{Tree, leaves, depth, labels, positions, relabel}
use Rattle.bvh2.specs.Words.{tree_nodes}
use Rattle.bvh2.proofs.Moved.{leaves-relabel, depth-relabel, positions-relabel, labels-relabel}
use Rattle.bvh2.proofs.Moved.{leaves-reposition, depth-reposition, positions-reposition, labels-reposition}
use Rattle.join_laws.specs.Joined.{moved_label, joined_tree}

-- the number of a node that is no root
pub other_label : (r nodes v : ℕ) → 0 < v → moved_label r nodes v ≡ v + nodes
other_label r nodes zero h = absurd (omega arith)
other_label r nodes (suc v) h = refl

-- consecutive numbers, each moved by as much
upto_moved : (f : ℕ → ℕ) (a b k : ℕ) → ((i : ℕ) → i < k → f (a + i) ≡ b + i) → map f (upto a k) ≡ upto b k
unfolding upto
upto_moved f a b zero h = refl
upto_moved f a b (suc k) h =
    let e : f a ≡ b = ap f (omega arith) ∙ h 0 (omega arith) ∙ omega arith in
    let r : map f (upto (suc a) k) ≡ upto (suc b) k =
    upto_moved f (suc a) (suc b) k (λ i l. ap f (omega arith) ∙ h (suc i) (omega arith) ∙ omega arith) in
    λ i. e i ∷ r i

-- the numbers that a tree's labels get: its root's, then consecutive ones
labels_moved : (r nodes k : ℕ) → map (moved_label r nodes) (upto 0 (suc k)) ≡ r ∷ upto (1 + nodes) k
unfolding upto
labels_moved r nodes k =
    ap (λ (l : List ℕ). r ∷ l) (upto_moved (moved_label r nodes) 1 (1 + nodes) k (λ i l. other_label r nodes (1 + i) (omega arith) ∙ omega arith))

module _ (n : ℕ) (t u : Tree ℕ) where
  pub leaves_joined : leaves (joined_tree n t u) ≡ leaves t + leaves u
  unfolding joined_tree leaves
  leaves_joined = rw (
    leaves-relabel (moved_label 1 2) t,
    leaves-reposition (λ k. k + n) (relabel (moved_label 2 (2 * n)) u),
    leaves-relabel (moved_label 2 (2 * n)) u,
  )

  pub depth_joined : depth (joined_tree n t u) ≡ suc (max (depth t) (depth u))
  unfolding joined_tree depth
  depth_joined = rw (
    depth-relabel (moved_label 1 2) t,
    depth-reposition (λ k. k + n) (relabel (moved_label 2 (2 * n)) u),
    depth-relabel (moved_label 2 (2 * n)) u,
  )

  -- the first's positions, then the second's moved
  pub positions_joined : positions (joined_tree n t u) ≡ positions t ++ map (λ k. k + n) (positions u)
  unfolding joined_tree positions
  positions_joined = rw (
    positions-relabel (moved_label 1 2) t,
    positions-reposition (λ k. k + n) (relabel (moved_label 2 (2 * n)) u),
    positions-relabel (moved_label 2 (2 * n)) u,
  )

  pub positions_once : (m : ℕ) → Perm (positions t) (upto 0 n) → Perm (positions u) (upto 0 m) → Perm (positions (joined_tree n t u)) (upto 0 (n + m))
  positions_once m p q =
      let e : map (λ k. k + n) (upto 0 m) ≡ upto (0 + n) m = upto_moved (λ k. k + n) 0 (0 + n) m (λ i l. omega arith) in
      let r : Perm (map (λ k. k + n) (positions u)) (upto (0 + n) m) = rw e at (mathlib.Core.List.Perm.map (λ k. k + n) q) in
      rw (positions_joined, upto-append 0 n m) (mathlib.Core.List.Perm.append p r)

  labels_joined : labels (joined_tree n t u) ≡ 0 ∷ (map (moved_label 1 2) (labels t) ++ map (moved_label 2 (2 * n)) (labels u))
  unfolding joined_tree labels
  labels_joined = rw (
    labels-relabel (moved_label 1 2) t,
    labels-reposition (λ k. k + n) (relabel (moved_label 2 (2 * n)) u),
    labels-relabel (moved_label 2 (2 * n)) u,
  )

  -- where the trees have k and j nodes below their roots
  labels_below : (k j : ℕ) → 1 + 2 * n ≡ 3 + k → Perm (labels t) (upto 0 (suc k)) → Perm (labels u) (upto 0 (suc j))
      → Perm (labels (joined_tree n t u)) (upto 0 (suc (suc (suc (k + j)))))
  unfolding upto
  labels_below k j e p q =
      let x : Perm (map (moved_label 1 2) (labels t)) (1 ∷ upto 3 k) = rw (labels_moved 1 2 k) at (mathlib.Core.List.Perm.map (moved_label 1 2) p) in
      let y : Perm (map (moved_label 2 (2 * n)) (labels u)) (2 ∷ upto (3 + k) j) =
      rw (labels_moved 2 (2 * n) j, e) at (mathlib.Core.List.Perm.map (moved_label 2 (2 * n)) q) in
      rw (labels_joined, upto-append 3 k j)
      (mathlib.Core.List.Perm.cons 0
      (mathlib.Core.List.Perm.trans (mathlib.Core.List.Perm.append x y)
      (mathlib.Core.List.Perm.cons 1 (perm_middle (upto 3 k) (upto (3 + k) j)))))

  pub labels_once : (m : ℕ) → 0 < n → 0 < m → Perm (labels t) (upto 0 (tree_nodes n)) → Perm (labels u) (upto 0 (tree_nodes m))
      → Perm (labels (joined_tree n t u)) (upto 0 (tree_nodes (n + m)))
  labels_once m a b p q =
      let e : tree_nodes n ≡ suc (tree_nodes n - 1) = omega arith in
      let f : tree_nodes m ≡ suc (tree_nodes m - 1) = omega arith in
      let g : suc (suc (suc (tree_nodes n - 1 + (tree_nodes m - 1)))) ≡ tree_nodes (n + m) = omega arith in
      rw g at (labels_below (tree_nodes n - 1) (tree_nodes m - 1) (omega arith) (rw e at p) (rw f at q))
