-- Tables that are cleared again are as if they had never been filled.
use mathlib.Core.Path.{◌≡◌, refl, ap, ◌∙◌}
use mathlib.Core.List.{List, [], ◌∷◌, ◌++◌}
use Prim.Native.Nat.{ℕ, zero, suc, ◌+◌, ◌*◌, ◌≤◌, ◌<◌}
use native.Mathlib.Nat.{not-suc-le-zero, le_of_suc-le-suc}
use native.Mathlib.Omega.{arith}
use lib.ListN.{drop, set, replicate}
use Rattle.bvh2.specs.Tree.{Tree, leaf, inner}
use Rattle.bvh2.specs.Words.{tree_nodes, tree_of}
use Rattle.bvh2.specs.Decoded.{LabelsWithin, Decoded}
use Rattle.bvh2.proofs.Subtree.{root}
use Rattle.cost.specs.Rows.{row, fill}
use Rattle.bvh2_tables.specs.Tables.{table_size, cleared, tabled, work_after}

module _ {A : Type 0} where
  drop-set : (s : List A) (i k : ℕ) (x : A) → i < k → drop k (set s i x) ≡ drop k s
  drop-set s i zero x h = absurd (not-suc-le-zero h)
  drop-set [] i (suc k) x h = refl
  drop-set (y ∷ s) zero (suc k) x h = refl
  drop-set (y ∷ s) (suc i) (suc k) x h = drop-set s i k x (le_of_suc-le-suc h)

  drop-row : (f : ℕ → A) (b n k : ℕ) (s : List A) → b + n ≤ k → drop k (row f b n s) ≡ drop k s
  unfolding row
  drop-row f b zero k s h = refl
  drop-row f b (suc n) k s h = drop-set (row f b n s) (b + n) k (f n) (omega arith) ∙ drop-row f b n k s (omega arith)

  drop-fill : (g : Tree ℕ → ℕ → A) (t : Tree ℕ) (s : List A) (m n : ℕ) → LabelsWithin m n t → drop (m * 7) (fill g t s) ≡ drop (m * 7) s
  unfolding fill LabelsWithin
  drop-fill g (leaf v box p) s m n w = drop-row (g (leaf v box p)) (v * 7) 7 (m * 7) s (omega (arith, w.0))
  drop-fill g (inner v box a b) s m n w =
      drop-row (g (inner v box a b)) (v * 7) 7 (m * 7) (fill g b (fill g a s)) (omega (arith, w.0))
      ∙ drop-fill g b (fill g a s) m n w.2
      ∙ drop-fill g a s m n w.1

  drop-cleared : (z : A) (k : ℕ) (s : List A) → drop k (cleared z k s) ≡ drop k s
  drop-cleared z k s = go k (drop k s)
    where
      go : (k : ℕ) (r : List A) → drop k (replicate k z ++ r) ≡ r
      go zero r = refl
      go (suc k) r = go k r

  -- the working slice for cause 8, from the tables that were filled for none
  pub work_refilled : (z : A) (g : Tree ℕ → ℕ → A) (ws : List ℕ) (n : ℕ) (s t u : List A) → 0 < n → Decoded ws n
      → t ≡ work_after z g ws n 0 s → u ≡ cleared z (table_size n) t → u ≡ work_after z g ws n 8 s
  unfolding work_after tabled
  work_refilled z g ws zero s t u p d e f = absurd (omega arith)
  work_refilled z g ws (suc n) s t u p d e f =
      let k = table_size (suc n) in
      f
      ∙ ap (λ (r : List A). replicate k z ++ r)
      (ap (drop k) e ∙ drop-fill g (tree_of ws) (cleared z k s) (tree_nodes (suc n)) (suc n) (root ws (suc n) d).within ∙ drop-cleared z k s)
