-- The working slices from one call to the next.
use mathlib.Core.Path.{◌≡◌, refl, ap, ◌∙◌}
use mathlib.Core.List.{List}
use Prim.Native.Nat.{ℕ, zero, suc, ◌<◌}
use native.Mathlib.Omega.{arith}
use Rattle.bvh2.specs.Tree.{Tree}
use Rattle.bvh2.specs.Words.{tree_of}
use Rattle.bvh2.specs.Causes.{TreeSized}
use Rattle.bvh2.specs.Decoded.{Decoded}
use Rattle.bvh2.specs.FirstCause.{structure_cause}
use Rattle.bvh2.proofs.First.{structure_none}
use Rattle.bvh2.proofs.Decoded.{accepted_decoded}
use Rattle.bvh2_check.specs.Marking.{mark_count}
use Rattle.cost.specs.Rows.{fill}
use Rattle.bvh2_tables.specs.Tables.{table_size, cleared, tabled}
use Rattle.bvh2_tables.proofs.Cleared.{cleared_again}

-- marks in a cleared slice leave it cleared
pub still-cleared : (n : ℕ) (s t u : List ℕ) → 0 < n → t ≡ cleared 0 (table_size n) s → u ≡ cleared 0 (mark_count n) t → u
    ≡ cleared 0 (table_size n) s
still-cleared n s t u p e f = f ∙ ap (cleared 0 (mark_count n)) e ∙ cleared_again 0 (mark_count n) (table_size n) s (omega arith)

module _ {A : Type 0} (g : Tree ℕ → ℕ → A) (ws : List ℕ) where
  pub tabled-filled : (c : ℕ) (s t u : List A) → c ≡ 0 → t ≡ s → u ≡ fill g (tree_of ws) t → u ≡ tabled g ws c s
  unfolding tabled
  tabled-filled zero s t u e f h = h ∙ ap (fill g (tree_of ws)) f
  tabled-filled (suc c) s t u e f h = absurd (omega arith)

  pub tabled-cleared : (c : ℕ) (s u : List A) → (c ≡ 0 → ⊥) → u ≡ s → u ≡ tabled g ws c s
  unfolding tabled
  tabled-cleared zero s u h e = absurd (h refl)
  tabled-cleared (suc c) s u h e = e

pub decoded : (ws : List ℕ) (n : ℕ) → TreeSized ws n → 0 < n → structure_cause ws n ≡ 0 → Decoded ws n
decoded ws n s p e = (accepted_decoded ws n p).0 ((structure_none ws n s).0 e)
