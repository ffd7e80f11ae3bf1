-- The first cause by the tests that the code makes in turn, and the working slices for it.
use mathlib.Core.Path.{◌≡◌, refl, sym, ap, ◌∙◌}
use mathlib.Core.Bool.{Bool, true, false}
use mathlib.Core.List.{List, ◌∷◌}
use mathlib.Core.Logic.{◌⊎◌, inl, inr}
use Prim.Native.Nat.{ℕ, zero, suc, ◌≤◌, ◌<◌}
use native.Mathlib.Omega.{arith}
use lib.Dec.{T, leb, leb→le}
use lib.ListN.{length}
use lib.Ieee.{Float}
use borrow.Author.Tests.{le-leb, lt-leb}
use Rattle.float.specs.Compare.{plus_zero}
use Rattle.causes.specs.Causes.{Condition, ◌unless◌, first_cause}
use Rattle.causes.proofs.Causes.{first_here, first_later, Passed, sorted, none_passed, append_first, append_later, all_numbers, first_among}
use Rattle.bvh2.specs.Tree.{Tree}
use Rattle.bvh2.specs.FirstCause.{size_conditions, structure_conditions, sizes_cause, structure_cause}
use Rattle.bvh2.proofs.First.{sizes_passed, sizes_none}
use Rattle.cost.specs.Table.{word_of, cost_of}
use Rattle.bvh2_tables.specs.Call.{Lengths}
use Rattle.bvh2_tables.specs.Tables.{table_size, slices_fit, prepare_conditions, prepare_cause, cleared, tabled, work_after}

-- ---- the range of each part
pub sizes_most : (w n : ℕ) → sizes_cause w n ≤ 2
unfolding size_conditions all_numbers
sizes_most w n = go (first_among (λ k. leb k 2) (size_conditions w n) tt)
  where
    go : (sizes_cause w n ≡ 0) ⊎ T (leb (sizes_cause w n) 2) → sizes_cause w n ≤ 2
    go (inl e) = omega arith
    go (inr h) = leb→le (sizes_cause w n) 2 h

pub structure_range : (ws : List ℕ) (n : ℕ) → (structure_cause ws n ≡ 0) ⊎ (5 ≤ structure_cause ws n)
unfolding structure_conditions all_numbers
structure_range ws n = pick (first_among (leb 5) (structure_conditions ws n) (numbers n))
  where
    numbers : (n : ℕ) → T (all_numbers (leb 5) (structure_conditions ws n))
    numbers zero = tt
    numbers (suc n) = tt

    pick : (structure_cause ws n ≡ 0) ⊎ T (leb 5 (structure_cause ws n)) → (structure_cause ws n ≡ 0) ⊎ (5 ≤ structure_cause ws n)
    pick (inl e) = inl e
    pick (inr h) = inr (leb→le 5 (structure_cause ws n) h)

-- ---- the first cause
-- the causes stand in order
pub prepare_sorted : (ws : List ℕ) (n limit : ℕ) (l : Lengths) → T (sorted 0 (prepare_conditions ws n limit l))
unfolding prepare_conditions size_conditions structure_conditions sorted
prepare_sorted ws zero limit l = tt
prepare_sorted ws (suc n) limit l = tt

module _ (ws : List ℕ) (n limit : ℕ) (l : Lengths) where
  -- behind the sizes
  abbrev pub rest : List Condition
  rest = 3 unless leb limit 3 ∷ 4 unless slices_fit n l ∷ structure_conditions ws n

  pub cause_size : (k : ℕ) → k ≡ sizes_cause (length ws) n → (k ≡ 0 → ⊥) → k ≡ prepare_cause ws n limit l
  unfolding prepare_conditions
  cause_size k e h = e ∙ sym (append_first (size_conditions (length ws) n) rest (λ z. h (e ∙ z)))

  module _ (size : sizes_cause (length ws) n ≡ 0) where
    behind : prepare_cause ws n limit l ≡ first_cause rest
    unfolding prepare_conditions
    behind = append_later (size_conditions (length ws) n) rest (sizes_passed ws n ((sizes_none ws n).0 size))

    pub cause_limit : 3 < limit → 3 ≡ prepare_cause ws n limit l
    cause_limit h = sym (behind ∙ first_here _ (lt-leb limit 3 h))

    pub cause_room : limit ≤ 3 → slices_fit n l ≡ false → 4 ≡ prepare_cause ws n limit l
    cause_room h r = sym (behind ∙ first_later 3 _ (le-leb limit 3 h) ∙ first_here _ r)

    pub cause_structure : limit ≤ 3 → slices_fit n l ≡ true → structure_cause ws n ≡ prepare_cause ws n limit l
    cause_structure h r = sym (behind ∙ first_later 3 _ (le-leb limit 3 h) ∙ first_later 4 _ r)

  -- all tests pass where there is none
  pub prepare_passed : prepare_cause ws n limit l ≡ 0 → Passed (prepare_conditions ws n limit l)
  prepare_passed e = none_passed 0 (prepare_conditions ws n limit l) (prepare_sorted ws n limit l) e

-- ---- the working slices
module _ {A : Type 0} (z : A) (g : Tree ℕ → ℕ → A) (ws : List ℕ) where
  abbrev by : ℕ → List A → Bool → List A
  by n s b = elim b [ true ↦ s | false ↦ cleared z (table_size (suc n)) s ]

  pub work_kept : (n k : ℕ) (s : List A) → 0 < k → k ≤ 4 → s ≡ work_after z g ws n k s
  unfolding work_after
  work_kept zero k s p q = refl
  work_kept (suc n) zero s p q = absurd (omega arith)
  work_kept (suc n) (suc k) s p q = sym (ap (by n s) (le-leb (suc k) 4 q))

  pub work_cleared : (n k : ℕ) (s : List A) → 5 ≤ k → work_after z g ws n k s ≡ cleared z (table_size n) s
  unfolding work_after
  work_cleared zero k s p = refl
  work_cleared (suc n) zero s p = absurd (omega arith)
  work_cleared (suc n) (suc k) s p = ap (by n s) (lt-leb (suc k) 4 p)

  pub work_none : (n k : ℕ) (s : List A) → n ≡ 0 → s ≡ work_after z g ws n k s
  unfolding work_after
  work_none zero k s e = refl
  work_none (suc n) k s e = absurd (omega arith)

  pub work_tabled : (n k : ℕ) (s u : List A) → 0 < n → (k ≡ 0) ⊎ (5 ≤ k) → u ≡ tabled g ws k (cleared z (table_size n) s) → u
      ≡ work_after z g ws n k s
  unfolding work_after tabled
  work_tabled zero k s u p r e = absurd (omega arith)
  work_tabled (suc n) zero s u p r e = e
  work_tabled (suc n) (suc k) s u p (inl r) e = absurd (omega arith)
  work_tabled (suc n) (suc k) s u p (inr r) e = e ∙ sym (work_cleared (suc n) (suc k) s r)

-- decisions and costs, for causes 1 to 4
pub both_kept : (limit : ℕ) (ws : List ℕ) (n k : ℕ) (ds : List ℕ) (cs : List Float) → 0 < k → k ≤ 4
    → (ds ≡ work_after 0 (word_of limit) ws n k ds) × (cs ≡ work_after plus_zero (cost_of limit) ws n k cs)
both_kept limit ws n k ds cs p q = (work_kept 0 (word_of limit) ws n k ds p q, work_kept plus_zero (cost_of limit) ws n k cs p q)

-- the same by the number that was returned
pub tabled_at : {A : Type 0} (g : Tree ℕ → ℕ → A) (z : A) (ws : List ℕ) (n r : ℕ) (s u : List A) → 0 < n → r ≡ structure_cause ws n
    → u ≡ tabled g ws (structure_cause ws n) (cleared z (table_size n) s) → u ≡ work_after z g ws n r s
tabled_at g z ws n r s u p e h = work_tabled z g ws n (structure_cause ws n) s u p (structure_range ws n) h ∙ ap (λ (k : ℕ). work_after z g ws n k s)
    (sym e)
