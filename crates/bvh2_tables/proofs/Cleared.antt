-- A list with its first elements cleared: how long it is, and cleared again.
use mathlib.Core.Path.{◌≡◌, refl, ap}
use mathlib.Core.List.{List, [], ◌∷◌, ◌++◌}
use Prim.Native.Nat.{ℕ, zero, suc, ◌≤◌}
use native.Mathlib.Nat.{not-suc-le-zero, le_of_suc-le-suc}
use lib.ListN.{length, drop, replicate}
use Rattle.bvh2_tables.specs.Tables.{cleared}

module _ {A : Type 0} (z : A) where
  pub cleared-length : (k : ℕ) (d : List A) → k ≤ length d → length (cleared z k d) ≡ length d
  cleared-length zero d h = refl
  cleared-length (suc k) [] h = absurd (not-suc-le-zero h)
  cleared-length (suc k) (x ∷ d) h = ap suc (cleared-length k d (le_of_suc-le-suc h))

  -- clearing fewer once more changes nothing
  pub cleared_again : (m k : ℕ) (d : List A) → m ≤ k → cleared z m (cleared z k d) ≡ cleared z k d
  cleared_again zero k d h = refl
  cleared_again (suc m) zero d h = absurd (not-suc-le-zero h)
  cleared_again (suc m) (suc k) d h = ap (λ (t : List A). z ∷ t) (tail m k d (le_of_suc-le-suc h))
    where
      tail : (m k : ℕ) (d : List A) → m ≤ k → cleared z m (replicate k z ++ drop (suc k) d) ≡ replicate k z ++ drop (suc k) d
      tail zero k d h = refl
      tail (suc m) zero d h = absurd (not-suc-le-zero h)
      tail (suc m) (suc k) [] h = ap (λ (t : List A). z ∷ t) (tail m k [] (le_of_suc-le-suc h))
      tail (suc m) (suc k) (x ∷ d) h = ap (λ (t : List A). z ∷ t) (tail m k d (le_of_suc-le-suc h))
