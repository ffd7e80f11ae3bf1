-- The pairs of n children and eight slots are just those below both bounds.
use mathlib.Core.Path.{◌≡◌, sym, subst}
use mathlib.Core.Logic.{◌⊎◌, inl, inr}
use mathlib.Core.List.{[], ◌∷◌}
use Prim.Native.Nat.{ℕ, zero, suc, ◌<◌}
use native.Mathlib.Nat.{not-suc-le-zero, le_of_suc-le-suc, eq-or-lt_of_le}
use native.Mathlib.Omega.{arith}
use Rattle.order.specs.Assign.{Pair, row_pairs, pairs}
use Rattle.order.proofs.Lists.{All, all_append, all_left, all_right}

module _ (P : Pair → Type 0) where
  pub row-all : (c k : ℕ) → ((s : ℕ) → s < k → P (record { child = c; slot = s })) → All P (row_pairs c k)
  unfolding row_pairs
  row-all c zero h = tt
  row-all c (suc k) h = all_append P (row_pairs c k) (record { child = c; slot = k } ∷ []) (row-all c k (λ s l. h s (omega arith)))
      (h k (omega arith), tt)

  row-each : (c k : ℕ) → All P (row_pairs c k) → (s : ℕ) → s < k → P (record { child = c; slot = s })
  unfolding row_pairs
  row-each c zero h s l = absurd (not-suc-le-zero l)
  row-each c (suc k) h s l = go (eq-or-lt_of_le (le_of_suc-le-suc l))
      (row-each c k (all_left P (row_pairs c k) (record { child = c; slot = k } ∷ []) h) s)
    where
      go : (s ≡ k) ⊎ (s < k) → (s < k → P (record { child = c; slot = s })) → P (record { child = c; slot = s })
      go (inl e) r = subst (λ (z : ℕ). P (record { child = c; slot = z })) (sym e)
          (all_right P (row_pairs c k) (record { child = c; slot = k } ∷ []) h).0
      go (inr m) r = r m

  pub pairs-all : (n : ℕ) → ((c s : ℕ) → c < n → s < 8 → P (record { child = c; slot = s })) → All P (pairs n)
  unfolding pairs
  pairs-all zero h = tt
  pairs-all (suc n) h = all_append P (pairs n) (row_pairs n 8) (pairs-all n (λ c s l m. h c s (omega arith) m))
      (row-all n 8 (λ s m. h n s (omega arith) m))

  pub pairs-each : (n : ℕ) → All P (pairs n) → (c s : ℕ) → c < n → s < 8 → P (record { child = c; slot = s })
  unfolding pairs
  pairs-each zero h c s l m = absurd (not-suc-le-zero l)
  pairs-each (suc n) h c s l m = go (eq-or-lt_of_le (le_of_suc-le-suc l)) (pairs-each n (all_left P (pairs n) (row_pairs n 8) h) c s)
    where
      go : (c ≡ n) ⊎ (c < n) → (c < n → s < 8 → P (record { child = c; slot = s })) → P (record { child = c; slot = s })
      go (inl e) r = subst (λ (z : ℕ). P (record { child = z; slot = s })) (sym e) (row-each n 8 (all_right P (pairs n) (row_pairs n 8) h) s m)
      go (inr k) r = r k m
