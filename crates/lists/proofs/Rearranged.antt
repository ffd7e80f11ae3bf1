-- What a list rearranged keeps: the sum over it; and that a list is no longer than another in which each of its members stands as often.
use mathlib.Core.List.{List, [], ◌∷◌, Perm, Permᴰ}
use mathlib.Core.Logic.{∥∥₁_elim}
use mathlib.Core.Path.{◌≡◌, refl, ap, ap₂, ◌∙◌}
use native.Mathlib.Nat.{ℕ_set}
use native.Mathlib.Omega.{arith}
use Prim.Native.Nat.{ℕ, suc, ◌+◌, ◌≤◌, ◌<◌}
use lib.ListN.{length}
use Rattle.lists.specs.Counts.{same, count}
use Rattle.lists.specs.Sums.{sum_over}
use Rattle.lists.proofs.Counts.{Same, equal, apart, same?, same_self}

sum_arranged : (f : ℕ → ℕ) {a b : List ℕ} → Permᴰ a b → sum_over f a ≡ sum_over f b
unfolding sum_over
sum_arranged f Permᴰ.nil = refl
sum_arranged f (Permᴰ.cons e p) = ap₂ ◌+◌ (ap f e) (sum_arranged f p)
sum_arranged f (Permᴰ.swap e g) = omega (arith, ap f e, ap f g)
sum_arranged f (Permᴰ.trans p q) = sum_arranged f p ∙ sum_arranged f q

-- A sum over a list is the sum over the list rearranged.
pub sum_rearranged : (f : ℕ → ℕ) (a b : List ℕ) → Perm a b → sum_over f a ≡ sum_over f b
sum_rearranged f a b p = ∥∥₁_elim p (ℕ_set (sum_over f a) (sum_over f b)) (sum_arranged f)

-- a list without one of its members
abbrev Without : ℕ → List ℕ → Type 0
Without x l = (rest : List ℕ) × (length l ≡ suc (length rest)) × ((y : ℕ) → count y l ≡ same y x + count y rest)

taken_out : (x : ℕ) (l : List ℕ) → 0 < count x l → Without x l
unfolding count
taken_out x [] h = absurd (omega arith)
taken_out x (z ∷ l) h = go (same? x z) (taken_out x l)
  where
    go : Same x z → (0 < count x l → Without x l) → Without x (z ∷ l)
    go (equal e n) f = (l, refl, λ y. rw e refl)
    go (apart e n) f = let r = f (omega arith) in (z ∷ r.0, omega (arith, r.1), λ y. omega (arith, r.2 y))

-- No member stands in the first list more often than in the second: the first is no longer.
pub members_length : (a b : List ℕ) → ((x : ℕ) → count x a ≤ count x b) → length a ≤ length b
unfolding count
members_length [] b h = omega arith
members_length (x ∷ a) b h =
    let r = taken_out x b (omega (arith, h x, same_self x)) in
    omega (arith, members_length a r.0 (λ y. omega (arith, h y, r.2 y)), r.1)
