-- A rule at every number below a bound, by one test that antt computes.
use mathlib.Core.Path.{◌≡◌, sym, subst}
use mathlib.Core.Bool.{Bool, true, ◌&&◌}
use lib.Ieee.Fits.{and_l, and_r}
use mathlib.Core.Logic.{◌⊎◌, inl, inr, ⊎_elim}
use Prim.Native.Nat.{ℕ, zero, suc, ◌<◌, ◌≤◌, zero-le, suc-le-suc}
use native.Mathlib.Nat.{not-suc-le-zero, le_of_suc-le-suc, eq-or-lt_of_le}
use native.Mathlib.Omega.{arith}
use lib.Dec.{T, eqb, eqb→eq}

-- the test passes at every number below n
abbrev pub upto : (ℕ → Bool) → ℕ → Bool
upto f zero = true
upto f (suc n) = upto f n && f n

pub below : (f : ℕ → Bool) (n : ℕ) → T (upto f n) → (i : ℕ) → i < n → T (f i)
below f zero t i h = absurd (not-suc-le-zero h)
below f (suc n) t i h = pick (below f n (and_l (upto f n) (f n) t) i) (eq-or-lt_of_le (le_of_suc-le-suc h))
  where
    pick : (i < n → T (f i)) → (i ≡ n) ⊎ (i < n) → T (f i)
    pick rest (inl e) = subst (λ (x : ℕ). T (f x)) (sym e) (and_r (upto f n) (f n) t)
    pick rest (inr l) = rest l

-- an equation at every number below n
pub equal : (f g : ℕ → ℕ) (n : ℕ) → T (upto (λ i. eqb (f i) (g i)) n) → (i : ℕ) → i < n → f i ≡ g i
equal f g n t i h = eqb→eq (f i) (g i) (below (λ i. eqb (f i) (g i)) n t i h)

-- at every pair of numbers below m and n
pub equal₂ : (f g : ℕ → ℕ → ℕ) (m n : ℕ) → T (upto (λ i. upto (λ j. eqb (f i j) (g i j)) n) m) → (i j : ℕ) → i < m → j < n → f i j ≡ g i j
equal₂ f g m n t i j h l =
    eqb→eq (f i j) (g i j) (below (λ j. eqb (f i j) (g i j)) n (below (λ i. upto (λ j. eqb (f i j) (g i j)) n) m t i h) j l)

-- which of two orders holds
pub lt_or_ge : (a b : ℕ) → (a < b) ⊎ (b ≤ a)
lt_or_ge a zero = inr zero-le
lt_or_ge zero (suc b) = inl (suc-le-suc zero-le)
lt_or_ge (suc a) (suc b) = ⊎_elim (λ p. inl (suc-le-suc p)) (λ p. inr (suc-le-suc p)) (lt_or_ge a b)

-- what holds at each of eight numbers
pub eight : (P : ℕ → Type 0) → P 0 → P 1 → P 2 → P 3 → P 4 → P 5 → P 6 → P 7 → (i : ℕ) → i < 8 → P i
eight P a b c d e f g h zero l = a
eight P a b c d e f g h (suc zero) l = b
eight P a b c d e f g h (suc (suc zero)) l = c
eight P a b c d e f g h (suc (suc (suc zero))) l = d
eight P a b c d e f g h (suc (suc (suc (suc zero)))) l = e
eight P a b c d e f g h (suc (suc (suc (suc (suc zero))))) l = f
eight P a b c d e f g h (suc (suc (suc (suc (suc (suc zero)))))) l = g
eight P a b c d e f g h (suc (suc (suc (suc (suc (suc (suc zero))))))) l = h
eight P a b c d e f g h (suc (suc (suc (suc (suc (suc (suc (suc i)))))))) l = absurd (omega arith)
