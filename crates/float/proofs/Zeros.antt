-- A zero added to a value of the format, or taken from it: the value stays, but for -0 + 0, which is +0.
use mathlib.Core.Path.{◌≡◌, refl, sym, ◌∙◌, subst}
use mathlib.Core.Logic.{◌⊎◌, inl, inr}
use mathlib.Core.Bool.{Bool, true, false}
use Prim.Native.Nat.{ℕ, zero, suc, ◌+◌, ◌*◌, ◌<◌}
use native.Mathlib.Nat.{zero-lt-suc, mul-pos, mul-one}
use native.Mathlib.Omega.{arith}
use lib.IntN.{ℤ, pos}
use lib.Dec.{T, lit<}
use lib.Ieee.{Float, nan, inf, fin, Format, binary32, up, down, round, add, sub, fits}
use lib.Ieee.Fits.{up_pos}
use Rattle.float.specs.Compare.{plus_zero}
use Rattle.float.proofs.Signed.{pos_part, neg_part, add_is}
use Rattle.float.proofs.Units.{value_unique, round_own}

-- ±n and ±m are one number, and it is not 0
same_number : (u s : Bool) (n m : ℕ) → 0 < m → pos_part u n + neg_part s m ≡ neg_part u n + pos_part s m → (u ≡ s) × (n ≡ m)
same_number false false n m p h = (refl, omega arith)
same_number false true n m p h = absurd (omega arith)
same_number true false n m p h = absurd (omega arith)
same_number true true n m p h = (refl, omega arith)

-- a value that is not 0, and a zero of either sign
nonzero : (f : Format) (s : Bool) (m : ℕ) (e : ℤ) (t : Bool) → T (fits f (fin s (suc m) e))
    → add f (fin s (suc m) e) (fin t 0 (pos 0)) ≡ fin s (suc m) e
nonzero f s m e t F =
    let r = add_is f (fin s (suc m) e) (fin t 0 (pos 0)) tt tt in
    let k = same_number r.sign s r.size (suc m * up e) (mul-pos (zero-lt-suc m) (up_pos e)) (omega (arith, r.balance, none t)) in
    r.is ∙ rw (k.0, k.1, mul-one) (round_own f s (suc m) e F)
  where
    none : (t : Bool) → (pos_part t 0 * down e ≡ 0) × (neg_part t 0 * down e ≡ 0)
    none true = omega arith
    none false = omega arith

pub zero_is : (f : Format) (s : Bool) (e : ℤ) → T (fits f (fin s 0 e)) → fin s 0 e ≡ fin s 0 (pos 0)
unfolding fits
zero_is f s e F = value_unique f (fin s 0 e) (fin s 0 (pos 0)) s 0 1 0 1 F tt (lit< tt) (lit< tt) (refl, omega arith) (refl, refl) refl

pub minus_zero_lem : (x : Float) → T (fits binary32 x) → sub binary32 x plus_zero ≡ x
unfolding sub round
minus_zero_lem nan F = refl
minus_zero_lem (inf s) F = refl
minus_zero_lem (fin s (suc m) e) F = nonzero binary32 s m e true F
minus_zero_lem (fin s zero e) F = subst (λ (x : Float). sub binary32 x plus_zero ≡ x) (sym (zero_is binary32 s e F)) (go s)
  where
    go : (s : Bool) → sub binary32 (fin s 0 (pos 0)) plus_zero ≡ fin s 0 (pos 0)
    go true = refl
    go false = refl

abbrev PlusZero : Float → Type 0
PlusZero x = (add binary32 x plus_zero ≡ x) ⊎ ((x ≡ fin true 0 (pos 0)) × (add binary32 x plus_zero ≡ plus_zero))

pub plus_zero_lem : (x : Float) → T (fits binary32 x) → (add binary32 x plus_zero ≡ x)
    ⊎ ((x ≡ fin true 0 (pos 0)) × (add binary32 x plus_zero ≡ plus_zero))
unfolding add round
plus_zero_lem nan F = inl refl
plus_zero_lem (inf s) F = inl refl
plus_zero_lem (fin s (suc m) e) F = inl (nonzero binary32 s m e false F)
plus_zero_lem (fin s zero e) F = subst PlusZero (sym (zero_is binary32 s e F)) (go s)
  where
    go : (s : Bool) → PlusZero (fin s 0 (pos 0))
    go true = inr (refl, refl)
    go false = inl refl
