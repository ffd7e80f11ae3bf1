-- A value with its zero unsigned: it is no -0, is otherwise the value itself, and lies within the bounds exactly if that does. And of a number that
-- is no -0, to be below zero and to have the sign bit are the same.
use mathlib.Core.Path.{◌≡◌, refl, sym, subst}
use mathlib.Core.Bool.{Bool, true, false, not, ◌||◌, cond}
use Prim.Native.Nat.{zero, suc, ◌+◌, ◌*◌, ◌^◌}
use native.Mathlib.Nat.{zero-lt-suc, mul-pos}
use native.Mathlib.Omega.{arith}
use lib.IntN.{ℤ, pos}
use lib.Dec.{T}
use lib.Ieee.{Float, nan, inf, fin, Format, up, down, lt, le, eq, fits, is_nan}
use lib.Ieee.Fits.{up_pos, down_pos, and_l, and_r}
use lib.Ieee.Bits.{is_true}
use borrow.Author.Tests.{eq-eqb, ne_eqb, lt-ltb, le-ltb}
use Rattle.float.specs.Compare.{plus_zero, unsigned_zero, is_minus_zero, in_bounds}
use Rattle.float.specs.Sign.{sign_bit}
use Rattle.float.proofs.Order.{le_self}
use Rattle.float.proofs.Zeros.{zero_is}

-- what equals 0 is a zero of one sign or the other
zero_cases : (P : Float → Type 0) → ((s : Bool) (e : ℤ) → P (fin s 0 e)) → (x : Float) → eq x plus_zero ≡ true → P x
unfolding eq
zero_cases P z nan h = absurd (subst T (sym h) tt)
zero_cases P z (inf s) h = absurd (subst T (sym h) tt)
zero_cases P z (fin s zero e) h = z s e
zero_cases P z (fin s (suc m) e) h =
    absurd (subst T (sym (rw (ne_eqb (suc m * up e * 1) (0 * down e) (λ q. omega (arith, q, mul-pos (zero-lt-suc m) (up_pos e)))) at h)) tt)

zero_equal : (s : Bool) (e : ℤ) → eq (fin s 0 e) plus_zero ≡ true
unfolding eq
zero_equal true e = rw (eq-eqb (0 * up e * 1) (0 * down e) (omega arith), eq-eqb (0 * up e * 1) 0 (omega arith))
zero_equal false e = rw (eq-eqb (0 * up e * 1) (0 * down e) (omega arith))

equal_zero : (s : Bool) (e : ℤ) → eq plus_zero (fin s 0 e) ≡ true
unfolding eq
equal_zero true e = rw (eq-eqb (0 * down e) (0 * up e * 1) (omega arith), eq-eqb (0 * down e) 0 (omega arith))
equal_zero false e = rw (eq-eqb (0 * down e) (0 * up e * 1) (omega arith))

le_of_eq : (x y : Float) → eq x y ≡ true → T (le x y)
unfolding le
le_of_eq x y e = go (lt x y)
  where
    go : (b : Bool) → T (b || eq x y)
    go true = tt
    go false = subst T (sym e) tt

-- by the test whether it is a zero
module _ (P : Float → Type 0) (x : Float) where
  unsigned_cases : (eq x plus_zero ≡ true → P plus_zero) → (eq x plus_zero ≡ false → P x) → P (unsigned_zero x)
  unfolding unsigned_zero
  unsigned_cases f g = go (eq x plus_zero) refl
    where
      go : (c : Bool) → eq x plus_zero ≡ c → P (cond c plus_zero x)
      go true e = f e
      go false e = g e

module _ (x : Float) where
  -- it is no -0
  pub unsigned_plain : is_minus_zero (unsigned_zero x) ≡ false
  unfolding is_minus_zero eq
  unsigned_plain = unsigned_cases (λ y. is_minus_zero y ≡ false) x (λ e. refl) (λ e. rw e)

  -- a second time nothing changes
  pub unsigned_again : unsigned_zero (unsigned_zero x) ≡ unsigned_zero x
  unfolding unsigned_zero eq
  unsigned_again = unsigned_cases (λ y. unsigned_zero y ≡ y) x (λ e. refl) (λ e. rw e)

  -- of -0 it is +0
  pub unsigned_minus : is_minus_zero x ≡ true → unsigned_zero x ≡ plus_zero
  unfolding is_minus_zero
  unsigned_minus h = unsigned_cases (λ y. y ≡ plus_zero) x (λ e. refl) (λ e. absurd (subst T (sym (rw e at h)) tt))

  -- and of any other value of the format the value itself
  pub unsigned_other : (f : Format) → T (fits f x) → is_minus_zero x ≡ false → unsigned_zero x ≡ x
  unfolding is_minus_zero
  unsigned_other f F h =
      unsigned_cases (λ y. y ≡ x) x
      (λ e. zero_cases (λ y. T (fits f y) → sign_bit y ≡ false → plus_zero ≡ y) zeros x e F (rw e at h))
      (λ e. refl)
    where
      zeros : (s : Bool) (e : ℤ) → T (fits f (fin s 0 e)) → s ≡ false → plus_zero ≡ fin s 0 e
      zeros true e F h = absurd (subst T h tt)
      zeros false e F h = sym (zero_is f false e F)

  -- the one value of the format that is -0
  pub minus_zero_is : (f : Format) → T (fits f x) → is_minus_zero x ≡ true → x ≡ fin true 0 (pos 0)
  unfolding is_minus_zero
  minus_zero_is f F h =
      let both = subst T (sym h) tt in
      let zero = is_true (eq x plus_zero) (and_l (eq x plus_zero) (sign_bit x) both) in
      let sign = is_true (sign_bit x) (and_r (eq x plus_zero) (sign_bit x) both) in
      zero_cases (λ y. T (fits f y) → sign_bit y ≡ true → y ≡ fin true 0 (pos 0)) zeros x zero F sign
    where
      zeros : (s : Bool) (e : ℤ) → T (fits f (fin s 0 e)) → s ≡ true → fin s 0 e ≡ fin true 0 (pos 0)
      zeros true e F h = zero_is f true e F
      zeros false e F h = absurd (subst T (sym h) tt)

  -- a zero is within the bounds, whatever its sign
  pub unsigned_bounds : in_bounds (unsigned_zero x) ≡ in_bounds x
  unfolding in_bounds le lt eq
  unsigned_bounds = unsigned_cases (λ y. in_bounds y ≡ in_bounds x) x (λ e. zero_cases (λ y. true ≡ in_bounds y) zeros x e) (λ e. refl)
    where
      zeros : (s : Bool) (e : ℤ) → true ≡ in_bounds (fin s 0 e)
      zeros true e =
          rw (
            lt-ltb (0 * up e * 1) (2 ^ 40 * down e) (omega (arith, down_pos e)),
            lt-ltb 0 (0 * up e * 1 + 2 ^ 40 * down e) (omega (arith, down_pos e)),
          )
      zeros false e =
          rw (
            lt-ltb 0 (2 ^ 40 * down e + 0 * up e * 1) (omega (arith, down_pos e)),
            lt-ltb (0 * up e * 1) (2 ^ 40 * down e) (omega (arith, down_pos e)),
          )

-- a number and its unsigned self are each at most the other
module _ (x : Float) (number : T (not (is_nan x))) where
  pub unsigned_below : T (le (unsigned_zero x) x)
  unsigned_below = unsigned_cases (λ y. T (le y x)) x
      (zero_cases (λ y. T (le plus_zero y)) (λ s e. le_of_eq plus_zero (fin s 0 e) (equal_zero s e)) x)
      (λ e. le_self x number)

  pub unsigned_above : T (le x (unsigned_zero x))
  unsigned_above = unsigned_cases (λ y. T (le x y)) x (λ e. le_of_eq x plus_zero e) (λ e. le_self x number)

-- and it is a value of the format
pub unsigned_fits : (f : Format) (x : Float) → T (fits f plus_zero) → T (fits f x) → T (fits f (unsigned_zero x))
unsigned_fits f x z F = unsigned_cases (λ y. T (fits f y)) x (λ e. z) (λ e. F)

-- of a number that is no -0
pub below_zero_sign : (x : Float) → T (not (is_nan x)) → is_minus_zero x ≡ false → lt x plus_zero ≡ sign_bit x
unfolding lt eq is_nan is_minus_zero
below_zero_sign nan p h = absurd p
below_zero_sign (inf s) p h = refl
below_zero_sign (fin false m e) p h = le-ltb (m * up e * 1) (0 * down e) (omega arith)
below_zero_sign (fin true zero e) p h = absurd (subst T (rw (zero_equal true e) at h) tt)
below_zero_sign (fin true (suc m) e) p h = lt-ltb 0 (suc m * up e * 1 + 0 * down e) (omega (arith, mul-pos (zero-lt-suc m) (up_pos e)))
