-- Which fractions a format holds: a few digits times a power of two, and every finite value of the format.
use mathlib.Core.Path.{◌≡◌, sym, ap, ◌∙◌}
use Prim.Native.Nat.{ℕ, zero, suc, ◌+◌, ◌-◌, ◌*◌, ◌%◌, ◌^◌, ◌≤◌, ◌<◌}
use native.Mathlib.Nat.{lt_of_lt_of_le, not-le_of_lt, lt_of_not-le, one-mul, mul-one, mul-lt-mul_of_pos_right, sub-add_cancel}
use native.Mathlib.Omega.{arith}
use native.Mathlib.Decide.{dec_le}
use mathlib.Core.Bool.{Bool, ◌&&◌}
use lib.IntN.{ℤ, pos, negsuc}
use lib.Dec.{T, ltb, leb, eqb, ltb→lt, leb→le, lit<}
use lib.Pow.{pow_pos, pow-add, pow_mono, pow-lt, shl_lt}
use lib.Ieee.{fin, Format, binary32, binary64, prec, emax, low, up, down, fits}
use lib.Ieee.Fits.{and_l, and_r, reach}
use Rattle.float.specs.Magnitude.{Held}

-- ---- m * 2 ^ k, below the overflow
held_scaled : (f : Format) (m k : ℕ) → m < 2 ^ prec f → m * 2 ^ k < 2 ^ suc (emax f) → Held f (m * 2 ^ k) 1
held_scaled f m k h l = record {
  q = m;
  j = k + low f;
  few = h;
  under = omega (arith, mul-lt-mul_of_pos_right l (pow_pos (low f)), pow-add 2 (low f) (suc (emax f)), ap (λ (z : ℕ). m * z) (pow-add 2 k (low f)));
  is = omega (arith, ap (λ (z : ℕ). m * z) (pow-add 2 k (low f)));
}

pub held-zero : (f : Format) → Held f 0 1
held-zero f = held_scaled f 0 0 (pow_pos (prec f)) (pow_pos (suc (emax f)))

pub held_up : (f : Format) (m k : ℕ) → m < 2 ^ prec f → k + prec f ≤ suc (emax f) → Held f (m * 2 ^ k) 1
held_up f m k h l = held_scaled f m k h (lt_of_lt_of_le (shl_lt (prec f) k h) (pow_mono (omega arith)))

pub held-pow : (f : Format) (k : ℕ) → k ≤ emax f → Held f (2 ^ k) 1
held-pow f k h = rw one-mul at (held_scaled f 1 k (digits f) (rw one-mul (pow-lt {i = k} {j = suc (emax f)} (omega arith))))
  where
    digits : (f : Format) → 1 < 2 ^ prec f
    digits binary32 = lit< tt
    digits binary64 = lit< tt

-- ---- powers of two
pub pow-order : (i j : ℕ) → 2 ^ i ≤ 2 ^ j → i ≤ j
pow-order i j h = elim (dec_le i j) [ yes l ↦ l | no n ↦ absurd (not-le_of_lt (pow-lt (lt_of_not-le n)) h) ]

pub pow_split : (n k : ℕ) → k ≤ n → 2 ^ n ≡ 2 ^ (n - k) * 2 ^ k
pow_split n k h = ap (λ (z : ℕ). 2 ^ z) (sym (sub-add_cancel h)) ∙ pow-add 2 (n - k) k

-- ---- a finite value of the format
-- what `fits` asks of a significand that is not 0, besides being odd
record Fitting (f : Format) (m : ℕ) (e : ℤ) : Type 0 where
  few : m < 2 ^ prec f
  deep : down e ≤ 2 ^ low f
  small : m * up e < 2 ^ suc (emax f) * down e

fitting : (f : Format) (s : Bool) (m : ℕ) (e : ℤ) → T (fits f (fin s (suc m) e)) → Fitting f (suc m) e
unfolding fits
fitting f s m e F =
    let odd : Bool = eqb (suc m % 2) 1 in
    let few : Bool = ltb (suc m) (2 ^ prec f) in
    let deep : Bool = leb (down e) (2 ^ low f) in
    let small : Bool = ltb (suc m * up e) (2 ^ suc (emax f) * down e) in
    let digits : T (odd && few && deep) = and_l (odd && few && deep) small F in record {
      few = ltb→lt (suc m) (2 ^ prec f) (and_r odd few (and_l (odd && few) deep digits));
      deep = leb→le (down e) (2 ^ low f) (and_r (odd && few) deep digits);
      small = ltb→lt (suc m * up e) (2 ^ suc (emax f) * down e) (and_r (odd && few && deep) small F);
    }

pub value_held : (f : Format) (s : Bool) (m : ℕ) (e : ℤ) → T (fits f (fin s m e)) → Held f (m * up e) (down e)
value_held f s zero e F = record { q = 0; j = 0; few = pow_pos (prec f); under = pow_pos (low f + suc (emax f)); is = omega arith }
value_held f s (suc m) (pos k) F = let h = fitting f s m (pos k) F in held_scaled f (suc m) k h.few (rw mul-one at h.small)
value_held f s (suc m) (negsuc k) F =
    let h = fitting f s m (negsuc k) F in
    let room : suc k ≤ low f = pow-order (suc k) (low f) h.deep in
    let split : 2 ^ low f ≡ 2 ^ (low f - suc k) * 2 ^ suc k = pow_split (low f) (suc k) room in record {
      q = suc m;
      j = low f - suc k;
      few = h.few;
      under = lt_of_lt_of_le (shl_lt (prec f) (low f - suc k) h.few) (pow_mono (omega (arith, reach f)));
      is = omega (arith, ap (λ (z : ℕ). suc m * z) split);
    }
