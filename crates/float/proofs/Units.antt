-- A finite value in units of its format's smallest, 2 ^ -low: values of one sign and as many units are one, and the units of a normal
-- value show its bit pattern.
use mathlib.Core.Path.{◌≡◌, refl, sym, ap, ◌∙◌}
use Prim.Native.Nat.{ℕ, ◌+◌, ◌-◌, ◌*◌, ◌/◌, ◌^◌, ◌≤◌, ◌<◌}
use native.Mathlib.Nat.{le_trans, le_of_eq, not-le_of_lt, lt_of_not-le, zero-add, mul-pos, mul-le-mul, eq_of_mul-eq-mul_right}
use native.Mathlib.Nat.{mul-div_cancel, le-div_iff_mul-le}
use native.Mathlib.Omega.{arith}
use mathlib.Core.Bool.{Bool, true, false}
use lib.IntN.{ℤ, negsuc}
use lib.Dec.{T, lit≤}
use lib.Pow.{pow_pos, pow-add, pow_mono, shl_lt}
use lib.Ieee.{Float, nan, inf, fin, Format, binary32, prec, low, hid, up, down, size, round, le, fits, of_bits, to_bits}
use lib.Ieee.Bits.{of_bits-to_bits}
use lib.Ieee.Digits.{size-le, size_reaches}
use lib.Ieee.Exact.{HasValue, round_exact}
use lib.Ieee.Fits.{down_pos, round-fits, kept-lt, two}
use lib.Ieee.Nearest.{div_same}
use lib.Ieee.Positive.{num, den}
use lib.Ieee.Scale.{overflow, normal_of_fraction}
use Rattle.float.specs.Magnitude.{Held}
use Rattle.float.proofs.Held.{value_held, pow_split}
use Rattle.float.proofs.Signed.{le_cross}

-- how many units the size of x is; for a value of the format they are a whole number
abbrev units_of : Format → Float → ℕ
units_of f x = num x * 2 ^ low f / den x

-- ---- a number is written in one way
same_units : (f : Format) (s : Bool) (m : ℕ) (e : ℤ) (t : Bool) (n : ℕ) (d : ℤ) → s ≡ t → units_of f (fin s m e) ≡ units_of f (fin t n d)
    → to_bits f (fin s m e) ≡ to_bits f (fin t n d)
unfolding to_bits
same_units f s m e t n d h k = rw (h, k)

-- x / u is a / c, and y / v is b / d
as_many : (x u y v a c b d l : ℕ) → 0 < c → 0 < d → x * c ≡ a * u → y * d ≡ b * v → a * d ≡ b * c → x * l * v ≡ y * l * u
as_many x u y v a c b d l C D p q h =
    eq_of_mul-eq-mul_right (c * d) (mul-pos C D) (x * l * v) (y * l * u)
    (omega (arith, ap (λ (z : ℕ). z * (l * v * d)) p, ap (λ (z : ℕ). z * (l * u * c)) q, ap (λ (z : ℕ). z * (l * u * v)) h))

pub value_unique : (f : Format) (x y : Float) (s : Bool) (a c b d : ℕ) → T (fits f x) → T (fits f y) → 0 < c → 0 < d
    → HasValue x s a c → HasValue y s b d → a * d ≡ b * c → x ≡ y
value_unique f nan y s a c b d F G C D p q h = absurd p
value_unique f (inf t) y s a c b d F G C D p q h = absurd p
value_unique f (fin t m e) nan s a c b d F G C D p q h = absurd q
value_unique f (fin t m e) (inf u) s a c b d F G C D p q h = absurd q
value_unique f (fin t m e) (fin u n g) s a c b d F G C D p q h =
    sym (of_bits-to_bits f (fin t m e) F)
    ∙ ap (of_bits f)
    (same_units f t m e u n g (p.0 ∙ sym q.0)
    (div_same (m * up e * 2 ^ low f) (down e) (n * up g * 2 ^ low f) (down g) (down_pos e) (down_pos g)
    (as_many (m * up e) (down e) (n * up g) (down g) a c b d (2 ^ low f) C D p.1 q.1 h)))
    ∙ of_bits-to_bits f (fin u n g) G

-- a value of the format rounds to itself
pub round_own : (f : Format) (s : Bool) (m : ℕ) (e : ℤ) → T (fits f (fin s m e)) → round f s (m * up e) (down e) ≡ fin s m e
round_own f s m e F =
    let h = value_held f s m e F in
    value_unique f (round f s (m * up e) (down e)) (fin s m e) s (m * up e) (down e) (m * up e) (down e)
    (round-fits f s (m * up e) (down e)) F (down_pos e) (down_pos e)
    (round_exact f s (m * up e) (down e) h.q h.j (down_pos e) h.few h.under h.is) (refl, refl) refl

-- ---- the pattern of a normal value
-- the value is w * 2 ^ k units, w of as many digits as the format keeps; the pattern has k in the exponent's field, to which w's leading
-- digit adds one
pub record NormalPattern (f : Format) (x : Float) : Type 0 where
  pub k : ℕ
  pub w : ℕ
  pub least : hid f ≤ w
  pub most : w < 2 ^ prec f
  pub under : w * 2 ^ k < overflow f
  pub value : HasValue x false (w * 2 ^ k) (2 ^ low f)
  pub pattern : to_bits f x ≡ k * hid f + w

module _ (f : Format) (m : ℕ) (e : ℤ) (F : T (fits f (fin false m e))) (N : hid f * down e ≤ m * up e * 2 ^ low f) where
  held : Held f (m * up e) (down e)
  held = value_held f false m e F

  units : ℕ
  units = units_of f (fin false m e)

  dropped : ℕ
  dropped = size units - prec f

  units_are : units ≡ held.q * 2 ^ held.j
  unfolding units
  units_are = ap (λ (z : ℕ). z / down e) held.is ∙ mul-div_cancel (held.q * 2 ^ held.j) (down_pos e)

  all_digits : prec f + dropped ≡ size units
  unfolding units dropped
  all_digits = omega (arith, normal_of_fraction f (m * up e) (down e) (down_pos e) N)

  -- what is dropped is 0
  few_dropped : dropped ≤ held.j
  unfolding dropped
  few_dropped = omega (arith, size-le units (prec f + held.j) (rw units_are (shl_lt (prec f) held.j held.few)))

  nothing_lost : units / 2 ^ dropped * 2 ^ dropped ≡ units
  nothing_lost =
      let n = held.q * 2 ^ (held.j - dropped) in
      let split : units ≡ n * 2 ^ dropped = omega (arith, units_are, ap (λ (z : ℕ). held.q * z) (pow_split held.j dropped few_dropped)) in
      rw split (ap (λ (z : ℕ). z * 2 ^ dropped) (mul-div_cancel n (pow_pos dropped)))

  leading : hid f ≤ units / 2 ^ dropped
  leading =
      (le-div_iff_mul-le (pow_pos dropped)).1
      (le_trans (le_of_eq (sym (pow-add 2 (prec f - 1) dropped))) (size_reaches units (prec f - 1 + dropped) (omega (arith, all_digits, two f))))

  pub normal_pattern : NormalPattern f (fin false m e)
  unfolding to_bits units dropped
  normal_pattern = record {
    k = dropped;
    w = units / 2 ^ dropped;
    least = leading;
    most = kept-lt (prec f) units;
    under = rw nothing_lost (rw units_are held.under);
    value = (refl, held.is ∙ ap (λ (z : ℕ). z * down e) (sym (nothing_lost ∙ units_are)));
    pattern = ap (λ (z : ℕ). z + units / 2 ^ dropped) (zero-add (dropped * hid f));
  }

-- ---- in binary32
-- 2 ^ -126, the least normal value
abbrev pub least_normal : Float
least_normal = fin false 1 (negsuc 125)

pub normal_bits : (s : Bool) (m : ℕ) (e : ℤ) → T (fits binary32 (fin s m e)) → T (le least_normal (fin s m e)) → NormalPattern binary32 (fin s m e)
normal_bits true m e F h = absurd (omega (arith, (le_cross least_normal (fin true m e) tt tt).0 h, down_pos e))
normal_bits false m e F h =
    normal_pattern binary32 m e F
    (finer (m * up e) (down e) (2 ^ 126) (2 ^ 149) refl (omega (arith, (le_cross least_normal (fin false m e) tt tt).0 h)))
  where
    finer : (x d p q : ℕ) → q ≡ p * 8388608 → d ≤ x * p → 8388608 * d ≤ x * q
    finer x d p q e l = omega (arith, ap (λ (z : ℕ). x * z) e)

pub field_limit : (x : Float) (v : NormalPattern binary32 x) → v.k < 254
field_limit x v = lt_of_not-le (λ g. not-le_of_lt v.under (mul-le-mul v.least (pow_mono g)))

-- no pattern of a value that is not below 2 ^ -126 exceeds that of the infinity
pub pattern_upto : (x : Float) → T (fits binary32 x) → T (le least_normal x) → to_bits binary32 x ≤ 2139095040
unfolding le to_bits
pattern_upto nan F h = absurd h
pattern_upto (inf true) F h = absurd h
pattern_upto (inf false) F h = lit≤ tt
pattern_upto (fin s m e) F h =
    let v = normal_bits s m e F h in
    le_trans (le_of_eq v.pattern) (omega (arith, v.most, field_limit (fin s m e) v))
