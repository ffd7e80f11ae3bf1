-- The smallest power of two that is not below a value: that `nextPower` is it, that there is only one, that it grows with the value,
-- and how it is read from the bit pattern of a normal value. And that each normal power of two has an exact inverse.
use mathlib.Core.Path.{◌≡◌, refl, sym, ap, ◌∙◌, subst}
use mathlib.Core.Logic.{◌⊎◌, inl, inr}
use Prim.Native.Nat.{ℕ, zero, suc, ◌+◌, ◌-◌, ◌*◌, ◌/◌, ◌^◌, ◌≤◌, ◌<◌, zero-le}
use native.Mathlib.Nat.{le_trans, le_refl, le_step, le_antisymm, lt_of_lt_of_le, not-le_of_lt, lt_of_not-le, eq-or-lt_of_le, one-mul, mul-pos}
use native.Mathlib.Nat.{mul_assoc, mul_right_comm, mul-le-mul_left, mul-le-mul_right, mul-lt-mul_of_pos_right}
use native.Mathlib.Nat.{le_of_mul-le-mul_right, eq_of_mul-eq-mul_right}
use native.Mathlib.Omega.{arith}
use native.Mathlib.Decide.{dec_le}
use mathlib.Core.Bool.{Bool, true, false}
use lib.IntN.{ℤ, pos, negsuc}
use lib.Dec.{T, leb, ltb, le→leb, lt→ltb, lit<}
use lib.Pow.{pow_pos, pow-add, pow_mono, pow-lt}
use lib.Ieee.{Float, nan, inf, fin, binary32, minus, up, down, round, div, le, lt, fits, to_bits, of_bits}
use lib.Ieee.Bits.{of_bits-to_bits}
use lib.Ieee.Digits.{minus_val}
use lib.Ieee.Exact.{HasValue, round_exact}
use lib.Ieee.Fits.{up_pos, down_pos, and_i, round-fits}
use lib.Ieee.Order.{le_of_values}
use lib.Ieee.Positive.{positive_of_value, values_of_le}
use borrow.Author.Tests.{le-leb, lt-leb}
use Rattle.float.specs.PowerOfTwo.{power, NextPower, first_power, next_power, scale_of}
use Rattle.float.proofs.Held.{pow-order}
use Rattle.float.proofs.Order.{le_nonneg, le_transitive, lt_excludes_le}
use Rattle.float.proofs.Units.{least_normal, NormalPattern, normal_bits, field_limit, value_unique}

-- ---- a - l as an integer
minus_at : (n a l : ℕ) → n + l ≡ a → minus a l ≡ pos n
minus_at n a l h = rw (le-leb l a (omega arith)) (ap pos (omega arith))

minus_under : (n a l : ℕ) → a + suc n ≡ l → minus a l ≡ negsuc n
minus_under n a l h = rw (lt-leb l a (omega arith)) (ap negsuc (omega arith))

-- ---- a power of two in units of 2 ^ -149
power_value : (e : ℕ) → HasValue (power e) false (2 ^ (e + 22)) (2 ^ 149)
power_value e = (
  refl,
  (ap (λ (z : ℕ). 1 * up (minus e 127) * z) (pow-add 2 127 22)
      ∙ sym (mul_assoc (1 * up (minus e 127)) (2 ^ 127) (2 ^ 22))
      ∙ ap (λ (z : ℕ). z * 2 ^ 22) (minus_val 1 e 127)
      ∙ mul_right_comm (1 * 2 ^ e) (down (minus e 127)) (2 ^ 22)
      ∙ ap (λ (z : ℕ). z * 2 ^ 22 * down (minus e 127)) (one-mul (2 ^ e))
      ∙ ap (λ (z : ℕ). z * down (minus e 127)) (sym (pow-add 2 e 22))),
)

power_mono : (a b : ℕ) → a ≤ b → T (le (power a) (power b))
power_mono a b h =
    le_of_values (power a) (power b) (2 ^ (a + 22)) (2 ^ 149) (2 ^ (b + 22)) (2 ^ 149) (pow_pos 149) (pow_pos 149) (power_value a) (power_value b)
    (mul-le-mul_right (2 ^ 149) (pow_mono (omega arith)))

-- a value of n units that is not above 2 ^ (e - 127)
units_upto : (x : Float) (n e : ℕ) → 0 < n → HasValue x false n (2 ^ 149) → T (le x (power e)) → n ≤ 2 ^ (e + 22)
units_upto x n e p v h =
    le_of_mul-le-mul_right
    (values_of_le x (power e) n (2 ^ 149) (2 ^ (e + 22)) (2 ^ 149) (positive_of_value x n (2 ^ 149) v p) tt v (power_value e) h) (pow_pos 149)

power-order : (a b : ℕ) → T (le (power a) (power b)) → a ≤ b
power-order a b h = omega (arith, pow-order (a + 22) (b + 22) (units_upto (power a) (2 ^ (a + 22)) b (pow_pos (a + 22)) (power_value a) h))

-- ---- the search
pub record Found (x : Float) (e n r : ℕ) : Type 0 where
  pub from : e ≤ r
  pub upto : r ≤ e + n
  pub none : (j : ℕ) → e ≤ j → j < r → T (le x (power j)) → ⊥
  pub reaches : r < e + n → T (le x (power r))

first_found : (n : ℕ) (b : Bool) (e : ℕ) (x : Float) → le x (power e) ≡ b → Found x e n (first_power n b e x)
unfolding first_power
first_found zero b e x h = record {
  from = le_refl e;
  upto = omega arith;
  none = λ j l u t. absurd (not-le_of_lt u l);
  reaches = λ l. absurd (self e l);
}
  where
    self : (e : ℕ) → e < e + 0 → ⊥
    self e h = omega arith
first_found (suc n) true e x h = record {
  from = le_refl e;
  upto = omega arith;
  none = λ j l u t. absurd (not-le_of_lt u l);
  reaches = λ l. subst T (sym h) tt;
}
first_found (suc n) false e x h = on (first_power n (le x (power (suc e))) (suc e) x) (first_found n (le x (power (suc e))) (suc e) x refl)
  where
    on : (r : ℕ) → Found x (suc e) n r → Found x e (suc n) r
    on r f = record {
      from = omega (arith, f.from);
      upto = omega (arith, f.upto);
      none = λ j l u t. elim (eq-or-lt_of_le l) [ inl i ↦ subst T (ap (λ (k : ℕ). le x (power k)) (sym i) ∙ h) t | inr i ↦ f.none j i u t ];
      reaches = λ l. f.reaches (omega arith);
    }

found : (x : Float) → Found x 0 255 (next_power x)
unfolding next_power
found x = first_found 255 (le x (power 0)) 0 x refl

-- ---- `nextPower`
next_power_limit : (x : Float) → next_power x ≤ 255
next_power_limit x = (found x).upto

next_power_upto : (x : Float) (k : ℕ) → T (le x (power k)) → next_power x ≤ k
next_power_upto x k h = elim (dec_le (next_power x) k) [ yes l ↦ l | no g ↦ absurd ((found x).none k zero-le (lt_of_not-le g) h) ]

next_power_reaches : (x : Float) → T (le x (power 255)) → T (le x (power (next_power x)))
next_power_reaches x h = elim (dec_le 255 (next_power x)) [
  | yes l ↦ le_transitive x (power 255) (power (next_power x)) h (power_mono 255 (next_power x) l)
  | no g ↦ (found x).reaches (lt_of_not-le g)
]

pub next_power_mono : (x y : Float) → T (le x y) → next_power x ≤ next_power y
next_power_mono x y h = elim (dec_le 255 (next_power y)) [
  | yes l ↦ le_trans (next_power_limit x) l
  | no g ↦ next_power_upto x (next_power y) (le_transitive x y (power (next_power y)) h ((found y).reaches (lt_of_not-le g)))
]

-- any power of two is `power k` for a k, or is not above 2 ^ -127
int_power : (z : ℤ) → ((k : ℕ) × (fin false 1 z ≡ power k)) ⊎ T (le (fin false 1 z) (power 0))
int_power (pos n) = inl (n + 127, ap (fin false 1) (sym (minus_at n (n + 127) 127 refl)))
int_power (negsuc n) = elim (dec_le 127 n) [
  | yes l ↦ inr ((le_nonneg 1 (negsuc n) 1 (negsuc 126)).1 (rw (one-mul (2 ^ suc n)) (pow_mono {i = 127} {j = suc n} (le_step l))))
  | no g ↦ inl (126 - n, ap (fin false 1) (sym (minus_under n (126 - n) 127 (omega (arith, lt_of_not-le g)))))
]

-- `nextPower` is the smallest power of two that is not below x
pub next_power_lem : (x : Float) → lt (power 0) x ≡ true → T (le x (power 255)) → NextPower x (next_power x)
next_power_lem x l h = record {
  reaches = next_power_reaches x h;
  least = λ z t. elim (int_power z) [
    | inl p ↦ rw p.1 (power_mono (next_power x) p.0 (next_power_upto x p.0 (rw p.1 at t)))
    | inr q ↦ absurd (lt_excludes_le (power 0) x l (le_transitive x (fin false 1 z) (power 0) t q))
  ];
}

-- and the only one
pub next_power_unique : (x : Float) (a b : ℕ) → NextPower x a → NextPower x b → a ≡ b
next_power_unique x a b p q =
    le_antisymm (power-order a b (p.least (minus b 127) q.reaches)) (power-order b a (q.least (minus a 127) p.reaches))

-- ---- from the bit pattern
-- the exponent field of a normal value's pattern, moved up by one where there are digits below the leading one
abbrev pub rounded_field : ℕ → ℕ
rounded_field b = (b + 8388607) / 8388608

-- w * 2 ^ k lies above 2 ^ (r + 21) and not above 2 ^ (r + 22), where w has 24 digits
between : (k w r : ℕ) → 8388608 ≤ w → w < 16777216 → r ≡ rounded_field (k * 8388608 + w) → (2 ^ (r + 21) < w * 2 ^ k) × (w * 2 ^ k ≤ 2 ^ (r + 22))
between k w r l u h = elim (eq-or-lt_of_le l) [
  | inl e ↦
      let i : r ≡ k + 1 = omega (arith, h, e) in
      let p : 2 ^ r ≡ 2 ^ k * 2 = ap (λ (z : ℕ). 2 ^ z) i ∙ pow-add 2 k 1 in
      omega (arith, p, pow-add 2 r 21, pow-add 2 r 22, pow_pos k, ap (λ (z : ℕ). z * 2 ^ k) e)
  | inr g ↦
      let i : r ≡ k + 2 = omega (arith, h, g) in
      let p : 2 ^ r ≡ 2 ^ k * 4 = ap (λ (z : ℕ). 2 ^ z) i ∙ pow-add 2 k 2 in
      omega (arith, p, pow-add 2 r 21, pow-add 2 r 22, mul-lt-mul_of_pos_right g (pow_pos k), mul-le-mul_right (2 ^ k) u)
]

of_normal : (x : Float) → NormalPattern binary32 x → next_power x ≡ rounded_field (to_bits binary32 x)
of_normal x v =
    let r = rounded_field (to_bits binary32 x) in
    let n = v.w * 2 ^ v.k in
    let b = between v.k v.w r v.least v.most (ap rounded_field v.pattern) in
    let limit : r ≤ 255 = omega (arith, v.pattern, v.most, field_limit x v) in
    let reaches : T (le x (power r)) =
    le_of_values x (power r) n (2 ^ 149) (2 ^ (r + 22)) (2 ^ 149) (pow_pos 149) (pow_pos 149) v.value (power_value r)
    (mul-le-mul_right (2 ^ 149) b.1) in
    let most : n ≤ 2 ^ (next_power x + 22) =
    units_upto x n (next_power x) (mul-pos (lt_of_lt_of_le (lit< tt) v.least) (pow_pos v.k)) v.value
    (next_power_reaches x (le_transitive x (power r) (power 255) reaches (power_mono r 255 limit))) in
    le_antisymm (next_power_upto x r reaches) (elim (dec_le r (next_power x)) [
      | yes l ↦ l
      | no g ↦ absurd (not-le_of_lt (lt_of_lt_of_le b.0 most) (pow_mono {i = next_power x + 22} {j = r + 21} (omega (arith, lt_of_not-le g))))
    ])

-- of every f32 that is not below 2 ^ -126, an infinity included
pub next_power_of_bits : (x : Float) → T (fits binary32 x) → T (le least_normal x) → next_power x ≡ rounded_field (to_bits binary32 x)
unfolding next_power le to_bits
next_power_of_bits nan F h = absurd h
next_power_of_bits (inf true) F h = absurd h
next_power_of_bits (inf false) F h = refl
next_power_of_bits (fin s m e) F h = of_normal (fin s m e) (normal_bits s m e F h)

-- ---- the f32 with exponent field e is 2 ^ (e - 127)
power-fits : (e : ℕ) → e < 255 → T (fits binary32 (power e))
unfolding fits
power-fits e h = elim (dec_le 127 e) [
  | yes l ↦
      rw (minus_at (e - 127) e 127 (omega arith))
      (lt→ltb (1 * 2 ^ (e - 127)) (2 ^ 128) (rw one-mul (pow-lt {i = e - 127} {j = 128} (omega arith))))
  | no g ↦
      let d = 2 ^ suc (126 - e) in
      rw (minus_under (126 - e) e 127 (omega (arith, lt_of_not-le g)))
      (and_i (leb d (2 ^ 149)) (ltb 1 (2 ^ 128 * d)) (le→leb d (2 ^ 149) (pow_mono {i = suc (126 - e)} {j = 149} (omega arith)))
      (lt→ltb 1 (2 ^ 128 * d) (lt_of_lt_of_le (lit< tt) (mul-le-mul_left (2 ^ 128) (pow_pos (suc (126 - e)))))))
]

-- w of 24 digits times 2 ^ k is 2 ^ n only where w is 2 ^ 23
leading_one : (w k n : ℕ) → 8388608 ≤ w → w < 16777216 → w * 2 ^ k ≡ 2 ^ n → (n ≡ k + 23) × (w ≡ 8388608)
leading_one w k n l u h =
    let low = pow-order (k + 23) n (omega (arith, h, pow-add 2 k 23, mul-le-mul_right (2 ^ k) l)) in
    let less : 2 ^ n < 2 ^ (k + 24) = omega (arith, h, pow-add 2 k 24, mul-lt-mul_of_pos_right u (pow_pos k)) in
    let high = lt_of_not-le (λ (g : k + 24 ≤ n). not-le_of_lt less (pow_mono g)) in
    let i : n ≡ k + 23 = omega (arith, low, high) in
    (i, eq_of_mul-eq-mul_right (2 ^ k) (pow_pos k) w 8388608 (omega (arith, h, ap (λ (z : ℕ). 2 ^ z) i, pow-add 2 k 23)))

power_bits : (e : ℕ) → 0 < e → e < 255 → to_bits binary32 (power e) ≡ e * 8388608
power_bits e l h =
    let v = normal_bits false 1 (minus e 127) (power-fits e h) (power_mono 1 e l) in
    let n = v.w * 2 ^ v.k in
    let z = minus e 127 in
    let same : n ≡ 2 ^ (e + 22) = eq_of_mul-eq-mul_right (down z) (down_pos z) n (2 ^ (e + 22)) (sym v.value.1 ∙ (power_value e).1) in
    let one = leading_one v.w v.k (e + 22) v.least v.most same in
    v.pattern ∙ omega (arith, one)

pub scale_power : (e : ℕ) → 0 < e → e < 255 → scale_of e ≡ power e
unfolding scale_of
scale_power e l h = ap (of_bits binary32) (sym (power_bits e l h)) ∙ of_bits-to_bits binary32 (power e) (power-fits e h)

-- ---- 1 / 2 ^ (e - 127) is exact
-- u / d is p / q, and r / q is q / p: so d / u is r / q
turned : (u d p q r : ℕ) → 0 < p → 1 * u * q ≡ p * d → q * q ≡ r * p → 1 * d * q ≡ r * (1 * u * 1)
turned u d p q r P h k = eq_of_mul-eq-mul_right p P (1 * d * q) (r * (1 * u * 1)) (omega (arith, ap (λ (z : ℕ). z * q) h, ap (λ (z : ℕ). u * z) k))

pub power_inverse : (e : ℕ) → 0 < e → e < 255 → div binary32 (fin false 1 (pos 0)) (power e) ≡ power (254 - e)
unfolding div
power_inverse e l h =
    value_unique binary32 (round binary32 false (1 * d) (1 * u * 1)) (power (254 - e)) false (1 * d) (1 * u * 1) (2 ^ (254 - e + 22)) (2 ^ 149)
    (round-fits binary32 false (1 * d) (1 * u * 1)) (power-fits (254 - e) (omega arith)) U (pow_pos 149)
    (round_exact binary32 false (1 * d) (1 * u * 1) 1 (276 - e) U (lit< tt) (rw one-mul (pow-lt {i = 276 - e} {j = 277} (omega arith)))
    (rw (one-mul (2 ^ (276 - e))) same))
    (power_value (254 - e)) (same ∙ ap (λ (z : ℕ). 2 ^ z * (1 * u * 1)) (omega arith))
  where
    d : ℕ
    d = down (minus e 127)

    u : ℕ
    u = up (minus e 127)

    U : 0 < 1 * u * 1
    U = mul-pos (mul-pos (lit< tt) (up_pos (minus e 127))) (lit< tt)

    all : 298 ≡ 276 - e + (e + 22)
    all = omega (arith, h)

    same : 1 * d * 2 ^ 149 ≡ 2 ^ (276 - e) * (1 * u * 1)
    same =
        turned u d (2 ^ (e + 22)) (2 ^ 149) (2 ^ (276 - e)) (pow_pos (e + 22)) (power_value e).1
        (ap (λ (z : ℕ). 2 ^ z) all ∙ pow-add 2 (276 - e) (e + 22))
