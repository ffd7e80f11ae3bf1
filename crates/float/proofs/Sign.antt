-- The sign bit of a float, and that a test which passed rules a NaN out.
use mathlib.Core.Path.{◌≡◌, refl, sym, ap, ◌∙◌, subst}
use Prim.Native.Nat.{ℕ, zero, suc, ◌+◌, ◌*◌, ◌%◌, ◌/◌, ◌^◌}
use native.Mathlib.Omega.{arith}
use mathlib.Core.Bool.{Bool, true, false, not, ◌&&◌, cond}
use lib.Dec.{T, leb, ltb, eqb}
use lib.IntN.{ℤ}
use lib.Ieee.{Float, nan, inf, fin, Format, prec, low, ones, hid, top, odd, units, round, div, of_fields, of_bits, to_bits, fits, is_nan, lt, le, eq}
use lib.Ieee.{emax, level, unlike, up, down, mul}
use borrow.Author.Tests.{eq-eqb, ne_eqb}
use lib.Ieee.Bits.{of_bits-to_bits}
use Rattle.std.specs.Float.{is_sign_negative}
use Rattle.float.specs.Sign.{sign_bit}

odd_sign_bit : (d : ℕ) (s : Bool) (q k l : ℕ) → sign_bit (odd d s q k l) ≡ s
unfolding odd
odd_sign_bit d s zero k l = refl
odd_sign_bit d s (suc q) k l = refl

fields_sign : (f : Format) (s : Bool) (x t : ℕ) → T (not (is_nan (of_fields f s x t))) → sign_bit (of_fields f s x t) ≡ s
unfolding of_fields is_nan
fields_sign f s zero t h = odd_sign_bit (prec f) s t 0 (low f)
fields_sign f s (suc x) t h = go (eqb (suc x) (ones f)) (eqb t 0) h
  where
    number : Float
    number = odd (prec f) s (hid f + t) x (low f)

    go : (a b : Bool) → T (not (is_nan (cond a (cond b (inf s) nan) number))) → sign_bit (cond a (cond b (inf s) nan) number) ≡ s
    go true true h = refl
    go true false h = absurd h
    go false b h = odd_sign_bit (prec f) s (hid f + t) x (low f)

bits_sign : (f : Format) (b : ℕ) → T (not (is_nan (of_bits f b))) → sign_bit (of_bits f b) ≡ leb (top f) b
unfolding of_bits
bits_sign f b h = fields_sign f (leb (top f) b) (b % top f / hid f) (b % hid f) h

-- the sign bit is the pattern's highest
pub sign_of_bits : (f : Format) (v : Float) → T (fits f v) → T (not (is_nan v)) → sign_bit v ≡ leb (top f) (to_bits f v)
sign_of_bits f v h k =
    ap sign_bit (sym (of_bits-to_bits f v h)) ∙ bits_sign f (to_bits f v) (subst (λ (z : Float). T (not (is_nan z))) (sym (of_bits-to_bits f v h)) k)

-- what `is_sign_negative` gives
pub negative_is : (v : Float) → is_sign_negative v ≡ sign_bit v
unfolding is_sign_negative
negative_is nan = refl
negative_is (inf s) = refl
negative_is (fin s m e) = refl

-- ---- what is rounded keeps its sign; a product with a positive number has the other factor's, and a quotient of one the divisor's
units_sign : (f : Format) (s : Bool) (q k : ℕ) → sign_bit (units f s q k) ≡ s
unfolding units
units_sign f s q k = go (ltb (q * 2 ^ k) (2 ^ (low f + suc (emax f))))
  where
    go : (c : Bool) → sign_bit (cond c (odd (suc (prec f)) s q k (low f)) (inf s)) ≡ s
    go true = odd_sign_bit (suc (prec f)) s q k (low f)
    go false = refl

pub round_sign : (f : Format) (s : Bool) (n d : ℕ) → sign_bit (round f s n d) ≡ s
unfolding round
round_sign f s n d = units_sign f s _ _

of_positive : (s : Bool) → unlike false s ≡ s
of_positive true = refl
of_positive false = refl

pub mul_sign : (f : Format) (m : ℕ) (e : ℤ) (x : Float) → T (not (is_nan x)) → sign_bit (mul f (fin false (suc m) e) x) ≡ sign_bit x
unfolding mul is_nan
mul_sign f m e nan p = absurd p
mul_sign f m e (inf s) p = rw (ne_eqb (suc m) 0 (λ z. omega (arith, z))) (of_positive s)
mul_sign f m e (fin s n d) p = round_sign f (unlike false s) (suc m * up e * (n * up d)) (down e * down d) ∙ of_positive s

pub div_sign : (f : Format) (m : ℕ) (e : ℤ) (x : Float) → T (not (is_nan x)) → sign_bit (div f (fin false (suc m) e) x) ≡ sign_bit x
unfolding div is_nan
div_sign f m e nan p = absurd p
div_sign f m e (inf s) p = of_positive s
div_sign f m e (fin s n d) p = rw (ne_eqb (suc m) 0 (λ z. omega (arith, z))) (go (eqb n 0) ∙ of_positive s)
  where
    go : (c : Bool) → sign_bit (cond c (inf (unlike false s)) (round f (unlike false s) (suc m * up e * down d) (n * up d * down e))) ≡ unlike false s
    go true = refl
    go false = round_sign f (unlike false s) (suc m * up e * down d) (n * up d * down e)

-- ---- a comparison that holds has no NaN in it
pub no_nan_le_r : (x y : Float) → le x y ≡ true → T (not (is_nan y))
unfolding le is_nan
no_nan_le_r nan nan h = subst T (sym h) tt
no_nan_le_r (inf s) nan h = subst T (sym h) tt
no_nan_le_r (fin s m e) nan h = subst T (sym h) tt
no_nan_le_r x (inf s) h = tt
no_nan_le_r x (fin s m e) h = tt

pub no_nan_lt_l : (x y : Float) → lt x y ≡ true → T (not (is_nan x))
unfolding lt is_nan
no_nan_lt_l nan y h = subst T (sym h) tt
no_nan_lt_l (inf s) y h = tt
no_nan_lt_l (fin s m e) y h = tt

pub no_nan_lt_r : (x y : Float) → lt x y ≡ true → T (not (is_nan y))
unfolding lt is_nan
no_nan_lt_r nan nan h = subst T (sym h) tt
no_nan_lt_r (inf s) nan h = subst T (sym h) tt
no_nan_lt_r (fin s m e) nan h = subst T (sym h) tt
no_nan_lt_r x (inf s) h = tt
no_nan_lt_r x (fin s m e) h = tt

pub no_nan_eq_l : (x y : Float) → eq x y ≡ true → T (not (is_nan x))
unfolding eq is_nan
no_nan_eq_l nan y h = subst T (sym h) tt
no_nan_eq_l (inf s) y h = tt
no_nan_eq_l (fin s m e) y h = tt

-- ---- a value equals itself exactly if it is no NaN
pub self_equal : (x : Float) → eq x x ≡ not (is_nan x)
unfolding eq is_nan
self_equal nan = refl
self_equal (inf true) = refl
self_equal (inf false) = refl
self_equal (fin s m e) = level_self s (m * up e * down e)
  where
    level_self : (s : Bool) (a : ℕ) → level s a s a ≡ true
    level_self true a = ap (λ (b : Bool). b && true) (eq-eqb a a refl)
    level_self false a = ap (λ (b : Bool). b && true) (eq-eqb a a refl)
