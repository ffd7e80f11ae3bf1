-- Bounds on floats: a sum, a difference, a product and a quotient keep a bound that the format holds, since rounding keeps it.
use mathlib.Core.Path.{◌≡◌, refl, subst}
use Prim.Native.Nat.{ℕ, zero, suc, ◌+◌, ◌*◌, ◌^◌, ◌≤◌, ◌<◌}
use native.Mathlib.Nat.{lt_of_not-le, mul-le-mul_right, mul-le-mul, mul-pos, zero-lt-suc, add-mul}
use native.Mathlib.Omega.{arith}
use native.Mathlib.Decide.{dec_le}
use mathlib.Core.Bool.{Bool, true, false, not, ◌&&◌}
use lib.IntN.{ℤ}
use lib.Dec.{T, eqb-suc-zero, lit<}
use lib.Pow.{pow-add}
use lib.Ieee.{Float, nan, inf, fin, Format, binary32, emax, up, down, unlike, round, neg, add, sub, mul, div, le, is_nan}
use lib.Ieee.Fits.{up_pos, down_pos, and_i}
use lib.Ieee.Positive.{num, den, den_pos, through}
use lib.Ieee.Scale.{finite}
use Rattle.float.specs.Magnitude.{AtMost, Upto, Held, Within, AtLeast}
use Rattle.float.specs.Sign.{sign_bit}
use Rattle.float.proofs.Held.{held_up, held-pow}
use Rattle.float.proofs.Rounding.{neg_atmost, round_atmost, round-upto}
use Rattle.float.proofs.Signed.{pos_part, neg_part, pos_num, neg_num, cross, finite_pair, le_cross}
use Rattle.float.proofs.Signed.{AddIs, add_is, pos_num_neg, neg_num_neg, den_neg}

-- ---- a bound of any kind makes a float finite
pub atmost_finite : (x : Float) (a c : ℕ) → AtMost x a c → T (finite x)
atmost_finite nan a c p = p
atmost_finite (inf s) a c p = p
atmost_finite (fin s m e) a c p = tt

pub atmost_no_nan : (x : Float) (a c : ℕ) → AtMost x a c → T (not (is_nan x))
unfolding is_nan
atmost_no_nan nan a c p = p
atmost_no_nan (inf s) a c p = tt
atmost_no_nan (fin s m e) a c p = tt

-- the size of a bounded float, as a fraction
atmost_size : (x : Float) (a c : ℕ) → AtMost x a c → num x * c ≤ a * den x
atmost_size nan a c p = absurd p
atmost_size (inf s) a c p = absurd p
atmost_size (fin s m e) a c p = p

upto_atmost : (x : Float) (a c : ℕ) → Upto x a c → AtMost x a c
upto_atmost nan a c p = p
upto_atmost (inf s) a c p = p
upto_atmost (fin false m e) a c p = p
upto_atmost (fin true m e) a c p = rw p (omega arith)

upto_neg_num : (x : Float) (a c : ℕ) → Upto x a c → neg_num x ≡ 0
upto_neg_num nan a c p = absurd p
upto_neg_num (inf s) a c p = absurd p
upto_neg_num (fin false m e) a c p = refl
upto_neg_num (fin true m e) a c p = rw p (omega arith)

-- ---- sums and differences
module _ (f : Format) (x y : Float) (a b c : ℕ) (C : 0 < c) (h : Held f (a + b) c) (p : AtMost x a c) (q : AtMost y b c) where
  exact : AddIs f x y
  exact = add_is f x y (atmost_finite x a c p) (atmost_finite y b c q)

  bound : exact.size * c ≤ (a + b) * (den x * den y)
  bound =
      omega (arith, mul-le-mul_right c exact.most, mul-le-mul_right (den y) (atmost_size x a c p), mul-le-mul_right (den x) (atmost_size y b c q))

  add_atmost : AtMost (add f x y) (a + b) c
  add_atmost = rw exact.is (round_atmost f exact.sign exact.size (den x * den y) (a + b) c (mul-pos (den_pos x) (den_pos y)) C h bound)

  -- a sum whose parts below zero are not the larger
  sum-upto : neg_num x * den y + neg_num y * den x ≤ pos_num x * den y + pos_num y * den x → Upto (add f x y) (a + b) c
  sum-upto l =
      rw exact.is (round-upto f exact.sign exact.size (den x * den y) (a + b) c (none exact.sign exact.size exact.balance)
      (mul-pos (den_pos x) (den_pos y)) C h bound)
    where
      none : (u : Bool) (n : ℕ)
          → pos_part u n + (neg_num x * den y + neg_num y * den x) ≡ neg_part u n + (pos_num x * den y + pos_num y * den x) → T u → n ≡ 0
      none true n e t = omega (arith, e, l)
      none false n e t = absurd t

pub add-upto : (f : Format) (x y : Float) (a b c : ℕ) → 0 < c → Held f (a + b) c → Upto x a c → Upto y b c → Upto (add f x y) (a + b) c
add-upto f x y a b c C h p q =
    sum-upto f x y a b c C h (upto_atmost x a c p) (upto_atmost y b c q) (rw (upto_neg_num x a c p, upto_neg_num y b c q) (omega arith))

-- x - y for y ≤ x is not negative
pub sub-upto : (f : Format) (x y : Float) (a b c : ℕ) → 0 < c → Held f (a + b) c → AtMost x a c → AtMost y b c → T (le y x)
    → Upto (sub f x y) (a + b) c
unfolding sub
sub-upto f x y a b c C h p q l =
    sum-upto f x (neg y) a b c C h p (neg_atmost y b c q)
    (rw (pos_num_neg y, neg_num_neg y, den_neg y) (omega (arith, (le_cross y x (atmost_finite y b c q) (atmost_finite x a c p)).0 l)))

-- ---- products
abbrev MulIs : Format → Float → Float → Type 0
MulIs f x y = mul f x y ≡ round f (unlike (sign_bit x) (sign_bit y)) (num x * num y) (den x * den y)

mul_is : (f : Format) (x y : Float) → T (finite x) → T (finite y) → MulIs f x y
unfolding mul
mul_is f = finite_pair (MulIs f) (λ s m e t n g. refl)

module _ (f : Format) (x y : Float) (a c b d : ℕ) (C : 0 < c) (D : 0 < d) (h : Held f (a * b) (c * d)) (p : AtMost x a c) (q : AtMost y b d) where
  product : mul f x y ≡ round f (unlike (sign_bit x) (sign_bit y)) (num x * num y) (den x * den y)
  product = mul_is f x y (atmost_finite x a c p) (atmost_finite y b d q)

  product_bound : num x * num y * (c * d) ≤ a * b * (den x * den y)
  product_bound = omega (arith, mul-le-mul (atmost_size x a c p) (atmost_size y b d q))

  pub mul_atmost : AtMost (mul f x y) (a * b) (c * d)
  mul_atmost =
      rw product (round_atmost f (unlike (sign_bit x) (sign_bit y)) (num x * num y) (den x * den y) (a * b) (c * d)
      (mul-pos (den_pos x) (den_pos y)) (mul-pos C D) h product_bound)

pub mul-upto : (f : Format) (x y : Float) (a c b d : ℕ) → 0 < c → 0 < d → Held f (a * b) (c * d) → Upto x a c → Upto y b d
    → Upto (mul f x y) (a * b) (c * d)
mul-upto f x y a c b d C D h p q =
    let P = upto_atmost x a c p in
    let Q = upto_atmost y b d q in
    rw (product f x y a c b d C D h P Q)
    (round-upto f (unlike (sign_bit x) (sign_bit y)) (num x * num y) (den x * den y) (a * b) (c * d)
    (none (sign_bit x) (sign_bit y) (num x) (num y) (upto_neg_num x a c p) (upto_neg_num y b d q))
    (mul-pos (den_pos x) (den_pos y)) (mul-pos C D) h (product_bound f x y a c b d C D h P Q))
  where
    none : (s t : Bool) (m n : ℕ) → neg_part s m ≡ 0 → neg_part t n ≡ 0 → T (unlike s t) → m * n ≡ 0
    none false false m n h k u = absurd u
    none false true m n h k u = rw k (omega arith)
    none true false m n h k u = rw h (omega arith)
    none true true m n h k u = absurd u

-- ---- quotients: |x| ≤ a / c and |y| ≥ b / d, b above 0
pub div_atmost : (f : Format) (x y : Float) (a c b d : ℕ) → 0 < c → 0 < b → Held f (a * d) (c * b) → AtMost x a c → AtLeast y b d
    → AtMost (div f x y) (a * d) (c * b)
unfolding div
div_atmost f nan y a c b d C B h p q = p
div_atmost f (inf s) y a c b d C B h p q = absurd p
div_atmost f (fin s m e) nan a c b d C B h p q = q
div_atmost f (fin s m e) (inf t) a c b d C B h p q = omega arith
div_atmost f (fin s m e) (fin t zero g) a c b d C B h p q = absurd (omega (arith, q, mul-pos B (down_pos g)))
div_atmost f (fin s m e) (fin t (suc n) g) a c b d C B h p q =
    rw (eqb-suc-zero n)
    (round_atmost f (unlike s t) (m * up e * down g) (suc n * up g * down e) (a * d) (c * b)
    (mul-pos (mul-pos (zero-lt-suc n) (up_pos g)) (down_pos e)) (mul-pos C B) h (turned (m * up e) (down e) (suc n * up g) (down g) p q))
  where
    turned : (x u y v : ℕ) → x * c ≤ a * u → b * v ≤ y * d → x * v * (c * b) ≤ a * d * (y * u)
    turned x u y v h k = omega (arith, mul-le-mul h k)

-- ---- a larger bound
pub atmost_le : (x : Float) (a c b d : ℕ) → 0 < c → a * d ≤ b * c → AtMost x a c → AtMost x b d
atmost_le nan a c b d C h p = p
atmost_le (inf s) a c b d C h p = p
atmost_le (fin s m e) a c b d C h p = through (m * up e) a b (down e) c d C p h

pub upto_le : (x : Float) (a c b d : ℕ) → 0 < c → a * d ≤ b * c → Upto x a c → Upto x b d
upto_le nan a c b d C h p = p
upto_le (inf s) a c b d C h p = p
upto_le (fin false m e) a c b d C h p = through (m * up e) a b (down e) c d C p h
upto_le (fin true m e) a c b d C h p = p

-- ---- tests against -b and b, where b = n * 2 ^ d
pub atmost_of_tests : (x : Float) (n : ℕ) (d : ℤ) → T (le (fin true n d) x) → T (le x (fin false n d)) → AtMost x (n * up d) (down d)
unfolding le
atmost_of_tests nan n d p q = q
atmost_of_tests (inf true) n d p q = p
atmost_of_tests (inf false) n d p q = q
atmost_of_tests (fin false m e) n d p q = omega (arith, (le_cross (fin false m e) (fin false n d) tt tt).0 q)
atmost_of_tests (fin true m e) n d p q = omega (arith, (le_cross (fin true n d) (fin true m e) tt tt).0 p)

pub atmost_tests : (x : Float) (n : ℕ) (d : ℤ) → AtMost x (n * up d) (down d) → T (le (fin true n d) x) × T (le x (fin false n d))
atmost_tests nan n d h = absurd h
atmost_tests (inf s) n d h = absurd h
atmost_tests (fin s m e) n d h = ((le_cross (fin true n d) (fin s m e) tt tt).1 (least s), (le_cross (fin s m e) (fin false n d) tt tt).1 (most s))
  where
    least : (s : Bool) → cross (fin true n d) (fin s m e) ≤ cross (fin s m e) (fin true n d)
    least false = omega arith
    least true = omega (arith, h)

    most : (s : Bool) → cross (fin s m e) (fin false n d) ≤ cross (fin false n d) (fin s m e)
    most false = omega (arith, h)
    most true = omega arith

-- the two tests did not both pass
pub atleast_of_test : (x : Float) (n : ℕ) (d : ℤ) → T (not (is_nan x)) → (le (fin true n d) x && le x (fin false n d)) ≡ false
    → AtLeast x (n * up d) (down d)
unfolding is_nan
atleast_of_test nan n d p h = p
atleast_of_test (inf s) n d p h = tt
atleast_of_test (fin s m e) n d p h = elim (dec_le (n * up d * down e) (m * up e * down d)) [
  | yes l ↦ l
  | no g ↦
      let t = atmost_tests (fin s m e) n d (omega (arith, lt_of_not-le g)) in
      absurd (subst T h (and_i (le (fin true n d) (fin s m e)) (le (fin s m e) (fin false n d)) t.0 t.1))
]

-- ---- powers of two
pub add_within : (f : Format) (k : ℕ) (x y : Float) → k < emax f → Within k x → Within k y → Within (suc k) (add f x y)
add_within f k x y h p q =
    let e : 2 ^ k + 2 ^ k ≡ 2 ^ suc k = omega arith in
    rw e at (add_atmost f x y (2 ^ k) (2 ^ k) 1 (lit< tt) (rw e (held-pow f (suc k) h)) p q)

pub sub_within : (f : Format) (k : ℕ) (x y : Float) → k < emax f → Within k x → Within k y → Within (suc k) (sub f x y)
unfolding sub
sub_within f k x y h p q = add_within f k x (neg y) h p (neg_atmost y (2 ^ k) 1 q)

pub mul_within : (f : Format) (j k : ℕ) (x y : Float) → j + k ≤ emax f → Within j x → Within k y → Within (j + k) (mul f x y)
mul_within f j k x y h p q =
    rw (pow-add 2 j k) (mul_atmost f x y (2 ^ j) 1 (2 ^ k) 1 (lit< tt) (lit< tt) (rw (pow-add 2 j k) at (held-pow f (j + k) h)) p q)

-- ---- a total of costs: 0 ≤ x ≤ m * 2 ^ k and 0 ≤ y ≤ n * 2 ^ k
pub add_costs : (k m n : ℕ) (x y : Float) → m + n < 2 ^ 24 → k ≤ 104 → Upto x (m * 2 ^ k) 1 → Upto y (n * 2 ^ k) 1
    → Upto (add binary32 x y) ((m + n) * 2 ^ k) 1
add_costs k m n x y h l p q =
    rw add-mul (add-upto binary32 x y (m * 2 ^ k) (n * 2 ^ k) 1 (lit< tt) (rw add-mul at (held_up binary32 (m + n) k h (omega arith))) p q)
