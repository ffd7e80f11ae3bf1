-- A finite float as a difference of two numbers over a third, x = (pos_num x - neg_num x) / den x, where one of the two numbers is 0.
-- So the order of two floats is that of two numbers, and a sum is one rounding of such a difference.
use mathlib.Core.Path.{◌≡◌, refl}
use mathlib.Core.Logic.{◌↔◌}
use Prim.Native.Nat.{ℕ, ◌+◌, ◌-◌, ◌*◌, ◌≤◌, ◌<◌}
use native.Mathlib.Omega.{arith}
use mathlib.Core.Bool.{Bool, true, false, not, ◌&&◌, ◌||◌, cond}
use lib.IntN.{ℤ}
use lib.Dec.{T, ltb, eqb, ltb→lt, lt→ltb, nltb→le, eqb→eq}
use lib.Ieee.{Float, nan, inf, fin, Format, up, down, below, level, round, neg, sum, add, lt, le}
use lib.Ieee.Fits.{and_i, and_l, and_r, eq→eqb}
use lib.Ieee.Positive.{num, den}
use lib.Ieee.Scale.{finite}
use Rattle.float.specs.Sign.{sign_bit}

-- ---- ±a, negative where s is true: its positive and its negative part
abbrev pub pos_part : Bool → ℕ → ℕ
pos_part false a = a
pos_part true a = 0

abbrev pub neg_part : Bool → ℕ → ℕ
neg_part false a = 0
neg_part true a = a

-- the numerators of a float's two parts
abbrev pub pos_num : Float → ℕ
pos_num x = pos_part (sign_bit x) (num x)

abbrev pub neg_num : Float → ℕ
neg_num x = neg_part (sign_bit x) (num x)

-- of x ≤ y the left side, moved so that nothing is subtracted, and multiplied out: x's positive part and y's negative part
abbrev pub cross : Float → Float → ℕ
cross x y = pos_num x * den y + neg_num y * den x

-- ---- ±a / p against ±b / q
alike : (m n : ℕ) → T (eqb m n && true) ↔ (m ≡ n)
alike m n = ((λ h. eqb→eq m n (and_l (eqb m n) true h)), (λ h. and_i (eqb m n) true (eq→eqb h) tt))

zeros : (m n : ℕ) → T (eqb m n && eqb m 0) ↔ (m + n ≡ 0)
zeros m n = (
  (λ h. omega (arith, eqb→eq m n (and_l (eqb m n) (eqb m 0) h), eqb→eq m 0 (and_r (eqb m n) (eqb m 0) h))),
  (λ h. and_i (eqb m n) (eqb m 0) (eq→eqb {a = m} {b = n} (omega arith)) (eq→eqb {a = m} {b = 0} (omega arith))),
)

module _ (a p b q : ℕ) where
  signed_lt : (s t : Bool) → T (below s (a * q) t (b * p)) ↔ (pos_part s a * q + neg_part t b * p < pos_part t b * p + neg_part s a * q)
  signed_lt false false = omega (arith, ltb→lt, lt→ltb)
  signed_lt false true = ((λ h. absurd h), (λ h. omega arith))
  signed_lt true false = omega (arith, ltb→lt, lt→ltb)
  signed_lt true true = omega (arith, ltb→lt, lt→ltb)

  signed_level : (s t : Bool) → T (level s (a * q) t (b * p)) ↔ (pos_part s a * q + neg_part t b * p ≡ pos_part t b * p + neg_part s a * q)
  signed_level false false = simp alike (omega arith)
  signed_level false true = simp zeros (omega arith)
  signed_level true false = simp zeros (omega arith)
  signed_level true true = simp alike (omega arith)

  signed_le : (s t : Bool)
      → T (below s (a * q) t (b * p) || level s (a * q) t (b * p)) ↔ (pos_part s a * q + neg_part t b * p ≤ pos_part t b * p + neg_part s a * q)
  signed_le s t = below_or_level (below s (a * q) t (b * p)) (level s (a * q) t (b * p)) (signed_lt s t) (signed_level s t)
    where
      below_or_level : (x y : Bool) {m n : ℕ} → T x ↔ (m < n) → T y ↔ (m ≡ n) → T (x || y) ↔ (m ≤ n)
      below_or_level true y strict same = ((λ h. omega (arith, strict.0 h)), (λ h. tt))
      below_or_level false y strict same = ((λ h. omega (arith, same.0 h)), (λ h. same.1 (omega (arith, strict.1))))

-- ---- finite floats
pub finite_pair : (P : Float → Float → Type 0)
    → ((s : Bool) (m : ℕ) (e : ℤ) (t : Bool) (n : ℕ) (d : ℤ) → P (fin s m e) (fin t n d)) → (x y : Float) → T (finite x) → T (finite y) → P x y
finite_pair P f nan y p q = absurd p
finite_pair P f (inf s) y p q = absurd p
finite_pair P f (fin s m e) nan p q = absurd q
finite_pair P f (fin s m e) (inf t) p q = absurd q
finite_pair P f (fin s m e) (fin t n d) p q = f s m e t n d

-- the order of two is that of two numbers
pub lt_cross : (x y : Float) → T (finite x) → T (finite y) → T (lt x y) ↔ (cross x y < cross y x)
unfolding lt
lt_cross = finite_pair (λ x y. T (lt x y) ↔ (cross x y < cross y x)) (λ s m e t n d. signed_lt (m * up e) (down e) (n * up d) (down d) s t)

pub le_cross : (x y : Float) → T (finite x) → T (finite y) → T (le x y) ↔ (cross x y ≤ cross y x)
unfolding le
le_cross = finite_pair (λ x y. T (le x y) ↔ (cross x y ≤ cross y x)) (λ s m e t n d. signed_le (m * up e) (down e) (n * up d) (down d) s t)

-- ---- the other sign exchanges the parts
pos_not : (s : Bool) (a : ℕ) → pos_part (not s) a ≡ neg_part s a
pos_not true a = refl
pos_not false a = refl

neg-not : (s : Bool) (a : ℕ) → neg_part (not s) a ≡ pos_part s a
neg-not true a = refl
neg-not false a = refl

pub pos_num_neg : (x : Float) → pos_num (neg x) ≡ neg_num x
unfolding neg
pos_num_neg nan = refl
pos_num_neg (inf s) = pos_not s 0
pos_num_neg (fin s m e) = pos_not s (m * up e)

pub neg_num_neg : (x : Float) → neg_num (neg x) ≡ pos_num x
unfolding neg
neg_num_neg nan = refl
neg_num_neg (inf s) = neg-not s 0
neg_num_neg (fin s m e) = neg-not s (m * up e)

pub den_neg : (x : Float) → den (neg x) ≡ den x
unfolding neg
den_neg nan = refl
den_neg (inf s) = refl
den_neg (fin s m e) = refl

pub finite_neg : (x : Float) → T (finite x) → T (finite (neg x))
unfolding neg
finite_neg nan h = h
finite_neg (inf s) h = h
finite_neg (fin s m e) h = tt

-- ---- a sum of ±a / p and ±b / q is one rounding of their exact sum
pub record SumIs (f : Format) (v : Float) (s : Bool) (a p : ℕ) (t : Bool) (b q : ℕ) : Type 0 where
  pub sign : Bool
  pub size : ℕ
  pub is : v ≡ round f sign size (p * q)
  pub most : size ≤ a * q + b * p
  pub balance : pos_part sign size + (neg_part s a * q + neg_part t b * p) ≡ neg_part sign size + (pos_part s a * q + pos_part t b * p)

sum_is : (f : Format) (s : Bool) (a p : ℕ) (t : Bool) (b q : ℕ) → SumIs f (sum f s (a * q) t (b * p) (p * q)) s a p t b q
unfolding sum
sum_is f false a p false b q = record { sign = false; size = a * q + b * p; is = refl; most = omega arith; balance = omega arith }
sum_is f true a p true b q = record { sign = true; size = a * q + b * p; is = refl; most = omega arith; balance = omega arith }
sum_is f false a p true b q = go (ltb (a * q) (b * p)) (ltb→lt (a * q) (b * p)) (nltb→le (a * q) (b * p))
  where
    go : (u : Bool) → (T u → a * q < b * p) → (T (not u) → b * p ≤ a * q)
        → SumIs f (cond u (round f true (b * p - a * q) (p * q)) (round f false (a * q - b * p) (p * q))) false a p true b q
    go true h k = let l = h tt in record { sign = true; size = b * p - a * q; is = refl; most = omega arith; balance = omega arith }
    go false h k = let l = k tt in record { sign = false; size = a * q - b * p; is = refl; most = omega arith; balance = omega arith }
sum_is f true a p false b q =
    go (ltb (a * q) (b * p)) (ltb (b * p) (a * q)) (ltb→lt (a * q) (b * p)) (nltb→le (a * q) (b * p)) (nltb→le (b * p) (a * q))
  where
    go : (u v : Bool) → (T u → a * q < b * p) → (T (not u) → b * p ≤ a * q) → (T (not v) → a * q ≤ b * p)
        → SumIs f (cond u (round f false (b * p - a * q) (p * q)) (round f v (a * q - b * p) (p * q))) true a p false b q
    go true v h k g = let l = h tt in record { sign = false; size = b * p - a * q; is = refl; most = omega arith; balance = omega arith }
    go false true h k g = let l = k tt in record { sign = true; size = a * q - b * p; is = refl; most = omega arith; balance = omega arith }
    go false false h k g =
        let l = k tt in
        let m = g tt in
        record { sign = false; size = a * q - b * p; is = refl; most = omega arith; balance = omega arith }

-- x + y before and after its rounding
abbrev pub AddIs : Format → Float → Float → Type 0
AddIs f x y = SumIs f (add f x y) (sign_bit x) (num x) (den x) (sign_bit y) (num y) (den y)

pub add_is : (f : Format) (x y : Float) → T (finite x) → T (finite y) → AddIs f x y
unfolding add
add_is f = finite_pair (AddIs f) (λ s m e t n d. sum_is f s (m * up e) (down e) t (n * up d) (down d))
