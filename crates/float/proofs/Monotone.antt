-- Sums, differences and products of finite floats of either sign keep the order, rounded, and a factor that is not positive turns it;
-- an overflow is an infinity of that sign.
use mathlib.Core.Path.{◌≡◌, refl, ap}
use Prim.Native.Nat.{ℕ, ◌+◌, ◌*◌, ◌≤◌}
use native.Mathlib.Nat.{add-mul, mul_assoc, mul_comm, mul_left_comm, mul-pos, mul-le-mul_right}
use native.Mathlib.Omega.{arith}
use mathlib.Core.Bool.{Bool, true, false, not}
use lib.IntN.{ℤ, pos}
use lib.Dec.{T, lit<}
use lib.Ieee.{Float, fin, Format, up, down, unlike, round, neg, add, sub, mul, of_int, le}
use lib.Ieee.Fits.{down_pos}
use lib.Ieee.Order.{round_mono}
use lib.Ieee.Positive.{den, den_pos}
use lib.Ieee.Scale.{finite}
use Rattle.float.proofs.Order.{le-neg}
use Rattle.float.proofs.Rounding.{round-not, round-le}
use Rattle.float.proofs.Signed.{pos_part, neg_part, pos_num, neg_num, finite_pair, le_cross, finite_neg, add_is}

-- ---- sums
ruleset sorted = (add-mul, mul_assoc, mul_comm, mul_left_comm)

-- x = (a - b) / p ≤ (a' - b') / p' and y = (e - g) / q ≤ (e' - g') / q', the two sums being (u - v) / (p * q) and (u' - v') / (p' * q')
sums_le : (a b p a' b' p' e g q e' g' q' u v u' v' : ℕ)
    → a * p' + b' * p ≤ a' * p + b * p' → e * q' + g' * q ≤ e' * q + g * q'
    → u + (b * q + g * p) ≡ v + (a * q + e * p) → u' + (b' * q' + g' * p') ≡ v' + (a' * q' + e' * p')
    → u * (p' * q') + v' * (p * q) ≤ u' * (p * q) + v * (p' * q')
sums_le a b p a' b' p' e g q e' g' q' u v u' v' h k s t =
    let H = simp sorted at (mul-le-mul_right (q * q') h) in
    let K = simp sorted at (mul-le-mul_right (p * p') k) in
    let S = simp sorted at (ap (λ (z : ℕ). z * (p' * q')) s) in
    let R = simp sorted at (ap (λ (z : ℕ). z * (p * q)) t) in
    simp sorted (omega arith)

pub add_mono : (f : Format) (x x' y y' : Float) → T (finite x) → T (finite x') → T (finite y) → T (finite y') → T (le x x') → T (le y y')
    → T (le (add f x y) (add f x' y'))
add_mono f x x' y y' a b c d h k =
    let r = add_is f x y a c in
    let s = add_is f x' y' b d in
    rw (r.is, s.is)
    (round-le f r.sign r.size (den x * den y) s.sign s.size (den x' * den y')
    (mul-pos (den_pos x) (den_pos y)) (mul-pos (den_pos x') (den_pos y'))
    (sums_le (pos_num x) (neg_num x) (den x) (pos_num x') (neg_num x') (den x') (pos_num y) (neg_num y) (den y) (pos_num y') (neg_num y') (den y')
    (pos_part r.sign r.size) (neg_part r.sign r.size) (pos_part s.sign s.size) (neg_part s.sign s.size)
    ((le_cross x x' a b).0 h) ((le_cross y y' c d).0 k) r.balance s.balance))

-- x - y grows with x and shrinks as y grows
pub sub_mono : (f : Format) (x x' y y' : Float) → T (finite x) → T (finite x') → T (finite y) → T (finite y') → T (le x x') → T (le y' y)
    → T (le (sub f x y) (sub f x' y'))
unfolding sub
sub_mono f x x' y y' a b c d h k = add_mono f x x' (neg y) (neg y') a b (finite_neg y c) (finite_neg y' d) h (le-neg y' y k)

-- ---- products with a factor that is not negative
mul_nonneg : (f : Format) (s : Bool) (m : ℕ) (e : ℤ) (n : ℕ) (d : ℤ)
    → mul f (fin s m e) (fin false n d) ≡ round f s (m * up e * (n * up d)) (down e * down d)
unfolding mul
mul_nonneg f true m e n d = refl
mul_nonneg f false m e n d = refl

products_le : (s t : Bool) (a p b q n d : ℕ) → pos_part s a * q + neg_part t b * p ≤ pos_part t b * p + neg_part s a * q
    → pos_part s (a * n) * (q * d) + neg_part t (b * n) * (p * d) ≤ pos_part t (b * n) * (p * d) + neg_part s (a * n) * (q * d)
products_le false false a p b q n d h = omega (arith, mul-le-mul_right (n * d) h)
products_le false true a p b q n d h = omega (arith, mul-le-mul_right (n * d) h)
products_le true false a p b q n d h = omega arith
products_le true true a p b q n d h = omega (arith, mul-le-mul_right (n * d) h)

pub mul_mono_left : (f : Format) (x x' : Float) (n : ℕ) (d : ℤ) → T (finite x) → T (finite x') → T (le x x')
    → T (le (mul f x (fin false n d)) (mul f x' (fin false n d)))
mul_mono_left f x x' n d = finite_pair (λ x x'. T (le x x') → T (le (mul f x (fin false n d)) (mul f x' (fin false n d)))) scaled x x'
  where
    scaled : (s : Bool) (m : ℕ) (e : ℤ) (t : Bool) (k : ℕ) (g : ℤ) → T (le (fin s m e) (fin t k g))
        → T (le (mul f (fin s m e) (fin false n d)) (mul f (fin t k g) (fin false n d)))
    scaled s m e t k g h =
        rw (mul_nonneg f s m e n d, mul_nonneg f t k g n d)
        (round-le f s (m * up e * (n * up d)) (down e * down d) t (k * up g * (n * up d)) (down g * down d)
        (mul-pos (down_pos e) (down_pos d)) (mul-pos (down_pos g) (down_pos d))
        (products_le s t (m * up e) (down e) (k * up g) (down g) (n * up d) (down d) ((le_cross (fin s m e) (fin t k g) tt tt).0 h)))

-- ---- products with one that is not positive, which turn the order
unlike_not : (s t : Bool) → unlike s (not t) ≡ not (unlike s t)
unlike_not true true = refl
unlike_not true false = refl
unlike_not false true = refl
unlike_not false false = refl

-- a factor's other sign gives the product its other sign
pub mul-neg : (f : Format) (x y : Float) → T (finite x) → T (finite y) → mul f x (neg y) ≡ neg (mul f x y)
unfolding mul neg
mul-neg f = finite_pair (λ x y. mul f x (neg y) ≡ neg (mul f x y)) (λ s m e t n d. rw (unlike_not s t) (round-not f (unlike s t) _ _))

pub mul_mono_neg : (f : Format) (x x' : Float) (n : ℕ) (d : ℤ) → T (finite x) → T (finite x') → T (le x x')
    → T (le (mul f x' (fin true n d)) (mul f x (fin true n d)))
unfolding neg
mul_mono_neg f x x' n d p q h =
    rw (mul-neg f x (fin false n d) p tt, mul-neg f x' (fin false n d) q tt)
    (le-neg (mul f x (fin false n d)) (mul f x' (fin false n d)) (mul_mono_left f x x' n d p q h))

-- ---- a greater number has no lower float
pub of_nat_mono : (f : Format) (m n : ℕ) → m ≤ n → T (le (of_int f (pos m)) (of_int f (pos n)))
unfolding of_int
of_nat_mono f m n h = round_mono f m 1 n 1 (lit< tt) (lit< tt) (omega arith)
