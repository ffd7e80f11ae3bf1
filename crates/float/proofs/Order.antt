-- The order of floats, infinities included: where there is no NaN it is total, reflexive and transitive, and `<` is its strict part.
-- Of finite floats it is that of two numbers (`Signed.antt`).
use mathlib.Core.Path.{◌≡◌, refl, sym, ◌∙◌, subst}
use mathlib.Core.Logic.{◌↔◌, inl, inr}
use Prim.Native.Nat.{ℕ, ◌+◌, ◌*◌, ◌≤◌, ◌<◌}
use native.Mathlib.Nat.{mul-le-mul_right, le_of_mul-le-mul_right, mul-pos, eq-zero-or-pos}
use native.Mathlib.Omega.{arith}
use mathlib.Core.Bool.{Bool, true, false, not}
use lib.IntN.{ℤ}
use lib.Dec.{T, not_T}
use lib.Ieee.{Float, nan, inf, fin, up, down, neg, lt, le, is_nan}
use lib.Ieee.Bits.{is_true}
use lib.Ieee.Fits.{up_pos, down_pos}
use lib.Ieee.Positive.{den, den_pos}
use lib.Ieee.Scale.{finite}
use borrow.Author.Tests.{not-true, not-false}
use Rattle.float.proofs.Sign.{no_nan_le_r, no_nan_lt_l, no_nan_lt_r}
use Rattle.float.proofs.Signed.{pos_num, neg_num, lt_cross, le_cross, pos_num_neg, neg_num_neg, den_neg, finite_neg}

-- ---- `<` is the opposite of `≤` turned round
opposite : (p q : Bool) {m n : ℕ} → T p ↔ (n < m) → T q ↔ (m ≤ n) → p ≡ not q
opposite true true f g = absurd (omega (arith, f.0 tt, g.0 tt))
opposite true false f g = refl
opposite false true f g = refl
opposite false false f g = absurd (omega (arith, f.1, g.1))

pub lt_opposite_le : (x y : Float) → T (not (is_nan x)) → T (not (is_nan y)) → lt x y ≡ not (le y x)
unfolding lt le is_nan
lt_opposite_le nan y p q = absurd p
lt_opposite_le (inf s) nan p q = absurd q
lt_opposite_le (inf true) (inf true) p q = refl
lt_opposite_le (inf true) (inf false) p q = refl
lt_opposite_le (inf false) (inf true) p q = refl
lt_opposite_le (inf false) (inf false) p q = refl
lt_opposite_le (inf true) (fin t n d) p q = refl
lt_opposite_le (inf false) (fin t n d) p q = refl
lt_opposite_le (fin s m e) nan p q = absurd q
lt_opposite_le (fin s m e) (inf true) p q = refl
lt_opposite_le (fin s m e) (inf false) p q = refl
lt_opposite_le (fin s m e) (fin t n d) p q =
    let x = fin s m e in
    let y = fin t n d in
    opposite (lt x y) (le y x) (lt_cross x y tt tt) (le_cross y x tt tt)

-- what the two ways out of `if x < y` say
pub le_of_lt : (x y : Float) → lt x y ≡ true → T (le x y)
unfolding le
le_of_lt x y h = rw h tt

pub le_of_not_lt : (x y : Float) → T (not (is_nan x)) → T (not (is_nan y)) → lt x y ≡ false → T (le y x)
le_of_not_lt x y p q h = rw (not-false (le y x) (sym (lt_opposite_le x y p q) ∙ h)) tt

pub le_self : (x : Float) → T (not (is_nan x)) → T (le x x)
le_self x p = go (lt x x) refl
  where
    go : (t : Bool) → lt x x ≡ t → T (le x x)
    go true h = le_of_lt x x h
    go false h = le_of_not_lt x x p p h

-- of two that are not negative it is that of two fractions
pub le_nonneg : (m : ℕ) (e : ℤ) (n : ℕ) (d : ℤ) → T (le (fin false m e) (fin false n d)) ↔ (m * up e * down d ≤ n * up d * down e)
le_nonneg m e n d =
    let order = le_cross (fin false m e) (fin false n d) tt tt in
    ((λ h. omega (arith, order.0 h)), (λ h. order.1 (omega arith)))

-- a value that is not negative, and at most one that is not positive, is 0
pub le_nonpos : (m : ℕ) (e : ℤ) (n : ℕ) (d : ℤ) → T (le (fin false m e) (fin true n d)) → m ≡ 0
le_nonpos m e n d h = elim (eq-zero-or-pos m) [
  | inl z ↦ z
  | inr p ↦ absurd (omega (arith, (le_cross (fin false m e) (fin true n d) tt tt).0 h, mul-pos (mul-pos p (up_pos e)) (down_pos d)))
]

-- ---- transitive
-- x = (a - b) / p, y = (c - d) / q, z = (e - f) / r
through : (a b p c d q e f r : ℕ) → 0 < q → a * q + d * p ≤ c * p + b * q → c * r + f * q ≤ e * q + d * r → a * r + f * p ≤ e * p + b * r
through a b p c d q e f r Q h k = le_of_mul-le-mul_right (omega (arith, mul-le-mul_right r h, mul-le-mul_right p k)) Q

le_finite : (x y z : Float) → T (finite x) → T (finite y) → T (finite z) → T (le x y) → T (le y z) → T (le x z)
le_finite x y z p q r h k =
    (le_cross x z p r).1
    (through (pos_num x) (neg_num x) (den x) (pos_num y) (neg_num y) (den y) (pos_num z) (neg_num z) (den z) (den_pos y)
    ((le_cross x y p q).0 h) ((le_cross y z q r).0 k))

lowest : (x : Float) → T (not (is_nan x)) → T (le (inf true) x)
unfolding le is_nan
lowest nan p = absurd p
lowest (inf true) p = tt
lowest (inf false) p = tt
lowest (fin s m e) p = tt

pub le_transitive : (x y z : Float) → T (le x y) → T (le y z) → T (le x z)
unfolding le
le_transitive nan y z h k = absurd h
le_transitive (inf true) y z h k = lowest z (no_nan_le_r y z (is_true (le y z) k))
le_transitive (inf false) nan z h k = absurd h
le_transitive (inf false) (inf true) z h k = absurd h
le_transitive (inf false) (inf false) z h k = k
le_transitive (inf false) (fin t n d) z h k = absurd h
le_transitive (fin s m e) nan z h k = absurd h
le_transitive (fin s m e) (inf true) z h k = absurd h
le_transitive (fin s m e) (inf false) nan h k = absurd k
le_transitive (fin s m e) (inf false) (inf true) h k = absurd k
le_transitive (fin s m e) (inf false) (inf false) h k = tt
le_transitive (fin s m e) (inf false) (fin u o g) h k = absurd k
le_transitive (fin s m e) (fin t n d) nan h k = absurd k
le_transitive (fin s m e) (fin t n d) (inf true) h k = absurd k
le_transitive (fin s m e) (fin t n d) (inf false) h k = tt
le_transitive (fin s m e) (fin t n d) (fin u o g) h k = le_finite (fin s m e) (fin t n d) (fin u o g) tt tt tt h k

-- ---- the order turns with the sign
turned : (x y : Float) → T (finite x) → T (finite y) → T (le x y) → T (le (neg y) (neg x))
turned x y p q h =
    (le_cross (neg y) (neg x) (finite_neg y q) (finite_neg x p)).1
    (rw (pos_num_neg y, neg_num_neg x, pos_num_neg x, neg_num_neg y, den_neg x, den_neg y) (omega (arith, (le_cross x y p q).0 h)))

pub le-neg : (x y : Float) → T (le x y) → T (le (neg y) (neg x))
unfolding le neg
le-neg nan y h = absurd h
le-neg (inf true) nan h = absurd h
le-neg (inf true) (inf true) h = tt
le-neg (inf true) (inf false) h = tt
le-neg (inf true) (fin t n d) h = tt
le-neg (inf false) nan h = absurd h
le-neg (inf false) (inf true) h = absurd h
le-neg (inf false) (inf false) h = tt
le-neg (inf false) (fin t n d) h = absurd h
le-neg (fin s m e) nan h = absurd h
le-neg (fin s m e) (inf true) h = absurd h
le-neg (fin s m e) (inf false) h = tt
le-neg (fin s m e) (fin t n d) h = turned (fin s m e) (fin t n d) tt tt h

-- ---- strict
pub lt_of_not_le : (x y : Float) → T (not (is_nan x)) → T (not (is_nan y)) → (T (le y x) → ⊥) → lt x y ≡ true
lt_of_not_le x y p q h = lt_opposite_le x y p q ∙ is_true (not (le y x)) (not_T (le y x) h)

pub lt_excludes_le : (x y : Float) → lt x y ≡ true → T (le y x) → ⊥
lt_excludes_le x y h k =
    let p = no_nan_lt_l x y h in
    let q = no_nan_lt_r x y h in
    subst T (not-true (le y x) (sym (lt_opposite_le x y p q) ∙ h)) k

pub lt_self : (x : Float) → lt x x ≡ false
lt_self x = go (lt x x) refl
  where
    go : (t : Bool) → lt x x ≡ t → t ≡ false
    go true h = absurd (lt_excludes_le x x h (le_of_lt x x h))
    go false h = refl

pub lt_through : (x y z : Float) → lt x y ≡ true → lt y z ≡ true → lt x z ≡ true
lt_through x y z h k = lt_of_not_le x z (no_nan_lt_l x y h) (no_nan_lt_r y z k) (λ l. lt_excludes_le y z k (le_transitive z x y l (le_of_lt x y h)))

-- where x < y, any value that is no NaN is above x or below y
pub lt_between : (x y z : Float) → T (not (is_nan z)) → lt x y ≡ true → lt x z ≡ false → lt z y ≡ true
lt_between x y z n h k =
    lt_of_not_le z y n (no_nan_lt_r x y h) (λ l. lt_excludes_le x y h (le_transitive y z x l (le_of_not_lt x z (no_nan_lt_l x y h) n k)))
