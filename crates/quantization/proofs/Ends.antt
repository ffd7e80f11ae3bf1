-- A child's two bytes: at most 255, each grows with the coordinate, and the lower is never above the upper one; and the reciprocal of a scale is an
-- exact power
-- of two.
use Rattle.std.proofs.Common.{◌≡◌, ℕ, suc, ◌+◌, ◌-◌, ◌*◌, ◌/◌, ◌%◌, ◌^◌, ◌<◌, ◌≤◌, Bool, true, false, cond, T, eqb, pos, sym, refl, ap, ◌∙◌, subst}
use Rattle.std.proofs.Common.{inl, inr, zero-le, le_trans, le_of_eq, le_refl, lt_of_lt_of_le, add-zero, le_of_lt, mul-le-mul_right, suc-mul}
use Rattle.std.proofs.Common.{eq-zero-or-pos, lt_of_mul-lt-mul_right, div-add-mod', zero-mul, mul_right_comm, div-mul-le_self}
use Rattle.std.proofs.Common.{le_of_mul-le-mul_right, arith, lit<, eqb→eq}
use native.Mathlib.Nat.{le-suc, min-le_left, min-le_right, le-min}
use native.Mathlib.Nat.{zero-div, zero-mod, lt-div-mul-add}
use lib.Ieee.{Float, nan, inf, fin, binary32, minus, up, down, sub, mul, div, le}
use lib.Ieee.Fits.{down_pos, eq→eqb}
use lib.Ieee.Scale.{finite}
use Rattle.float.specs.Magnitude.{Within}
use Rattle.float.specs.PowerOfTwo.{power}
use Rattle.float.proofs.Magnitude.{sub_within, atmost_finite, atmost_no_nan}
use Rattle.float.proofs.Monotone.{sub_mono, mul_mono_left}
use Rattle.float.proofs.Order.{le_nonneg, le_nonpos, le_self}
use Rattle.float.proofs.PowerOfTwo.{scale_power, power_inverse}
use Rattle.quantization.specs.Ends.{round_down, round_up, clamped_byte, quant_min, quant_max, reciprocal_of, on_grid, child_min, child_max}

-- ---- rounding a fraction
pub down_up : (n d : ℕ) → round_down n d ≤ round_up n d
down_up n d = go (eqb (n % d) 0)
  where
    go : (b : Bool) → n / d ≤ cond b (n / d) (suc (n / d))
    go true = le_refl (n / d)
    go false = le-suc (n / d)

-- rounded up it is the least whole number that is not below n / d
up_reaches : (n d : ℕ) → 0 < d → n ≤ round_up n d * d
up_reaches n d D = go (eqb (n % d) 0) (eqb→eq (n % d) 0)
  where
    go : (b : Bool) → (T b → n % d ≡ 0) → n ≤ cond b (n / d) (suc (n / d)) * d
    go true f = le_of_eq (sym (div-add-mod' n d) ∙ ap (λ (r : ℕ). n / d * d + r) (f tt) ∙ add-zero (n / d * d))
    go false f = le_trans (le_of_lt (lt-div-mul-add D)) (le_of_eq (sym (suc-mul (n / d) d)))

up_least : (n d k : ℕ) → 0 < d → n ≤ k * d → round_up n d ≤ k
up_least n d k D h = go (eqb (n % d) 0) (λ (z : n % d ≡ 0). eq→eqb z)
  where
    more : (u r n : ℕ) → u + r ≡ n → 0 < r → u < n
    more u r n e p = omega arith

    go : (b : Bool) → (n % d ≡ 0 → T b) → cond b (n / d) (suc (n / d)) ≤ k
    go true f = le_of_mul-le-mul_right (le_trans (div-mul-le_self n d) h) D
    go false f = elim (eq-zero-or-pos (n % d)) [
      | inl z ↦ absurd (f z)
      | inr p ↦ lt_of_mul-lt-mul_right d (lt_of_lt_of_le (more (n / d * d) (n % d) n (div-add-mod' n d) p) h)
    ]

-- a rounding that keeps zero and the order of fractions
pub record Rounds (r : ℕ → ℕ → ℕ) : Type 0 where
  pub none : (d : ℕ) → r 0 d ≡ 0
  pub order : (n d m c : ℕ) → 0 < d → 0 < c → n * c ≤ m * d → r n d ≤ r m c

pub rounds_up : Rounds round_up
rounds_up = record {
  none = λ d. simp (zero-mod, zero-div) refl;
  order = λ n d m c D C h. up_least n d (round_up m c) D
      (le_of_mul-le-mul_right (le_trans h (le_trans (mul-le-mul_right d (up_reaches m c C)) (le_of_eq (mul_right_comm (round_up m c) c d)))) C);
}

-- ---- bytes
pub byte_limit : (r : ℕ → ℕ → ℕ) (x : Float) → clamped_byte r x ≤ 255
unfolding clamped_byte
byte_limit r nan = zero-le
byte_limit r (inf true) = zero-le
byte_limit r (inf false) = le_refl 255
byte_limit r (fin true m e) = zero-le
byte_limit r (fin false m e) = min-le_right (r (m * up e) (down e)) 255

pub byte_mono : (r : ℕ → ℕ → ℕ) → Rounds r → (x y : Float) → T (le x y) → clamped_byte r x ≤ clamped_byte r y
unfolding clamped_byte
byte_mono r g nan y h = zero-le
byte_mono r g (inf true) y h = zero-le
byte_mono r g (inf false) nan h = absurd (unfold le in h)
byte_mono r g (inf false) (inf true) h = absurd (unfold le in h)
byte_mono r g (inf false) (inf false) h = le_refl 255
byte_mono r g (inf false) (fin s n d) h = absurd (unfold le in h)
byte_mono r g (fin true m e) y h = zero-le
byte_mono r g (fin false m e) nan h = absurd (unfold le in h)
byte_mono r g (fin false m e) (inf true) h = absurd (unfold le in h)
byte_mono r g (fin false m e) (inf false) h = min-le_right (r (m * up e) (down e)) 255
byte_mono r g (fin false m e) (fin true n d) h = rw (le_nonpos m e n d h, zero-mul (up e), g.none (down e)) zero-le
byte_mono r g (fin false m e) (fin false n d) h =
    let k : r (m * up e) (down e) ≤ r (n * up d) (down d) =
    g.order (m * up e) (down e) (n * up d) (down d) (down_pos e) (down_pos d) ((le_nonneg m e n d).0 h) in
    le-min (le_trans (min-le_left (r (m * up e) (down e)) 255) k) (min-le_right (r (m * up e) (down e)) 255)

byte_down_up : (x : Float) → quant_min x ≤ quant_max x
unfolding clamped_byte
byte_down_up nan = zero-le
byte_down_up (inf s) = le_refl (cond s 0 255)
byte_down_up (fin true m e) = zero-le
byte_down_up (fin false m e) = le-min (le_trans (min-le_left (m * up e / down e) 255) (down_up (m * up e) (down e)))
    (min-le_right (m * up e / down e) 255)

-- ---- 1 / 2 ^ (e - 127) is 2 ^ (127 - e)
pub reciprocal_power : (e : ℕ) → 0 < e → e < 255 → reciprocal_of e ≡ power (254 - e)
unfolding reciprocal_of
reciprocal_power e l h = ap (div binary32 (fin false 1 (pos 0))) (scale_power e l h) ∙ power_inverse e l h

-- ---- a child's bytes
pub min-le-max : (x y : Float) → T (le x y) → quant_min x ≤ quant_max y
min-le-max x y h = le_trans (byte_down_up x) (byte_mono round_up rounds_up x y h)

grid_mono : (p : Float) (e : ℕ) (x y : Float) → 0 < e → e < 255 → Within 40 p → Within 40 x → Within 40 y → T (le x y)
    → T (le (on_grid p e x) (on_grid p e y))
unfolding on_grid
grid_mono p e x y l u P X Y h =
    subst (λ (r : Float). T (le (mul binary32 (sub binary32 x p) r) (mul binary32 (sub binary32 y p) r))) (sym (reciprocal_power e l u))
    (mul_mono_left binary32 (sub binary32 x p) (sub binary32 y p) 1 (minus (254 - e) 127) (difference x X) (difference y Y)
    (sub_mono binary32 x y p p (atmost_finite x (2 ^ 40) 1 X) (atmost_finite y (2 ^ 40) 1 Y) (atmost_finite p (2 ^ 40) 1 P)
    (atmost_finite p (2 ^ 40) 1 P)
    h (le_self p (atmost_no_nan p (2 ^ 40) 1 P))))
  where
    difference : (v : Float) → Within 40 v → T (finite (sub binary32 v p))
    difference v w = atmost_finite (sub binary32 v p) (2 ^ 41) 1 (sub_within binary32 40 v p (lit< tt) w P)

-- where the child's ends are in order, so are its bytes, inside its parent or not
pub child_order : (p : Float) (e : ℕ) (lo hi : Float) → 0 < e → e < 255 → Within 40 p → Within 40 lo → Within 40 hi → T (le lo hi)
    → child_min p e lo ≤ child_max p e hi
unfolding child_min child_max
child_order p e lo hi l u P L H h = min-le-max (on_grid p e lo) (on_grid p e hi) (grid_mono p e lo hi l u P L H h)

pub child_min_limit : (p : Float) (e : ℕ) (lo : Float) → child_min p e lo ≤ 255
unfolding child_min
child_min_limit p e lo = byte_limit round_down (on_grid p e lo)

pub child_max_limit : (p : Float) (e : ℕ) (hi : Float) → child_max p e hi ≤ 255
unfolding child_max
child_max_limit p e hi = byte_limit round_up (on_grid p e hi)
