-- The steps of `quantize_min` and `quantize_max` on plain values: the whole part below 255, one more where a fraction is left, and the two ends of
-- the range.
use Rattle.std.proofs.Common.{◌≡◌, ℕ, suc, ◌+◌, ◌*◌, ◌/◌, ◌%◌, ◌^◌, ◌<◌, ◌≤◌, min, Bool, true, false, cond, not, T, eqb, ltb, pos, sym, refl, ap}
use Rattle.std.proofs.Common.{◌∙◌, subst, true≢false, le_trans, le_of_eq, lt_of_lt_of_le, lt_of_le_of_lt, le_of_lt, mul-le-mul_right}
use Rattle.std.proofs.Common.{div-lt_iff_lt-mul, one-mul, lt_of_not-le, div-add-mod', le-div_iff_mul-le, zero-mul, mul-one, mul_right_comm}
use Rattle.std.proofs.Common.{not-le_of_lt, le_of_mul-le-mul_right, arith, lit≤, eqb→eq, ltb→lt, lt→ltb, nltb→le}
use native.Mathlib.Nat.{min-eq_left, min-eq_right, min-le_left}
use native.Mathlib.Nat.{zero-div}
use lib.Dec.{not_T}
use lib.Ieee.{Float, nan, inf, fin, binary32, up, down, lt, le, of_int, to_unsigned, is_nan}
use lib.Ieee.Fits.{down_pos, eq→eqb}
use lib.Ieee.Bits.{is_true, cond_no}
use lib.Ieee.Exact.{HasValue}
use lib.Ieee.Back.{round_whole}
use lib.Ieee.Positive.{above_of_le}
use Rattle.float.proofs.Order.{le_nonneg, le_of_not_lt}
use Rattle.quantization.proofs.Ends.{down_up}
use Rattle.quantization.specs.Ends.{round_up, clamped_byte, quant_min, quant_max}

yes : (b : Bool) → b ≡ true → T b
yes b e = subst T (sym e) tt

no : (b : Bool) → b ≡ false → T (not b)
no b e = subst (λ (t : Bool). T (not t)) (sym e) tt

-- ---- what the two tests of `quantize_min` leave: 0 ≤ x < 255
abbrev pub Inside : Float → Type 0
Inside nan = ⊥
Inside (inf s) = ⊥
Inside (fin true m e) = ⊥
Inside (fin false m e) = m * up e < 255 * down e

pub inside : (x : Float) → lt (fin false 0 (pos 0)) x ≡ true → le (fin false 255 (pos 0)) x ≡ false → Inside x
unfolding lt le
inside nan p q = absurd (true≢false (sym p))
inside (inf true) p q = absurd (true≢false (sym p))
inside (inf false) p q = absurd (true≢false q)
inside (fin true m e) p q = absurd (true≢false (sym p))
inside (fin false m e) p q =
    lt_of_not-le (λ (h : 255 * down e ≤ m * up e). subst T q ((le_nonneg 255 (pos 0) m e).1 (le_trans h (le_of_eq (sym (mul-one (m * up e)))))))

-- what the truncation asks there, and what it gives
pub above_minus_one : (x : Float) → Inside x → T (lt (fin true 1 (pos 0)) x)
unfolding lt
above_minus_one nan h = absurd h
above_minus_one (inf s) h = absurd h
above_minus_one (fin true m e) h = absurd h
above_minus_one (fin false m e) h = lt→ltb 0 (1 * 1 * down e + m * up e * 1)
    (more (down e) (1 * 1 * down e) (m * up e * 1) (down_pos e) (one-mul (down e)))
  where
    more : (d u v : ℕ) → 0 < d → u ≡ d → 0 < u + v
    more d u v p q = omega arith

pub below_two_64 : (x : Float) → Inside x → T (lt x (fin false 1 (pos 64)))
unfolding lt
below_two_64 nan h = absurd h
below_two_64 (inf s) h = absurd h
below_two_64 (fin true m e) h = absurd h
below_two_64 (fin false m e) h =
    lt→ltb (m * up e * 1) (1 * 2 ^ 64 * down e) (lt_of_le_of_lt (le_of_eq (mul-one (m * up e)))
    (lt_of_lt_of_le h (mul-le-mul_right (down e) (lit≤ tt))))

pub whole_part : (x : Float) → Inside x → (to_unsigned 64 x ≡ quant_min x) × (quant_min x < 255)
unfolding to_unsigned clamped_byte
whole_part nan h = absurd h
whole_part (inf s) h = absurd h
whole_part (fin true m e) h = absurd h
whole_part (fin false m e) h =
    let w = m * up e / down e in
    let l : w < 255 = (div-lt_iff_lt-mul (down_pos e)).1 h in
    (min-eq_left (le_of_lt (lt_of_lt_of_le l (lit≤ tt))) ∙ sym (min-eq_left (le_of_lt l)), lt_of_le_of_lt (min-le_left w 255) l)

-- ---- the other two ways out
pub at_the_top : (x : Float) → le (fin false 255 (pos 0)) x ≡ true → 255 ≡ quant_min x
unfolding le clamped_byte
at_the_top nan p = absurd (true≢false (sym p))
at_the_top (inf true) p = absurd (true≢false (sym p))
at_the_top (inf false) p = refl
at_the_top (fin true m e) p = absurd (above_of_le (fin false 255 (pos 0)) (fin true m e) tt (yes (le (fin false 255 (pos 0)) (fin true m e)) p))
at_the_top (fin false m e) p =
    let h : 255 * down e ≤ m * up e * 1 = (le_nonneg 255 (pos 0) m e).0 (yes (le (fin false 255 (pos 0)) (fin false m e)) p) in
    sym (min-eq_right ((le-div_iff_mul-le (down_pos e)).1 (le_trans h (le_of_eq (mul-one (m * up e))))))

pub at_the_bottom : (x : Float) → lt (fin false 0 (pos 0)) x ≡ false → 0 ≡ quant_min x
unfolding clamped_byte is_nan
at_the_bottom nan p = refl
at_the_bottom (inf true) p = refl
at_the_bottom (inf false) p = absurd (true≢false (unfold lt in p))
at_the_bottom (fin true m e) p = refl
at_the_bottom (fin false m e) p =
    let h : m * up e * 1 ≤ 0 * 1 * down e = (le_nonneg m e 0 (pos 0)).0 (le_of_not_lt (fin false 0 (pos 0)) (fin false m e) tt tt p) in
    let z : m * up e ≡ 0 = none (m * up e) (le_trans (le_of_eq (sym (mul-one (m * up e)))) (le_trans h (le_of_eq (zero-mul (down e))))) in
    sym (ap (λ (n : ℕ). min (n / down e) 255) z ∙ ap (λ (n : ℕ). min n 255) (zero-div (down e)))
  where
    none : (w : ℕ) → w ≤ 0 → w ≡ 0
    none w h = omega arith

-- ---- t is the whole part, below 255: one more if t < x, else the same
compares : (n u d g t : ℕ) → 0 < g → n * 1 ≡ t * g → (n * d < u * g → t * d < u) × (u * g ≤ n * d → u ≤ t * d)
compares n u d g t p e =
    let s : n * d ≡ t * d * g = ap (λ (z : ℕ). z * d) (sym (mul-one n) ∙ e) ∙ mul_right_comm t g d in (
      (λ h. lt_of_not-le (λ (k : u ≤ t * d). not-le_of_lt h (le_trans (mul-le-mul_right g k) (le_of_eq (sym s))))),
      (λ h. le_of_mul-le-mul_right (le_trans h (le_of_eq s)) p),
    )

capped : (w t : ℕ) → t ≡ min w 255 → t < 255 → t ≡ w
capped w t h l = omega arith

up_round : (n d : ℕ) → n / d * d < n → round_up n d ≡ suc (n / d)
up_round n d h = cond_no (eqb (n % d) 0) (n / d) (suc (n / d))
    (not_T (eqb (n % d) 0) (λ (t : T (eqb (n % d) 0)). clash (n / d * d) (n % d) n (div-add-mod' n d) (eqb→eq (n % d) 0 t) h))
  where
    clash : (u r n : ℕ) → u + r ≡ n → r ≡ 0 → u < n → ⊥
    clash u r n a b c = omega arith

no_round : (n d : ℕ) → n ≤ n / d * d → round_up n d ≡ n / d
no_round n d h = ap (λ (b : Bool). cond b (n / d) (suc (n / d))) (is_true (eqb (n % d) 0) (eq→eqb (none (n / d * d) (n % d) n (div-add-mod' n d) h)))
  where
    none : (u r n : ℕ) → u + r ≡ n → n ≤ u → r ≡ 0
    none u r n a b = omega arith

value : (t : ℕ) → t < 255 → HasValue (of_int binary32 (pos t)) false t 1
unfolding of_int
value t l = round_whole binary32 false t (le_trans (le_of_lt l) (lit≤ tt))

one_more_at : (t : ℕ) (x y : Float) → HasValue y false t 1 → t ≡ quant_min x → t < 255 → lt y x ≡ true → t + 1 ≡ quant_max x
unfolding lt clamped_byte
one_more_at t x nan v h l p = absurd v
one_more_at t x (inf s) v h l p = absurd v
one_more_at t x (fin true n d) v h l p = absurd (true≢false v.0)
one_more_at t nan (fin false n d) v h l p = absurd (true≢false (sym p))
one_more_at t (inf true) (fin false n d) v h l p = absurd (true≢false (sym p))
one_more_at t (inf false) (fin false n d) v h l p = absurd (clash t h l)
  where
    clash : (t : ℕ) → t ≡ 255 → t < 255 → ⊥
    clash t a b = omega arith
one_more_at t (fin true m e) (fin false n d) v h l p = absurd (true≢false (sym p))
one_more_at t (fin false m e) (fin false n d) v h l p =
    let w = m * up e / down e in
    let q : t ≡ w = capped w t h l in
    let k : t * down e < m * up e = (compares (n * up d) (m * up e) (down e) (down d) t (down_pos d) v.1).0
    (ltb→lt (n * up d * down e) (m * up e * down d) (yes (ltb (n * up d * down e) (m * up e * down d)) p)) in
    let r : round_up (m * up e) (down e) ≡ suc w = up_round (m * up e) (down e) (subst (λ (z : ℕ). z * down e < m * up e) q k) in
    next t w (min (round_up (m * up e) (down e)) 255) q (ap (λ (z : ℕ). min z 255) r ∙ min-eq_left (subst (λ (z : ℕ). z < 255) q l))
  where
    next : (t w z : ℕ) → t ≡ w → z ≡ suc w → t + 1 ≡ z
    next t w z a b = omega arith

pub one_more : (x : Float) (t : ℕ) → t ≡ quant_min x → t < 255 → lt (of_int binary32 (pos t)) x ≡ true → t + 1 ≡ quant_max x
one_more x t h l p = one_more_at t x (of_int binary32 (pos t)) (value t l) h l p

the_same_at : (t : ℕ) (x y : Float) → HasValue y false t 1 → t ≡ quant_min x → t < 255 → lt y x ≡ false → t ≡ quant_max x
unfolding lt clamped_byte
the_same_at t x nan v h l p = absurd v
the_same_at t x (inf s) v h l p = absurd v
the_same_at t x (fin true n d) v h l p = absurd (true≢false v.0)
the_same_at t nan (fin false n d) v h l p = h
the_same_at t (inf s) (fin false n d) v h l p = h
the_same_at t (fin true m e) (fin false n d) v h l p = h
the_same_at t (fin false m e) (fin false n d) v h l p =
    let w = m * up e / down e in
    let q : t ≡ w = capped w t h l in
    let k : m * up e ≤ t * down e = (compares (n * up d) (m * up e) (down e) (down d) t (down_pos d) v.1).1
    (nltb→le (n * up d * down e) (m * up e * down d) (no (ltb (n * up d * down e) (m * up e * down d)) p)) in
    let r : round_up (m * up e) (down e) ≡ w = no_round (m * up e) (down e) (subst (λ (z : ℕ). m * up e ≤ z * down e) q k) in
    h ∙ ap (λ (z : ℕ). min z 255) (sym r)

pub the_same : (x : Float) (t : ℕ) → t ≡ quant_min x → t < 255 → lt (of_int binary32 (pos t)) x ≡ false → t ≡ quant_max x
the_same x t h l p = the_same_at t x (of_int binary32 (pos t)) (value t l) h l p

pub the_top : (x : Float) (t : ℕ) → t ≡ quant_min x → 255 ≤ t → t ≡ quant_max x
unfolding clamped_byte
the_top nan t h l = h
the_top (inf s) t h l = h
the_top (fin true m e) t h l = h
the_top (fin false m e) t h l =
    let w = m * up e / down e in
    let g : 255 ≤ w = le_trans l (le_trans (le_of_eq h) (min-le_left w 255)) in
    h ∙ min-eq_right g ∙ sym (min-eq_right (le_trans g (down_up (m * up e) (down e))))
