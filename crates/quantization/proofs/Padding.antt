-- The Rust takes a padding of 0.0 from a child's lower end and adds it to the upper one: neither alters a byte.
use Rattle.std.proofs.Common.{◌≡◌, ℕ, ◌*◌, ◌^◌, ◌<◌, min, Bool, true, false, pos, sym, refl, ap, ◌∙◌, inl, inr, mul-pos, zero-mul, pow_pos}
use native.Mathlib.Nat.{eq_of_mul-eq-mul_right}
use lib.Ieee.{Float, nan, inf, fin, binary32, up, down, round, unlike, add, sub, mul}
use lib.Ieee.Exact.{HasValue, round_exact}
use lib.Ieee.Fits.{down_pos, sub-fits}
use Rattle.float.specs.Compare.{plus_zero}
use Rattle.float.proofs.Zeros.{minus_zero_lem, plus_zero_lem}
use Rattle.quantization.specs.Ends.{round_up, clamped_byte, quant_min, quant_max, reciprocal_of, on_grid, child_min, child_max}
use Rattle.quantization.proofs.Ends.{rounds_up}

pub padded-min : (p : Float) (e : ℕ) (lo : Float) → quant_min (mul binary32 (sub binary32 (sub binary32 lo p) plus_zero) (reciprocal_of e))
    ≡ child_min p e lo
unfolding child_min on_grid
padded-min p e lo = ap (λ (x : Float). quant_min (mul binary32 x (reciprocal_of e))) (minus_zero_lem (sub binary32 lo p) (sub-fits binary32 lo p))

-- a zero of either sign gives the byte 0
zero_byte : (x : Float) (s : Bool) (a c : ℕ) → a ≡ 0 → 0 < c → HasValue x s a c → quant_max x ≡ 0
unfolding clamped_byte
zero_byte nan s a c z C h = absurd h
zero_byte (inf t) s a c z C h = absurd h
zero_byte (fin true m e) s a c z C h = refl
zero_byte (fin false m e) s a c z C h =
    let none : m * up e ≡ 0 = eq_of_mul-eq-mul_right c C (m * up e) 0 (h.1 ∙ ap (λ (k : ℕ). k * down e) z ∙ zero-mul (down e) ∙ sym (zero-mul c)) in
    ap (λ (k : ℕ). min (round_up k (down e)) 255) none ∙ ap (λ (k : ℕ). min k 255) (rounds_up.none (down e))

zero_product : (s : Bool) (x : Float) → quant_max (mul binary32 (fin s 0 (pos 0)) x) ≡ 0
unfolding mul
zero_product s nan = unfold clamped_byte in refl
zero_product s (inf t) = unfold clamped_byte in refl
zero_product s (fin t n d) =
    let z : 0 * (n * up d) ≡ 0 = zero-mul (n * up d) in
    let D : 0 < 1 * down d = mul-pos (pow_pos 0) (down_pos d) in
    zero_byte (round binary32 (unlike s t) (0 * (n * up d)) (1 * down d)) (unlike s t) (0 * (n * up d)) (1 * down d) z D
    (round_exact binary32 (unlike s t) (0 * (n * up d)) (1 * down d) 0 0 D (pow_pos 24) (pow_pos 277)
    (ap (λ (k : ℕ). k * 2 ^ 149) z ∙ sym (zero-mul (1 * down d))))

pub padded-max : (p : Float) (e : ℕ) (hi : Float) → quant_max (mul binary32 (add binary32 (sub binary32 hi p) plus_zero) (reciprocal_of e))
    ≡ child_max p e hi
unfolding child_max on_grid
padded-max p e hi = elim (plus_zero_lem (sub binary32 hi p) (sub-fits binary32 hi p)) [
  | inl h ↦ ap (λ (x : Float). quant_max (mul binary32 x (reciprocal_of e))) h
  | inr h ↦ ap (λ (x : Float). quant_max (mul binary32 x (reciprocal_of e))) h.1 ∙ zero_product false (reciprocal_of e) ∙ sym
      (ap (λ (x : Float). quant_max (mul binary32 x (reciprocal_of e))) h.0 ∙ zero_product true (reciprocal_of e))
]
