-- Masks of the s low digits at any width w, and the count of the digits that they keep.
use mathlib.Core.Path.{◌≡◌, refl, sym, ap, ap₂, ◌∙◌}
use Prim.Native.Nat.{ℕ, zero, suc, ◌+◌, ◌-◌, ◌*◌, ◌/◌, ◌%◌, ◌^◌, ◌<◌}
use native.Mathlib.Nat.{mod-lt, mod-eq_of_lt, mod-one, suc-mul, mul_comm, one-mul}
use native.Mathlib.Numerals.{one-add}
use native.Mathlib.Omega.{arith}
use lib.Arith.{digits_mod}
use lib.Pow.{pow_pos, pow-lt, mod-pow-add, suc_ones}
use lib.Bits.{bit_and, and_mask}
use lib.Count.{ones, ones_cat}
use Rattle.words.specs.Ones.{ones_below}

-- `1 << s`
pub one_shl : (w s : ℕ) → s < w → (1 * 2 ^ s) % 2 ^ w ≡ 2 ^ s
one_shl w s h = ap (λ (x : ℕ). x % 2 ^ w) (one-mul (2 ^ s)) ∙ mod-eq_of_lt (pow-lt h)

-- `MAX << s`: all digits from s on
max_shl : (w s : ℕ) → s < w → ((2 ^ w - 1) * 2 ^ s) % 2 ^ w ≡ 2 ^ w - 2 ^ s
max_shl w s h =
    let p : 2 ^ s < 2 ^ w = pow-lt h in
    let q : zero < 2 ^ s = pow_pos s in
    let x : (2 ^ w - 1) * 2 ^ s + 2 ^ s ≡ 2 ^ w * 2 ^ s = sym (suc-mul (2 ^ w - 1) (2 ^ s)) ∙ ap (λ (n : ℕ). n * 2 ^ s) (suc_ones w) in
    let y : (2 ^ s - 1) * 2 ^ w + 2 ^ w ≡ 2 ^ w * 2 ^ s = sym (suc-mul (2 ^ s - 1) (2 ^ w)) ∙ ap (λ (n : ℕ). n * 2 ^ w) (suc_ones s) ∙ mul_comm
    (2 ^ s) (2 ^ w) in
    let e : (2 ^ w - 1) * 2 ^ s ≡ (2 ^ s - 1) * 2 ^ w + (2 ^ w - 2 ^ s) = omega arith in
    ap (λ (n : ℕ). n % 2 ^ w) e ∙ digits_mod (2 ^ s - 1) (omega arith)

-- `m & !(MAX << s)`
pub above_mask : (w s m : ℕ) → s < w → bit_and m ((2 ^ w - 1) - ((2 ^ w - 1) * 2 ^ s) % 2 ^ w) ≡ m % 2 ^ s
above_mask w s m h =
    let p : 2 ^ s < 2 ^ w = pow-lt h in
    let q : zero < 2 ^ s = pow_pos s in
    let e : (2 ^ w - 1) - (2 ^ w - 2 ^ s) ≡ 2 ^ s - 1 = omega arith in
    ap (λ (n : ℕ). bit_and m ((2 ^ w - 1) - n)) (max_shl w s h) ∙ ap (bit_and m) e ∙ and_mask m s

-- a digit is its own count
one_digit : (b : ℕ) → b < 2 → ones b ≡ b
unfolding ones
one_digit zero h = refl
one_digit (suc zero) h = refl
one_digit (suc (suc b)) h = absurd (omega arith)

-- the count of the k low digits, as a sum
pub ones_below_lem : (k m : ℕ) → ones (m % 2 ^ k) ≡ ones_below k m
unfolding ones_below ones
ones_below_lem zero m = ap ones (mod-one m)
ones_below_lem (suc k) m =
    ap (λ (x : ℕ). ones (m % 2 ^ x)) (sym (one-add k))
    ∙ ap ones (mod-pow-add m 1 k)
    ∙ ones_cat k (m / 2 ^ k % 2) (m % 2 ^ k) (mod-lt m (pow_pos k))
    ∙ ap₂ (λ (x y : ℕ). x + y) (one_digit (m / 2 ^ k % 2) (mod-lt (m / 2 ^ k) (omega arith))) (ones_below_lem k m)
    ∙ omega arith
