-- The highest set digit of a number of w digits, and a digit cleared, at any width w.
use mathlib.Core.Path.{◌≡◌, sym, ap, ap₂, ◌∙◌, subst}
use Prim.Native.Nat.{ℕ, zero, suc, ◌+◌, ◌-◌, ◌*◌, ◌/◌, ◌%◌, ◌^◌, ◌≤◌, ◌<◌}
use native.Mathlib.Nat.{mod-lt, mod-eq_of_lt}
use native.Mathlib.Numerals.{add-one}
use native.Mathlib.Omega.{arith}
use lib.Pow.{pow_pos, pow-add, split, mod-pow-add, shr_lt, ones_lt, ones_split, high}
use lib.Bits.{bit_and, and_mask, and_block, and_zero_r}
use lib.Count.{count_leading_zeros, leading_top}
use Rattle.words.specs.Top.{Top}
use Rattle.words.proofs.Masks.{one_shl}

-- `31 - leading_zeros(n)`, with 31 the w - 1
pub top_is : (w n : ℕ) → zero < n → n < 2 ^ suc w → Top (suc w) n (w - count_leading_zeros (suc w) n)
top_is w n p h =
    let t = leading_top (suc w) n p h in
    let e : w - count_leading_zeros (suc w) n ≡ t.0 = omega (arith, t.1) in
    subst (Top (suc w) n) (sym e) (record {
      within = omega (arith, t.1);
      low = t.2;
      upper = subst (λ (x : ℕ). n < 2 ^ x) (sym (add-one t.0)) t.3;
    })

-- n by its digits above r, the digit r and the r digits below
three : (n r : ℕ) → n ≡ n / 2 ^ (1 + r) * 2 ^ (1 + r) + ((n / 2 ^ r % 2) * 2 ^ r + n % 2 ^ r)
three n r = sym (split n (1 + r)) ∙ ap (λ (x : ℕ). n / 2 ^ (1 + r) * 2 ^ (1 + r) + x) (mod-pow-add n 1 r)

-- the mask that has every digit but r, of j + (1 + r)
but_one : (j r : ℕ) → (2 ^ (j + (1 + r)) - 1) - 2 ^ r ≡ (2 ^ j - 1) * 2 ^ (1 + r) + (zero * 2 ^ r + (2 ^ r - 1))
but_one j r =
    let p : zero < 2 ^ r = pow_pos r in
    let d : 2 ^ (1 + r) ≡ 2 * 2 ^ r = pow-add 2 1 r in
    let s : 2 ^ (j + (1 + r)) - 1 ≡ (2 ^ j - 1) * 2 ^ (1 + r) + (2 ^ (1 + r) - 1) = ones_split j (1 + r) in
    omega arith

low_lt : (n r : ℕ) → (n / 2 ^ r % 2) * 2 ^ r + n % 2 ^ r < 2 ^ (1 + r)
low_lt n r = subst (λ (x : ℕ). x < 2 ^ (1 + r)) (mod-pow-add n 1 r) (mod-lt n (pow_pos (1 + r)))

-- `n & !(1 << r)`: what is left without the digit r
pub clear_bit : (w r n : ℕ) → r < w → n < 2 ^ w
    → bit_and n ((2 ^ w - 1) - (1 * 2 ^ r) % 2 ^ w) + (n / 2 ^ r % 2) * 2 ^ r ≡ n
clear_bit w r n h hn =
    let j : ℕ = w - (1 + r) in
    let ew : j + (1 + r) ≡ w = omega arith in
    let p : zero < 2 ^ r = pow_pos r in
    let d : 2 ^ (1 + r) ≡ 2 * 2 ^ r = pow-add 2 1 r in
    let hi : ℕ = n / 2 ^ (1 + r) in
    let b : ℕ = n / 2 ^ r % 2 in
    let lo : ℕ = n % 2 ^ r in
    let hb : hi < 2 ^ j = shr_lt j (1 + r) (subst (λ (x : ℕ). n < 2 ^ x) (sym ew) hn) in
    let mask : (2 ^ w - 1) - (1 * 2 ^ r) % 2 ^ w ≡ (2 ^ j - 1) * 2 ^ (1 + r) + (zero * 2 ^ r + (2 ^ r - 1)) =
    ap (λ (x : ℕ). (2 ^ w - 1) - x) (one_shl w r h) ∙ ap (λ (x : ℕ). (2 ^ x - 1) - 2 ^ r) (sym ew) ∙ but_one j r in
    let cut : bit_and n ((2 ^ w - 1) - (1 * 2 ^ r) % 2 ^ w) ≡ hi * 2 ^ (1 + r) + lo =
    ap₂ bit_and (three n r) mask
    ∙ and_block (1 + r) hi (2 ^ j - 1) (b * 2 ^ r + lo) (zero * 2 ^ r + (2 ^ r - 1)) (low_lt n r) (omega arith)
    ∙ ap₂ (λ (x y : ℕ). x * 2 ^ (1 + r) + y) (and_mask hi j ∙ mod-eq_of_lt hb)
    (and_block r b zero lo (2 ^ r - 1) (mod-lt n p) (ones_lt r)
    ∙ ap₂ (λ (x y : ℕ). x * 2 ^ r + y) (and_zero_r b) (and_mask lo r ∙ mod-eq_of_lt (mod-lt n p)))
    ∙ omega arith in
    omega (arith, three n r)

-- the digit r of a number whose highest it is
pub top_bit : (n r : ℕ) → 2 ^ r ≤ n → n < 2 ^ (r + 1) → n / 2 ^ r ≡ 1
top_bit n r l h =
    let d : 2 ^ (r + 1) ≡ 2 ^ r * 2 = pow-add 2 r 1 in
    let e : n ≡ 1 * 2 ^ r + (n - 2 ^ r) = omega arith in
    ap (λ (x : ℕ). x / 2 ^ r) e ∙ high 1 r (omega arith)

-- `n & !(1 << r)` at the highest digit
pub clear_top : (w r n : ℕ) → Top w n r → n < 2 ^ w
    → (bit_and n ((2 ^ w - 1) - (1 * 2 ^ r) % 2 ^ w) ≡ n - 2 ^ r) × (bit_and n ((2 ^ w - 1) - (1 * 2 ^ r) % 2 ^ w) ≡ n % 2 ^ r)
clear_top w r n t hn =
    let one : n / 2 ^ r ≡ 1 = top_bit n r t.low t.upper in
    let b : (n / 2 ^ r % 2) * 2 ^ r ≡ 1 * 2 ^ r = ap (λ (x : ℕ). (x % 2) * 2 ^ r) one in
    let s : 1 * 2 ^ r + n % 2 ^ r ≡ n = ap (λ (x : ℕ). x * 2 ^ r + n % 2 ^ r) (sym one) ∙ split n r in
    let k : bit_and n ((2 ^ w - 1) - (1 * 2 ^ r) % 2 ^ w) + (n / 2 ^ r % 2) * 2 ^ r ≡ n = clear_bit w r n t.within hn in
    (omega arith, omega arith)
