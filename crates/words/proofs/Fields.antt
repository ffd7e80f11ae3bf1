-- The laws of a word's fields: the bit operations work on each field apart, at any width of the fields.
use mathlib.Core.Path.{◌≡◌, sym, ap, ap₂, ◌∙◌, subst}
use Prim.Native.Nat.{ℕ, zero, suc, ◌+◌, ◌-◌, ◌*◌, ◌/◌, ◌%◌, ◌^◌, ◌≤◌, ◌<◌, zero-le, suc-le-suc}
use native.Mathlib.Nat.{mod-lt, div-one, zero-mul, suc-mul, add_comm, add-mul, mul_comm, mul_assoc, mul-one}
use native.Mathlib.Omega.{arith}
use lib.Pow.{pow_pos, split, high, low, shr-shr, shr_lt, mod-mod-pow, shl-shr}
use lib.Pow as P
use lib.Bits.{bit_and, bit_or, bit_xor, and_shr, and_mod, or_shr, or_mod, xor_shr, xor_mod}
use Rattle.words.specs.Fields.{field}

pub field_lt : (k i n : ℕ) → field k i n < 2 ^ k
unfolding field
field_lt k zero n = mod-lt n (pow_pos k)
field_lt k (suc i) n = field_lt k i (n / 2 ^ k)

-- what `(n >> (i * k)) & mask` computes
pub field_is : (k i n : ℕ) → field k i n ≡ n / 2 ^ (i * k) % 2 ^ k
unfolding field
field_is k zero n = ap (λ (x : ℕ). x % 2 ^ k) (sym (div-one n)) ∙ ap (λ (x : ℕ). n / 2 ^ x % 2 ^ k) (sym (zero-mul k))
field_is k (suc i) n =
    field_is k i (n / 2 ^ k) ∙ ap (λ (x : ℕ). x % 2 ^ k) (shr-shr n k (i * k))
    ∙ ap (λ (x : ℕ). n / 2 ^ x % 2 ^ k) (add_comm k (i * k) ∙ sym (suc-mul i k))

-- ---- an operation that shifts and masks pass through works on each field apart
module _ (op : ℕ → ℕ → ℕ)
    (shr : (a b k : ℕ) → op a b / 2 ^ k ≡ op (a / 2 ^ k) (b / 2 ^ k))
    (cut : (a b k : ℕ) → op a b % 2 ^ k ≡ op (a % 2 ^ k) (b % 2 ^ k)) where
  field_op : (k i a b : ℕ) → field k i (op a b) ≡ op (field k i a) (field k i b)
  unfolding field
  field_op k zero a b = cut a b k
  field_op k (suc i) a b = ap (field k i) (shr a b k) ∙ field_op k i (a / 2 ^ k) (b / 2 ^ k)

pub field_and : (k i a b : ℕ) → field k i (bit_and a b) ≡ bit_and (field k i a) (field k i b)
field_and = field_op bit_and and_shr and_mod

pub field_or : (k i a b : ℕ) → field k i (bit_or a b) ≡ bit_or (field k i a) (field k i b)
field_or = field_op bit_or or_shr or_mod

pub field_xor : (k i a b : ℕ) → field k i (bit_xor a b) ≡ bit_xor (field k i a) (field k i b)
field_xor = field_op bit_xor xor_shr xor_mod

-- ---- a product in which no field overflows
times_split : (k c n : ℕ) → n * c ≡ (n / 2 ^ k * c) * 2 ^ k + (n % 2 ^ k) * c
times_split k c n =
    ap (λ (x : ℕ). x * c) (sym (split n k)) ∙ add-mul (n / 2 ^ k * 2 ^ k) (n % 2 ^ k) c
    ∙ ap (λ (x : ℕ). x + (n % 2 ^ k) * c)
    (mul_assoc (n / 2 ^ k) (2 ^ k) c ∙ ap (λ (x : ℕ). n / 2 ^ k * x) (mul_comm (2 ^ k) c) ∙ sym (mul_assoc (n / 2 ^ k) c (2 ^ k)))

pub field-mul : (k c i n : ℕ) → ((j : ℕ) → j ≤ i → field k j n * c < 2 ^ k) → field k i (n * c) ≡ field k i n * c
unfolding field
field-mul k c zero n h = ap (λ (x : ℕ). x % 2 ^ k) (times_split k c n) ∙ low (n / 2 ^ k * c) k (h zero zero-le)
field-mul k c (suc i) n h =
    ap (field k i) (ap (λ (x : ℕ). x / 2 ^ k) (times_split k c n) ∙ high (n / 2 ^ k * c) k (h zero zero-le))
    ∙ field-mul k c i (n / 2 ^ k) (λ j l. h (suc j) (suc-le-suc l))

-- ---- a shift right by s, then a mask of the k - s digits that stay in the field
pub field_shr : (j s i n : ℕ) → field (j + s) i (n / 2 ^ s) % 2 ^ j ≡ field (j + s) i n / 2 ^ s
field_shr j s i n =
    let q : ℕ = n / 2 ^ (i * (j + s)) in
    ap (λ (x : ℕ). x % 2 ^ j) (field_is (j + s) i (n / 2 ^ s))
    ∙ ap (λ (x : ℕ). n / 2 ^ s / 2 ^ (i * (j + s)) % 2 ^ x % 2 ^ j) (add_comm j s)
    ∙ mod-mod-pow (n / 2 ^ s / 2 ^ (i * (j + s))) s j
    ∙ ap (λ (x : ℕ). x % 2 ^ j) (shr-shr n s (i * (j + s)) ∙ ap (λ (x : ℕ). n / 2 ^ x) (add_comm s (i * (j + s))) ∙ sym (shr-shr n (i * (j + s)) s))
    ∙ sym (P.field q j s)
    ∙ ap (λ (x : ℕ). x / 2 ^ s) (sym (field_is (j + s) i n))

-- ---- single digits
-- a bit of a field
pub bit_field : (k i j n : ℕ) → j < k → field 1 j (field k i n) ≡ field 1 (i * k + j) n
bit_field k i j n h =
    let r : ℕ = k - (1 + j) in
    let e : r + 1 + j ≡ k = omega arith in
    let q : ℕ = n / 2 ^ (i * k) in
    field_is 1 j (field k i n)
    ∙ ap₂ (λ (x y : ℕ). x / 2 ^ y % 2) (field_is k i n ∙ ap (λ (x : ℕ). q % 2 ^ x) (sym e)) (mul-one j)
    ∙ ap (λ (x : ℕ). x % 2) (P.field q (r + 1) j)
    ∙ mod-mod-pow (q / 2 ^ j) r 1
    ∙ ap (λ (x : ℕ). x % 2) (shr-shr n (i * k) j)
    ∙ ap (λ (x : ℕ). n / 2 ^ x % 2) (sym (mul-one (i * k + j)))
    ∙ sym (field_is 1 (i * k + j) n)

-- a bit of a word shifted left, cut to w digits
pub bit_shl : (w s j n : ℕ) → j + s < w → field 1 (j + s) ((n * 2 ^ s) % 2 ^ w) ≡ field 1 j n
bit_shl w s j n h =
    let r : ℕ = w - (1 + (j + s)) in
    let e : r + 1 + (j + s) ≡ w = omega arith in
    field_is 1 (j + s) ((n * 2 ^ s) % 2 ^ w)
    ∙ ap₂ (λ (x y : ℕ). (n * 2 ^ s) % 2 ^ x / 2 ^ y % 2) (sym e) (mul-one (j + s))
    ∙ ap (λ (x : ℕ). x % 2) (P.field (n * 2 ^ s) (r + 1) (j + s))
    ∙ mod-mod-pow (n * 2 ^ s / 2 ^ (j + s)) r 1
    ∙ ap (λ (x : ℕ). n * 2 ^ s / 2 ^ x % 2) (add_comm j s)
    ∙ ap (λ (x : ℕ). x % 2) (sym (shr-shr (n * 2 ^ s) s j) ∙ ap (λ (x : ℕ). x / 2 ^ j) (shl-shr n s))
    ∙ ap (λ (x : ℕ). n / 2 ^ x % 2) (sym (mul-one j))
    ∙ sym (field_is 1 j n)

-- ---- a word is its fields
pub field_ext : (k m a b : ℕ) → a < 2 ^ (m * k) → b < 2 ^ (m * k) → ((i : ℕ) → i < m → field k i a ≡ field k i b) → a ≡ b
unfolding field
field_ext k zero a b ha hb h =
    let pa : a < 1 = subst (λ (x : ℕ). a < 2 ^ x) (zero-mul k) ha in
    let pb : b < 1 = subst (λ (x : ℕ). b < 2 ^ x) (zero-mul k) hb in
    omega arith
field_ext k (suc m) a b ha hb h =
    sym (split a k)
    ∙ ap₂ (λ (x y : ℕ). x * 2 ^ k + y)
    (field_ext k m (a / 2 ^ k) (b / 2 ^ k) (shr_lt (m * k) k (subst (λ (x : ℕ). a < 2 ^ x) (suc-mul m k) ha))
    (shr_lt (m * k) k (subst (λ (x : ℕ). b < 2 ^ x) (suc-mul m k) hb)) (λ i l. h (suc i) (omega arith)))
    (h zero (omega arith))
    ∙ split b k
