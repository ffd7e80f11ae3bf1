-- The `|` of n words, bit by bit.
use mathlib.Core.Path.{◌≡◌, refl, sym, ap, ap₂, ◌∙◌}
use mathlib.Core.Logic.{◌⊎◌, inl, inr}
use Prim.Native.Nat.{ℕ, zero, suc, ◌+◌, ◌-◌, ◌*◌, ◌/◌, ◌%◌, ◌^◌, ◌≤◌, ◌<◌}
use native.Mathlib.Nat.{not-suc-le-zero, eq-or-lt_of_le, le_of_suc-le-suc, mul-one, sub-add_cancel, add-zero, div-eq_of_lt, lt_of_lt_of_le}
use native.Mathlib.Numerals.{add-one}
use native.Mathlib.Omega.{arith}
use lib.Pow.{pow_pos, pow_mono, ones_split, split, high, low}
use lib.Bits.{bit_or, or_lt, or_comm}
use Rattle.words.specs.Fields.{field}
use Rattle.words.specs.Ors.{or_of}
use Rattle.words.proofs.Fields.{field_lt, field_is, field_or, bit_shl}
use Rattle.words.proofs.Le.{field_low}

pub or_of_lt : (w n : ℕ) (f : ℕ → ℕ) → ((k : ℕ) → k < n → f k < 2 ^ w) → or_of n f < 2 ^ w
unfolding or_of
or_of_lt w zero f h = pow_pos w
or_of_lt w (suc n) f h = or_lt w (or_of n f) (f n) (or_of_lt w n f (λ k l. h k (omega arith))) (h n (omega arith))

pub or_of_congr : (n : ℕ) (f g : ℕ → ℕ) → ((k : ℕ) → k < n → f k ≡ g k) → or_of n f ≡ or_of n g
unfolding or_of
or_of_congr zero f g h = refl
or_of_congr (suc n) f g h = ap₂ bit_or (or_of_congr n f g (λ k l. h k (omega arith))) (h n (omega arith))

run_split : (c : ℕ) → 2 ^ suc c - 1 ≡ (2 ^ c - 1) * 2 ^ 1 + (2 ^ 1 - 1)
run_split c = ap (λ (x : ℕ). 2 ^ x - 1) (sym (add-one c)) ∙ ones_split c 1

-- ---- bits
either : (x y : ℕ) → x < 2 → y < 2 → bit_or x y ≡ 1 → (x ≡ 1) ⊎ (y ≡ 1)
either zero y hx hy e = inr e
either (suc zero) y hx hy e = inl refl
either (suc (suc x)) y hx hy e = absurd (omega arith)

or_one : (y : ℕ) → y < 2 → bit_or 1 y ≡ 1
or_one zero h = refl
or_one (suc zero) h = refl
or_one (suc (suc y)) h = absurd (omega arith)

pub zero_bit : (j : ℕ) → field 1 j zero ≡ zero
unfolding field
zero_bit zero = refl
zero_bit (suc j) = zero_bit j

-- a bit of the whole is a bit of some word
pub bit_from : (n j : ℕ) (f : ℕ → ℕ) → field 1 j (or_of n f) ≡ 1 → (k : ℕ) × (k < n) × (field 1 j (f k) ≡ 1)
unfolding or_of
bit_from zero j f e = absurd (omega (arith, zero_bit j))
bit_from (suc n) j f e =
    pick (bit_from n j f) (either (field 1 j (or_of n f)) (field 1 j (f n)) (field_lt 1 j (or_of n f)) (field_lt 1 j (f n))
    (sym (field_or 1 j (or_of n f) (f n)) ∙ e))
  where
    pick : (field 1 j (or_of n f) ≡ 1 → (k : ℕ) × (k < n) × (field 1 j (f k) ≡ 1)) → (field 1 j (or_of n f) ≡ 1) ⊎ (field 1 j (f n) ≡ 1)
        → (k : ℕ) × (k < suc n) × (field 1 j (f k) ≡ 1)
    pick rest (inl p) = let r = rest p in (r.0, omega (arith, r.1), r.2)
    pick rest (inr p) = (n, omega arith, p)

-- a bit of a word is a bit of the whole
pub bit_to : (n j k : ℕ) (f : ℕ → ℕ) → k < n → field 1 j (f k) ≡ 1 → field 1 j (or_of n f) ≡ 1
unfolding or_of
bit_to zero j k f h e = absurd (not-suc-le-zero h)
bit_to (suc n) j k f h e = field_or 1 j (or_of n f) (f n) ∙ pick (λ l. bit_to n j k f l e) (eq-or-lt_of_le (le_of_suc-le-suc h))
  where
    pick : (k < n → field 1 j (or_of n f) ≡ 1) → (k ≡ n) ⊎ (k < n) → bit_or (field 1 j (or_of n f)) (field 1 j (f n)) ≡ 1
    pick rest (inl q) =
        or_comm (field 1 j (or_of n f)) (field 1 j (f n)) ∙ ap (λ (x : ℕ). bit_or x (field 1 j (or_of n f)))
        (ap (λ (x : ℕ). field 1 j (f x)) (sym q) ∙ e)
        ∙ or_one (field 1 j (or_of n f)) (field_lt 1 j (or_of n f))
    pick rest (inr l) = ap (λ (x : ℕ). bit_or x (field 1 j (f n))) (rest l) ∙ or_one (field 1 j (f n)) (field_lt 1 j (f n))

-- ---- a word shifted left, of w digits: bit j is bit j - s
pub shl_bit : (w s j n : ℕ) → s ≤ j → j < w → field 1 j ((n * 2 ^ s) % 2 ^ w) ≡ field 1 (j - s) n
shl_bit w s j n l h = ap (λ (x : ℕ). field 1 x ((n * 2 ^ s) % 2 ^ w)) (sym (sub-add_cancel l)) ∙ bit_shl w s (j - s) n (omega arith)

-- a cut to m fields keeps each of them
pub field_cut : (k m i x : ℕ) → i < m → field k i (x % 2 ^ (m * k)) ≡ field k i x
field_cut k m i x h = sym (ap (field k i) (sym (split x (m * k))) ∙ field_low k m i (x / 2 ^ (m * k)) (x % 2 ^ (m * k)) h)

-- nothing stands below the shift
pub shl_low : (w s j n : ℕ) → j < s → s ≤ w → field 1 j ((n * 2 ^ s) % 2 ^ w) ≡ zero
shl_low w s j n h l =
    ap (λ (x : ℕ). field 1 j ((n * 2 ^ s) % 2 ^ x)) (sym (mul-one w)) ∙ field_cut 1 w j (n * 2 ^ s) (omega arith)
    ∙ ap (field 1 j) (ap (λ (x : ℕ). n * 2 ^ x) (sym (mul-one s)) ∙ sym (add-zero (n * 2 ^ (s * 1))))
    ∙ field_low 1 s j n zero h ∙ zero_bit j

-- ---- a run of c ones has exactly the bits below c: as an equation with a test, and both ways
pub run_bit : (c j : ℕ) → j < c → field 1 j (2 ^ c - 1) ≡ 1
unfolding field
run_bit zero j h = absurd (not-suc-le-zero h)
run_bit (suc c) zero h = ap (λ (x : ℕ). x % 2) (run_split c) ∙ low (2 ^ c - 1) 1 (omega arith)
run_bit (suc c) (suc j) h = ap (field 1 j) (ap (λ (x : ℕ). x / 2) (run_split c) ∙ high (2 ^ c - 1) 1 (omega arith)) ∙ run_bit c j (le_of_suc-le-suc h)

pub bit_past : (c j n : ℕ) → n < 2 ^ c → c ≤ j → field 1 j n ≡ zero
bit_past c j n h l =
    field_is 1 j n ∙ ap (λ (x : ℕ). n / 2 ^ x % 2) (mul-one j) ∙ ap (λ (x : ℕ). x % 2) (div-eq_of_lt (lt_of_lt_of_le h (pow_mono l)))
