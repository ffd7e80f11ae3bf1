-- The decoding of eight bytes at once does to each byte what `specs/Meta.antt` says: a word operation works on each byte apart, and what is
-- left is a fact of one byte, computed at every byte.
use mathlib.Core.Path.{◌≡◌, sym, ap, ap₂, ◌∙◌}
use Prim.Native.Nat.{ℕ, zero, suc, ◌+◌, ◌-◌, ◌*◌, ◌/◌, ◌%◌, ◌^◌, ◌<◌}
use native.Mathlib.Nat.{lt_of_le_of_lt}
use native.Mathlib.Omega.{arith}
use lib.Dec.{lit<}
use lib.Pow.{mod-mod-pow}
use lib.Bits.{bit_and, bit_xor, and_shr, and_mod, and_mask, and_le_r, xor_lt}
use Rattle.words.specs.Fields.{field}
use Rattle.words.proofs.Fields.{field_lt, field_is, field_and, field_xor, field-mul, field_shr, bit_field, bit_shl}
use Rattle.words.proofs.Upto.{equal, equal₂}
use Rattle.words.proofs.Le.{sum_congr, sum_whole, field-sum}
use Rattle.node_meta.specs.Meta.{child_bits, pick, inner_code, bit_index, each_byte}

-- the terms of the code
abbrev met : ℕ → ℕ
met m = bit_and m ((m * 2 ^ 1) % 2 ^ 64)

abbrev pub spread : ℕ → ℕ
spread m = bit_and (met m) 0x1010_1010_1010_1010 / 2 ^ 4

abbrev pub index8 : ℕ → ℕ → ℕ
index8 m x = bit_and (bit_xor m (bit_and x (spread m * 255))) 0x1f1f_1f1f_1f1f_1f1f

-- a mask that repeats a byte has it at each of the eight places
repeats : (b k : ℕ) → b < 32 → k < 8 → field 8 k (b * 0x0101_0101_0101_0101) ≡ b
unfolding field
repeats = equal₂ (λ b k. field 8 k (b * 0x0101_0101_0101_0101)) (λ b k. b) 32 8 tt

-- digits 4 of m and of m << 1 are digits 4 and 3 of m
met_bit : (m k : ℕ) → k < 8 → field 8 k (met m) / 16 % 2 ≡ bit_and (field 8 k m / 16 % 2) (field 8 k m / 8 % 2)
met_bit m k h =
    let s : ℕ = (m * 2 ^ 1) % 2 ^ 64 in
    let a : ℕ = field 8 k m in
    let e : field 8 k s / 16 % 2 ≡ a / 8 % 2 =
    sym (field_is 1 4 (field 8 k s)) ∙ bit_field 8 k 4 s (lit< tt) ∙ ap (λ (x : ℕ). field 1 x s) (omega arith)
    ∙ bit_shl 64 1 (k * 8 + 3) m (omega arith) ∙ sym (bit_field 8 k 3 m (lit< tt)) ∙ field_is 1 3 a in
    ap (λ (x : ℕ). x / 16 % 2) (field_and 8 k m s)
    ∙ ap (λ (x : ℕ). x % 2) (and_shr a (field 8 k s) 4) ∙ and_mod (a / 16) (field 8 k s / 16) 1
    ∙ ap (bit_and (a / 16 % 2)) e

inner_is : (a : ℕ) → a < 256 → bit_and (a / 16 % 2) (a / 8 % 2) ≡ inner_code a
inner_is = equal (λ a. bit_and (a / 16 % 2) (a / 8 % 2)) inner_code 256 tt

spread_at : (m k : ℕ) → k < 8 → field 8 k (spread m) ≡ inner_code (field 8 k m)
spread_at m k h =
    ap (field 8 k) (and_shr (met m) 0x1010_1010_1010_1010 4)
    ∙ field_and 8 k (met m / 2 ^ 4) 0x0101_0101_0101_0101
    ∙ ap (bit_and (field 8 k (met m / 2 ^ 4))) (repeats 1 k (lit< tt) h)
    ∙ and_mask (field 8 k (met m / 2 ^ 4)) 1
    ∙ sym (mod-mod-pow (field 8 k (met m / 2 ^ 4)) 3 1)
    ∙ ap (λ (x : ℕ). x % 2) (field_shr 4 4 k (met m))
    ∙ met_bit m k h
    ∙ inner_is (field 8 k m) (field_lt 8 k m)

inner_small : (a : ℕ) → a < 256 → inner_code a - 1 ≡ zero
inner_small = equal (λ a. inner_code a - 1) (λ a. zero) 256 tt

full_at : (m k : ℕ) → k < 8 → field 8 k (spread m * 255) ≡ inner_code (field 8 k m) * 255
full_at m k h =
    field-mul 8 255 k (spread m) (λ j l. let e : field 8 j (spread m)
    ≡ inner_code (field 8 j m) = spread_at m j (omega arith) in omega (arith, inner_small (field 8 j m) (field_lt 8 j m)))
    ∙ ap (λ (x : ℕ). x * 255) (spread_at m k h)

-- one byte
index_rule : (o a : ℕ) → o < 8 → a < 256 → bit_and (bit_xor a (bit_and o (inner_code a * 255))) 31 ≡ bit_index o a
index_rule = equal₂ (λ o a. bit_and (bit_xor a (bit_and o (inner_code a * 255))) 31) bit_index 8 256 tt

index_at : (m x o k : ℕ) → x ≡ o * 0x0101_0101_0101_0101 → o < 8 → k < 8 → field 8 k (index8 m x) ≡ bit_index o (field 8 k m)
index_at m x o k e ho h =
    field_and 8 k (bit_xor m (bit_and x (spread m * 255))) 0x1f1f_1f1f_1f1f_1f1f
    ∙ ap₂ bit_and
    (field_xor 8 k m (bit_and x (spread m * 255))
    ∙ ap (bit_xor (field 8 k m)) (field_and 8 k x (spread m * 255) ∙ ap₂ bit_and (ap (field 8 k) e ∙ repeats o k (omega arith) h) (full_at m k h)))
    (repeats 31 k (lit< tt) h)
    ∙ index_rule o (field 8 k m) ho (field_lt 8 k m)

child_at : (m k : ℕ) → k < 8 → field 8 k (bit_and (m / 2 ^ 5) 0x0707_0707_0707_0707) ≡ field 8 k m / 32
child_at m k h =
    field_and 8 k (m / 2 ^ 5) 0x0707_0707_0707_0707 ∙ ap (bit_and (field 8 k (m / 2 ^ 5))) (repeats 7 k (lit< tt) h)
    ∙ and_mask (field 8 k (m / 2 ^ 5)) 3 ∙ field_shr 3 5 k m

-- ---- the words
byte_of_word : (f : ℕ → ℕ) (w r : ℕ) → r < 2 ^ 64 → ((k : ℕ) → k < 8 → field 8 k r ≡ f (field 8 k w)) → r ≡ each_byte f w
unfolding each_byte
byte_of_word f w r h e = sym (sum_whole 8 8 r h) ∙ sum_congr 8 8 (λ k. field 8 k r) (λ k. f (field 8 k w)) e

mask_fits : (x m : ℕ) → m < 2 ^ 64 → bit_and x m < 2 ^ 64
mask_fits x m h = lt_of_le_of_lt (and_le_r x m) h

pub child_word : (m : ℕ) → bit_and (m / 2 ^ 5) 0x0707_0707_0707_0707 ≡ each_byte child_bits m
child_word m = byte_of_word child_bits m (bit_and (m / 2 ^ 5) 0x0707_0707_0707_0707) (mask_fits (m / 2 ^ 5) 0x0707_0707_0707_0707 (lit< tt))
    (child_at m)

pub index_word : (m o x : ℕ) → x ≡ o * 0x0101_0101_0101_0101 → o < 8 → index8 m x ≡ each_byte (bit_index o) m
index_word m o x e h =
    byte_of_word (bit_index o) m (index8 m x) (mask_fits (bit_xor m (bit_and x (spread m * 255))) 0x1f1f_1f1f_1f1f_1f1f (lit< tt))
    (λ k l. index_at m x o k e h l)

-- ---- for those who use them
-- an index is a place of a word of 32 bits, whatever the byte
pub index_lt : (o m : ℕ) → o < 8 → bit_index o m < 32
index_lt o m h = go (inner_code m)
  where
    go : (b : ℕ) → pick b (bit_xor (m % 32) o) (m % 32) < 32
    go zero = omega arith
    go (suc b) = xor_lt 5 (m % 32) o (omega arith) (omega arith)

-- a byte of the words
pub child_byte : (m k : ℕ) → k < 8 → field 8 k (each_byte child_bits m) ≡ child_bits (field 8 k m)
unfolding each_byte
child_byte m k l = field-sum 8 8 (λ j. child_bits (field 8 j m)) (λ j h. let b = field_lt 8 j m in omega arith) k l

pub index_byte : (o m k : ℕ) → o < 8 → k < 8 → field 8 k (each_byte (bit_index o) m) ≡ bit_index o (field 8 k m)
unfolding each_byte
index_byte o m k h l = field-sum 8 8 (λ j. bit_index o (field 8 j m)) (λ j p. let b = index_lt o (field 8 j m) h in omega arith) k l

-- an inner child in slot s has its bit at 24 + (s xor o), and the slot is found again from there
pub inner_place : (s o : ℕ) → s < 8 → o < 8 → bit_index o (32 + 24 + s) ≡ 24 + bit_xor s o
inner_place = equal₂ (λ s o. bit_index o (32 + 24 + s)) (λ s o. 24 + bit_xor s o) 8 8 tt

pub slot_back : (s o : ℕ) → s < 8 → o < 8 → bit_xor (bit_xor s o) o ≡ s
slot_back = equal₂ (λ s o. bit_xor (bit_xor s o) o) (λ s o. s) 8 8 tt
