-- The word operations of the rule, byte by byte: what is left is a fact of one byte, computed at every byte.
use mathlib.Core.Path.{◌≡◌, refl, sym, ap, ap₂, ◌∙◌, subst}
use mathlib.Core.Bool.{Bool, true, false}
use Prim.Native.Nat.{ℕ, zero, suc, ◌+◌, ◌-◌, ◌*◌, ◌/◌, ◌%◌, ◌^◌, ◌≤◌, ◌<◌, min}
use native.Mathlib.Omega.{arith}
use lib.Dec.{eqb, lit<}
use lib.Pow.{mod-mod-pow}
use lib.Bits.{bit_and, bit_or, bit_xor, and_mask, and_le_r}
use Rattle.words.specs.Fields.{field}
use Rattle.words.proofs.Fields.{field_lt, field_and, field_or, field_xor, field-mul, field_shr, field_ext}
use Rattle.words.proofs.Upto.{equal, equal₂}
use Rattle.words.specs.Ones.{ones_below}
use Rattle.node.specs.Node.{code_count}
use Rattle.node_rule.specs.Rule.{LeafTop, one, two, three}
use Rattle.node_rule.proofs.Answers.{swap, eqb_tells, found, missed, denied}
use Rattle.node_rule.specs.Tells.{Tells}
use Rattle.node_rule.specs.Words.{Bytes, InnerRule, LeafRule, empty, leaf, MetaRule, outer, inner, ones_top}
use Rattle.node_rule.proofs.Sums.{field-add, field-not}

-- a byte repeated
repeats : (b k : ℕ) → b < 256 → k < 8 → field 8 k (b * 0x0101_0101_0101_0101) ≡ b
unfolding field
repeats = equal₂ (λ b k. field 8 k (b * 0x0101_0101_0101_0101)) (λ b k. b) 256 8 tt

field-zero : (k : ℕ) → field 8 k 0 ≡ 0
unfolding field
field-zero zero = refl
field-zero (suc k) = field-zero k

-- a word is zero exactly if its eight bytes are
zero_word : (w : ℕ) → w < 2 ^ 64 → ((k : ℕ) → k < 8 → field 8 k w ≡ 0) → w ≡ 0
zero_word w h f = field_ext 8 8 w 0 h (lit< tt) (λ k l. f k l ∙ sym (field-zero k))

pub word_tells : (w : ℕ) (P : ℕ → Type 0) → w < 2 ^ 64 → ((k : ℕ) → k < 8 → field 8 k w ≡ 0 → P k) → ((k : ℕ) → k < 8 → P k → field 8 k w ≡ 0)
    → Tells ((k : ℕ) → k < 8 → P k) (eqb w 0)
word_tells w P h f g =
    swap (w ≡ 0) ((k : ℕ) → k < 8 → P k) (eqb w 0)
    (λ e k l. f k l (ap (field 8 k) e ∙ field-zero k)) (λ p. zero_word w h (λ k l. g k l (p k l))) (eqb_tells w 0)

-- ---- the bits of imask, spread over the bytes
places : (k : ℕ) → k < 8 → field 8 k 0x8040_2010_0804_0201 ≡ 2 ^ k
unfolding field
places = equal (λ k. field 8 k 0x8040_2010_0804_0201) (λ k. 2 ^ k) 8 tt

bit_rule : (i k : ℕ) → i < 256 → k < 8 → (bit_and i (2 ^ k) + 127) / 128 ≡ i / 2 ^ k % 2
bit_rule = equal₂ (λ i k. (bit_and i (2 ^ k) + 127) / 128) (λ i k. i / 2 ^ k % 2) 256 8 tt

place_most : (k : ℕ) → k < 8 → 2 ^ k ≤ 128
place_most k l = let e = equal (λ k. 2 ^ k - 128) (λ k. 0) 8 tt k l in omega arith

pub spread_is : (i x z : ℕ) → i < 256 → x ≡ bit_and (i * 0x0101_0101_0101_0101) 0x8040_2010_0804_0201
    → z ≡ bit_and ((x + 0x7f7f_7f7f_7f7f_7f7f) / 2 ^ 7) 0x0101_0101_0101_0101 → z ≤ 0x0101_0101_0101_0101
    → Bytes (z * 255) (λ k. i / 2 ^ k % 2 * 255)
spread_is i x z hi ex ez hz =
    record {
      byte = λ k l. field-mul 8 255 k z (λ j m. let e = zk j (omega arith) in omega arith) ∙ ap (λ (y : ℕ). y * 255) (zk k l);
      fits = omega arith;
    }
  where
    xk : (k : ℕ) → k < 8 → field 8 k x ≡ bit_and i (2 ^ k)
    xk k l = ap (field 8 k) ex ∙ field_and 8 k (i * 0x0101_0101_0101_0101) 0x8040_2010_0804_0201 ∙ ap₂ bit_and (repeats i k hi l) (places k l)

    yk : (k : ℕ) → k < 8 → field 8 k (x + 0x7f7f_7f7f_7f7f_7f7f) ≡ bit_and i (2 ^ k) + 127
    yk k l =
        field-add k x 0x7f7f_7f7f_7f7f_7f7f
        (λ j m. let e = xk j (omega arith) in let f = repeats 127 j (lit< tt) (omega arith) in let g = and_le_r i (2 ^ j) in
        let h = place_most j (omega arith) in omega arith)
        ∙ ap₂ (λ (y v : ℕ). y + v) (xk k l) (repeats 127 k (lit< tt) l)

    zk : (k : ℕ) → k < 8 → field 8 k z ≡ i / 2 ^ k % 2
    zk k l =
        let y : ℕ = x + 0x7f7f_7f7f_7f7f_7f7f in
        ap (field 8 k) ez ∙ field_and 8 k (y / 2 ^ 7) 0x0101_0101_0101_0101
        ∙ ap (bit_and (field 8 k (y / 2 ^ 7))) (repeats 1 k (lit< tt) l)
        ∙ and_mask (field 8 k (y / 2 ^ 7)) 1
        ∙ field_shr 1 7 k y
        ∙ ap (λ (v : ℕ). v / 128) (yk k l)
        ∙ bit_rule i k hi l

-- ---- the bytes of inner slots
codes : (k : ℕ) → k < 8 → field 8 k 0x3f3e_3d3c_3b3a_3938 ≡ 56 + k
unfolding field
codes = equal (λ k. field 8 k 0x3f3e_3d3c_3b3a_3938) (λ k. 56 + k) 8 tt

code_rule : (m k : ℕ) → m < 256 → k < 8 → min 1 (bit_and (bit_xor m (56 + k)) 255) ≡ min 1 ((m - (56 + k)) + ((56 + k) - m))
code_rule = equal₂ (λ m k. min 1 (bit_and (bit_xor m (56 + k)) 255)) (λ m k. min 1 ((m - (56 + k)) + ((56 + k) - m))) 256 8 tt

none_rule : (m k : ℕ) → m < 256 → k < 8 → bit_and (bit_xor m (56 + k)) 0 ≡ 0
none_rule = equal₂ (λ m k. bit_and (bit_xor m (56 + k)) 0) (λ m k. 0) 256 8 tt

inner_to : (m b k : ℕ) → m < 256 → k < 8 → b < 2 → bit_and (bit_xor m (56 + k)) (b * 255) ≡ 0 → InnerRule m b k
inner_to m zero k h l p e = record { code = λ z. absurd (omega arith) }
inner_to m (suc zero) k h l p e = record { code = λ z. let r = code_rule m k h l in omega arith }
inner_to m (suc (suc b)) k h l p e = absurd (omega arith)

inner_from : (m b k : ℕ) → m < 256 → k < 8 → b < 2 → InnerRule m b k → bit_and (bit_xor m (56 + k)) (b * 255) ≡ 0
inner_from m zero k h l p e = none_rule m k h l
inner_from m (suc zero) k h l p e = let z = e.code refl in let r = code_rule m k h l in omega arith
inner_from m (suc (suc b)) k h l p e = absurd (omega arith)

and_fits : (a b : ℕ) → b < 2 ^ 64 → bit_and a b < 2 ^ 64
and_fits a b h = let z = and_le_r a b in omega arith

pub inner_tells : (m i w : ℕ) → Bytes w (λ k. i / 2 ^ k % 2 * 255)
    → Tells ((k : ℕ) → k < 8 → InnerRule (field 8 k m) (i / 2 ^ k % 2) k) (eqb (bit_and (bit_xor m 0x3f3e_3d3c_3b3a_3938) w) 0)
inner_tells m i w b =
    word_tells (bit_and (bit_xor m 0x3f3e_3d3c_3b3a_3938) w) (λ k. InnerRule (field 8 k m) (i / 2 ^ k % 2) k)
    (and_fits (bit_xor m 0x3f3e_3d3c_3b3a_3938) w b.fits)
    (λ k l e. inner_to (field 8 k m) (i / 2 ^ k % 2) k (field_lt 8 k m) l (omega arith) (sym (at k l) ∙ e))
    (λ k l r. at k l ∙ inner_from (field 8 k m) (i / 2 ^ k % 2) k (field_lt 8 k m) l (omega arith) r)
  where
    at : (k : ℕ) → k < 8 → field 8 k (bit_and (bit_xor m 0x3f3e_3d3c_3b3a_3938) w) ≡ bit_and (bit_xor (field 8 k m) (56 + k)) (i / 2 ^ k % 2 * 255)
    at k l =
        field_and 8 k (bit_xor m 0x3f3e_3d3c_3b3a_3938) w
        ∙ ap₂ bit_and (field_xor 8 k m 0x3f3e_3d3c_3b3a_3938 ∙ ap (bit_xor (field 8 k m)) (codes k l)) (b.byte k l)

-- ---- the other bytes
pub rest_is : (m w : ℕ) → m < 2 ^ 64 → w < 2 ^ 64 → Bytes (bit_and m (256 ^ 8 - 1 - w)) (λ k. bit_and (field 8 k m) (255 - field 8 k w))
rest_is m w hm h =
    record {
      byte = λ k l. field_and 8 k m (256 ^ 8 - 1 - w) ∙ ap (bit_and (field 8 k m)) (field-not k 8 w l h);
      fits = and_fits m (256 ^ 8 - 1 - w) (omega arith);
    }

-- ---- the three high bits and their count
pub tops_are : (w t : ℕ) → t ≡ bit_and (w / 2 ^ 5) 0x0707_0707_0707_0707 → t ≤ 0x0707_0707_0707_0707 → Bytes t (λ k. field 8 k w / 32)
tops_are w t e h =
    record {
      byte = λ k l. ap (field 8 k) e ∙ field_and 8 k (w / 2 ^ 5) 0x0707_0707_0707_0707
          ∙ ap (bit_and (field 8 k (w / 2 ^ 5))) (repeats 7 k (lit< tt) l)
          ∙ and_mask (field 8 k (w / 2 ^ 5)) 3 ∙ field_shr 3 5 k w;
      fits = omega arith;
    }

low_bit : (t k : ℕ) → k < 8 → field 8 k (bit_and t 0x0101_0101_0101_0101) ≡ field 8 k t % 2
low_bit t k l = field_and 8 k t 0x0101_0101_0101_0101 ∙ ap (bit_and (field 8 k t)) (repeats 1 k (lit< tt) l) ∙ and_mask (field 8 k t) 1

second_bit : (t k : ℕ) → k < 8 → field 8 k (bit_and (t / 2 ^ 1) 0x0101_0101_0101_0101) ≡ field 8 k t / 2 % 2
second_bit t k l =
    low_bit (t / 2 ^ 1) k l ∙ sym (mod-mod-pow (field 8 k (t / 2 ^ 1)) 6 1) ∙ ap (λ (x : ℕ). x % 2) (field_shr 7 1 k t)

third_bit : (t k : ℕ) → k < 8 → field 8 k (bit_and (t / 2 ^ 2) 0x0101_0101_0101_0101) ≡ field 8 k t / 4 % 2
third_bit t k l =
    low_bit (t / 2 ^ 2) k l ∙ sym (mod-mod-pow (field 8 k (t / 2 ^ 2)) 5 1) ∙ ap (λ (x : ℕ). x % 2) (field_shr 6 2 k t)

pub ones_are : (t a b c : ℕ) → a ≡ bit_and t 0x0101_0101_0101_0101 → b ≡ bit_and (t / 2 ^ 1) 0x0101_0101_0101_0101 → c
    ≡ bit_and (t / 2 ^ 2) 0x0101_0101_0101_0101
    → a ≤ 0x0101_0101_0101_0101 → b ≤ 0x0101_0101_0101_0101 → c ≤ 0x0101_0101_0101_0101 → Bytes (a + b + c) (λ k. ones_top (field 8 k t))
ones_are t a b c ea eb ec ha hb hc =
    record {
      byte = λ k l.
          field-add k (a + b) c (λ j m. let e = ab j (omega arith) in let f = ck j (omega arith) in omega arith)
          ∙ ap₂ (λ (x y : ℕ). x + y) (ab k l) (ck k l);
      fits = omega arith;
    }
  where
    ak : (k : ℕ) → k < 8 → field 8 k a ≡ field 8 k t % 2
    ak k l = ap (field 8 k) ea ∙ low_bit t k l

    bk : (k : ℕ) → k < 8 → field 8 k b ≡ field 8 k t / 2 % 2
    bk k l = ap (field 8 k) eb ∙ second_bit t k l

    ck : (k : ℕ) → k < 8 → field 8 k c ≡ field 8 k t / 4 % 2
    ck k l = ap (field 8 k) ec ∙ third_bit t k l

    ab : (k : ℕ) → k < 8 → field 8 k (a + b) ≡ field 8 k t % 2 + field 8 k t / 2 % 2
    ab k l = field-add k a b (λ j m. let e = ak j (omega arith) in let f = bk j (omega arith) in omega arith) ∙ ap₂ (λ (x y : ℕ). x + y) (ak k l)
        (bk k l)

-- ---- one leaf byte
-- 0 for the three high bits of a leaf code
abbrev run_bad : ℕ → ℕ
run_bad zero = 1
run_bad (suc zero) = 0
run_bad (suc (suc zero)) = 1
run_bad (suc (suc (suc zero))) = 0
run_bad (suc (suc (suc (suc zero)))) = 1
run_bad (suc (suc (suc (suc (suc zero))))) = 1
run_bad (suc (suc (suc (suc (suc (suc zero)))))) = 1
run_bad (suc (suc (suc (suc (suc (suc (suc zero))))))) = 0
run_bad (suc (suc (suc (suc (suc (suc (suc (suc t)))))))) = 1

run_to : (t : ℕ) → run_bad t ≡ 0 → LeafTop t
run_to zero e = absurd (omega arith)
run_to (suc zero) e = one refl
run_to (suc (suc zero)) e = absurd (omega arith)
run_to (suc (suc (suc zero))) e = two refl
run_to (suc (suc (suc (suc zero)))) e = absurd (omega arith)
run_to (suc (suc (suc (suc (suc zero))))) e = absurd (omega arith)
run_to (suc (suc (suc (suc (suc (suc zero)))))) e = absurd (omega arith)
run_to (suc (suc (suc (suc (suc (suc (suc zero))))))) e = three refl
run_to (suc (suc (suc (suc (suc (suc (suc (suc t)))))))) e = absurd (omega arith)

run_from : (t : ℕ) → LeafTop t → run_bad t ≡ 0
run_from t (one e) = rw e
run_from t (two e) = rw e
run_from t (three e) = rw e

abbrev bad : ℕ → ℕ → ℕ
bad zero room = 0
bad (suc y) room = run_bad (suc y / 32) + ((suc y % 32 + ones_top (suc y / 32)) - room)

abbrev first : ℕ → ℕ
first x = bit_and (x / 32) (x / 32 + 1)

abbrev second : ℕ → ℕ → ℕ
second x room = bit_and (bit_or (x % 32 + ones_top (x / 32) + (127 - room)) (bit_and (x % 32 + 127) (255 - (ones_top (x / 32) + 127)))) 128

leaf_table : (x room : ℕ) → x < 256 → room < 25 → min 1 (first x + second x room) ≡ min 1 (bad x room)
leaf_table = equal₂ (λ x room. min 1 (first x + second x room)) (λ x room. min 1 (bad x room)) 256 25 tt

count_is : (x : ℕ) → x < 256 → code_count x ≡ ones_top (x / 32)
unfolding ones_below
count_is x h = omega arith

leaf_to : (x room : ℕ) → x < 256 → bad x room ≡ 0 → LeafRule x room
leaf_to zero room h e = empty refl
leaf_to (suc y) room h e = let c = count_is (suc y) h in leaf (run_to (suc y / 32) (omega arith)) (omega arith)

leaf_from : (x room : ℕ) → x < 256 → LeafRule x room → bad x room ≡ 0
leaf_from zero room h r = refl
leaf_from (suc y) room h (empty e) = absurd (omega arith)
leaf_from (suc y) room h (leaf t l) = let c = count_is (suc y) h in let z = run_from (suc y / 32) t in omega arith

-- ---- the eight leaf bytes
first_at : (w t : ℕ) → Bytes t (λ k. field 8 k w / 32) → (k : ℕ) → k < 8 → field 8 k (bit_and t (t + 0x0101_0101_0101_0101)) ≡ first (field 8 k w)
first_at w t b k l =
    field_and 8 k t (t + 0x0101_0101_0101_0101)
    ∙ ap₂ bit_and (b.byte k l)
    (field-add k t 0x0101_0101_0101_0101 (λ j m. let e = b.byte j (omega arith) in let f = repeats 1 j (lit< tt) (omega arith) in let g = field_lt
    8 j w in omega arith)
    ∙ ap₂ (λ (x y : ℕ). x + y) (b.byte k l) (repeats 1 k (lit< tt) l))

-- the first test fails: some byte is no leaf code
pub leaves_fail : (w t room : ℕ) → room ≤ 24 → Bytes t (λ k. field 8 k w / 32) → (bit_and t (t + 0x0101_0101_0101_0101) ≡ 0 → ⊥)
    → t ≤ 0x0707_0707_0707_0707
    → Tells ((k : ℕ) → k < 8 → LeafRule (field 8 k w) room) false
leaves_fail w t room h b z m =
    denied ((k : ℕ) → k < 8 → LeafRule (field 8 k w) room)
    (λ r. z (zero_word (bit_and t (t + 0x0101_0101_0101_0101)) (and_fits t (t + 0x0101_0101_0101_0101) (omega arith))
    (λ k l. first_at w t b k l ∙ go (field 8 k w) (field_lt 8 k w) (r k l))))
  where
    go : (x : ℕ) → x < 256 → LeafRule x room → first x ≡ 0
    go x l r = let e = leaf_table x room l (omega arith) in let f = leaf_from x room l r in omega arith

pub leaves_tell : (w t c low room : ℕ) → room ≤ 24 → Bytes t (λ k. field 8 k w / 32) → bit_and t (t + 0x0101_0101_0101_0101) ≡ 0
    → Bytes c (λ k. ones_top (field 8 k t)) → c ≤ 0x0303_0303_0303_0303 → low ≡ bit_and w 0x1f1f_1f1f_1f1f_1f1f
    → Tells ((k : ℕ) → k < 8 → LeafRule (field 8 k w) room)
    (eqb (bit_and (bit_or (low + c + (127 - room) * 0x0101_0101_0101_0101)
    (bit_and (low + 0x7f7f_7f7f_7f7f_7f7f) (256 ^ 8 - 1 - (c + 0x7f7f_7f7f_7f7f_7f7f)))) 0x8080_8080_8080_8080) 0)
leaves_tell w t c low room h bt z bc hc el =
    word_tells (bit_and (bit_or over lone) 0x8080_8080_8080_8080) (λ k. LeafRule (field 8 k w) room)
    (and_fits (bit_or over lone) 0x8080_8080_8080_8080 (lit< tt))
    (λ k l e. to (field 8 k w) (field_lt 8 k w) (sym (first_at w t bt k l) ∙ ap (field 8 k) z ∙ field-zero k) (sym (end k l) ∙ e))
    (λ k l r. end k l ∙ from (field 8 k w) (field_lt 8 k w) r)
  where
    over : ℕ
    over = low + c + (127 - room) * 0x0101_0101_0101_0101

    lone : ℕ
    lone = bit_and (low + 0x7f7f_7f7f_7f7f_7f7f) (256 ^ 8 - 1 - (c + 0x7f7f_7f7f_7f7f_7f7f))

    ck : (k : ℕ) → k < 8 → field 8 k c ≡ ones_top (field 8 k w / 32)
    ck k l = bc.byte k l ∙ ap ones_top (bt.byte k l)

    lk : (k : ℕ) → k < 8 → field 8 k low ≡ field 8 k w % 32
    lk k l = ap (field 8 k) el ∙ field_and 8 k w 0x1f1f_1f1f_1f1f_1f1f ∙ ap (bit_and (field 8 k w)) (repeats 31 k (lit< tt) l) ∙ and_mask
        (field 8 k w) 5

    lc : (k : ℕ) → k < 8 → field 8 k (low + c) ≡ field 8 k w % 32 + ones_top (field 8 k w / 32)
    lc k l = field-add k low c (λ j m. let e = lk j (omega arith) in let f = ck j (omega arith) in omega arith) ∙ ap₂ (λ (x y : ℕ). x + y) (lk k l)
        (ck k l)

    ov : (k : ℕ) → k < 8 → field 8 k over ≡ field 8 k w % 32 + ones_top (field 8 k w / 32) + (127 - room)
    ov k l =
        field-add k (low + c) ((127 - room) * 0x0101_0101_0101_0101)
        (λ j m. let e = lc j (omega arith) in let f = repeats (127 - room) j (omega arith) (omega arith) in omega arith)
        ∙ ap₂ (λ (x y : ℕ). x + y) (lc k l) (repeats (127 - room) k (omega arith) l)

    ls : (k : ℕ) → k < 8 → field 8 k (low + 0x7f7f_7f7f_7f7f_7f7f) ≡ field 8 k w % 32 + 127
    ls k l =
        field-add k low 0x7f7f_7f7f_7f7f_7f7f (λ j m. let e = lk j (omega arith) in let f = repeats 127 j (lit< tt) (omega arith) in omega arith)
        ∙ ap₂ (λ (x y : ℕ). x + y) (lk k l) (repeats 127 k (lit< tt) l)

    cs : (k : ℕ) → k < 8 → field 8 k (c + 0x7f7f_7f7f_7f7f_7f7f) ≡ ones_top (field 8 k w / 32) + 127
    cs k l =
        field-add k c 0x7f7f_7f7f_7f7f_7f7f (λ j m. let e = ck j (omega arith) in let f = repeats 127 j (lit< tt) (omega arith) in omega arith)
        ∙ ap₂ (λ (x y : ℕ). x + y) (ck k l) (repeats 127 k (lit< tt) l)

    ln : (k : ℕ) → k < 8 → field 8 k lone ≡ bit_and (field 8 k w % 32 + 127) (255 - (ones_top (field 8 k w / 32) + 127))
    ln k l =
        field_and 8 k (low + 0x7f7f_7f7f_7f7f_7f7f) (256 ^ 8 - 1 - (c + 0x7f7f_7f7f_7f7f_7f7f))
        ∙ ap₂ bit_and (ls k l) (field-not k 8 (c + 0x7f7f_7f7f_7f7f_7f7f) l (omega arith) ∙ ap (λ (x : ℕ). 255 - x) (cs k l))

    end : (k : ℕ) → k < 8 → field 8 k (bit_and (bit_or over lone) 0x8080_8080_8080_8080) ≡ second (field 8 k w) room
    end k l =
        field_and 8 k (bit_or over lone) 0x8080_8080_8080_8080
        ∙ ap₂ bit_and (field_or 8 k over lone ∙ ap₂ bit_or (ov k l) (ln k l)) (repeats 128 k (lit< tt) l)

    to : (x : ℕ) → x < 256 → first x ≡ 0 → second x room ≡ 0 → LeafRule x room
    to x l a e = let f = leaf_table x room l (omega arith) in leaf_to x room l (omega arith)

    from : (x : ℕ) → x < 256 → LeafRule x room → second x room ≡ 0
    from x l r = let e = leaf_table x room l (omega arith) in let f = leaf_from x room l r in omega arith

-- ---- the two parts together
abbrev pub leaf_of : ℕ → ℕ → ℕ
leaf_of zero m = m
leaf_of (suc b) m = 0

leaf_byte : (m b : ℕ) → m < 256 → b < 2 → bit_and m (255 - b * 255) ≡ leaf_of b m
leaf_byte = equal₂ (λ m b. bit_and m (255 - b * 255)) (λ m b. leaf_of b m) 256 2 tt

meta_inner : (m b k room : ℕ) → MetaRule m b k room → InnerRule m b k
meta_inner m b k room (outer e r) = record { code = λ z. absurd (omega arith) }
meta_inner m b k room (inner e f) = record { code = λ z. f }

meta_leaf : (m b k room : ℕ) → MetaRule m b k room → LeafRule (leaf_of b m) room
meta_leaf m zero k room (outer e r) = r
meta_leaf m (suc b) k room (outer e r) = absurd (omega arith)
meta_leaf m zero k room (inner e f) = absurd (omega arith)
meta_leaf m (suc b) k room (inner e f) = empty refl

meta_both : (m b k room : ℕ) → b < 2 → InnerRule m b k → LeafRule (leaf_of b m) room → MetaRule m b k room
meta_both m zero k room h i l = outer refl l
meta_both m (suc zero) k room h i l = inner refl (i.code refl)
meta_both m (suc (suc b)) k room h i l = absurd (omega arith)

pub metas_fail : (m i room : ℕ) (t : Bool) → Tells ((k : ℕ) → k < 8 → InnerRule (field 8 k m) (i / 2 ^ k % 2) k) t → t ≡ false
    → Tells ((k : ℕ) → k < 8 → MetaRule (field 8 k m) (i / 2 ^ k % 2) k room) false
metas_fail m i room t a e =
    denied ((k : ℕ) → k < 8 → MetaRule (field 8 k m) (i / 2 ^ k % 2) k room)
    (λ r. missed ((k : ℕ) → k < 8 → InnerRule (field 8 k m) (i / 2 ^ k % 2) k) t a e (λ k l. meta_inner (field 8 k m) (i / 2 ^ k % 2) k room (r k l)))

pub metas_tell : (m i w v room : ℕ) (t r : Bool) → Tells ((k : ℕ) → k < 8 → InnerRule (field 8 k m) (i / 2 ^ k % 2) k) t → t ≡ true
    → Bytes w (λ k. i / 2 ^ k % 2 * 255) → Bytes v (λ k. bit_and (field 8 k m) (255 - field 8 k w))
    → Tells ((k : ℕ) → k < 8 → LeafRule (field 8 k v) room) r
    → Tells ((k : ℕ) → k < 8 → MetaRule (field 8 k m) (i / 2 ^ k % 2) k room) r
metas_tell m i w v room t r a e bw bv h =
    swap ((k : ℕ) → k < 8 → LeafRule (field 8 k v) room) ((k : ℕ) → k < 8 → MetaRule (field 8 k m) (i / 2 ^ k % 2) k room) r
    (λ f k l. meta_both (field 8 k m) (i / 2 ^ k % 2) k room (omega arith)
    (found ((k : ℕ) → k < 8 → InnerRule (field 8 k m) (i / 2 ^ k % 2) k) t a e k l)
    (subst (λ (x : ℕ). LeafRule x room) (at k l) (f k l)))
    (λ f k l. subst (λ (x : ℕ). LeafRule x room) (sym (at k l)) (meta_leaf (field 8 k m) (i / 2 ^ k % 2) k room (f k l))) h
  where
    at : (k : ℕ) → k < 8 → field 8 k v ≡ leaf_of (i / 2 ^ k % 2) (field 8 k m)
    at k l = bv.byte k l ∙ ap (λ (x : ℕ). bit_and (field 8 k m) (255 - x)) (bw.byte k l) ∙ leaf_byte (field 8 k m) (i / 2 ^ k % 2) (field_lt 8 k m)
        (omega arith)
