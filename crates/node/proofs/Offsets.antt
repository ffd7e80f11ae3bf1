-- The layout's laws: the offsets of slot bytes are each used once and fill 32 to 79; what is read back after slots are written;
-- bytes and value are each other's.
use mathlib.Core.Path.{◌≡◌, refl, ap, ◌∙◌}
use mathlib.Core.Logic.{◌⊎◌, inl, inr, ⊎_elim}
use mathlib.Core.List.{List, [], ◌∷◌}
use Prim.Native.Nat.{ℕ, zero, suc, ◌+◌, ◌-◌, ◌/◌, ◌%◌, ◌≤◌, ◌<◌}
use native.Mathlib.Nat.{not-suc-le-zero, eq-or-lt_of_le, le_of_suc-le-suc}
use native.Mathlib.Numerals.{add-one}
use native.Mathlib.Omega.{arith}
use lib.ListN.{length, set, get_or, length-set}
use lib.Seq.{get_or-set_same, get_or-set_other}
use Rattle.node.specs.declared.Slot.{Slot}
use Rattle.node.specs.Node.{slot_offset, no_slot, put_slot, put_slots}

-- ---- the offsets
-- a slot's byte: an axis, an end and a slot
pub record Corner (axis end i : ℕ) : Type 0 where
  pub axis_lt : axis < 3
  pub end_lt : end < 2
  pub slot_lt : i < 8

pub offset_low : (axis end i : ℕ) → 32 ≤ slot_offset axis end i
unfolding slot_offset
offset_low axis end i = omega arith

pub offset_lt : (axis end i : ℕ) → Corner axis end i → slot_offset axis end i < 80
unfolding slot_offset
offset_lt axis end i c = omega arith

pub offset_slot : (a e i b f j : ℕ) → Corner a e i → Corner b f j → slot_offset a e i ≡ slot_offset b f j → (a ≡ b) × (e ≡ f) × (i ≡ j)
unfolding slot_offset
offset_slot a e i b f j c d h = (omega arith, omega arith, omega arith)

pub record Onto (k : ℕ) : Type 0 where
  pub axis : ℕ
  pub end : ℕ
  pub slot : ℕ
  pub corner : Corner axis end slot
  pub is : slot_offset axis end slot ≡ k

pub offset_onto : (k : ℕ) → 32 ≤ k → k < 80 → Onto k
unfolding slot_offset
offset_onto k h l = record {
  axis = (k - 32) / 16;
  end = (k - 32) / 8 % 2;
  slot = (k - 32) % 8;
  corner = record { axis_lt = omega arith; end_lt = omega arith; slot_lt = omega arith };
  is = omega arith;
}

-- ---- a slot's bytes, written and read back
abbrev pub corner_of : ℕ → ℕ → Slot → ℕ
corner_of zero zero t = t.min_x
corner_of zero (suc e) t = t.max_x
corner_of (suc zero) zero t = t.min_y
corner_of (suc zero) (suc e) t = t.max_y
corner_of (suc (suc a)) zero t = t.min_z
corner_of (suc (suc a)) (suc e) t = t.max_z

-- places of a list set one after the other
abbrev puts : List ℕ → List (ℕ × ℕ) → List ℕ
puts b [] = b
puts b (w ∷ r) = puts (set b w.0 w.1) r

abbrev Apart : ℕ → List (ℕ × ℕ) → Type 0
Apart j [] = Unit {0}
Apart j (w ∷ r) = (j ≡ w.0 → ⊥) × Apart j r

abbrev Distinct : List (ℕ × ℕ) → Type 0
Distinct [] = Unit {0}
Distinct (w ∷ r) = Apart w.0 r × Distinct r

puts_other : (b : List ℕ) (j : ℕ) (r : List (ℕ × ℕ)) → Apart j r → get_or (puts b r) j 0 ≡ get_or b j 0
puts_other b j [] h = refl
puts_other b j (w ∷ r) h = puts_other (set b w.0 w.1) j r h.1 ∙ get_or-set_other b w.0 j w.1 0 h.0

puts_same : (b : List ℕ) (r : List (ℕ × ℕ)) (n : ℕ) → n < length r → Distinct r → (get_or r n (0, 0)).0 < length b
    → get_or (puts b r) (get_or r n (0, 0)).0 0 ≡ (get_or r n (0, 0)).1
puts_same b [] n l d h = absurd (not-suc-le-zero l)
puts_same b (w ∷ r) zero l d h = puts_other (set b w.0 w.1) w.0 r d.0 ∙ get_or-set_same b w.0 w.1 0 h
puts_same b (w ∷ r) (suc n) l d h = puts_same (set b w.0 w.1) r n (le_of_suc-le-suc l) d.1 (rw length-set h)

module _ (b : List ℕ) (o i : ℕ) (t : Slot) where
  abbrev six : List (ℕ × ℕ)
  six =
      (o + slot_offset 0 0 i, t.min_x) ∷ (o + slot_offset 1 0 i, t.min_y) ∷ (o + slot_offset 2 0 i, t.min_z)
      ∷ (o + slot_offset 0 1 i, t.max_x) ∷ (o + slot_offset 1 1 i, t.max_y) ∷ (o + slot_offset 2 1 i, t.max_z) ∷ []

  apart : i < 8 → Distinct six
  unfolding slot_offset
  apart l = omega arith

  pub length_put : length (put_slot b o i t) ≡ length b
  unfolding put_slot
  length_put = simp length-set

  -- what is none of the slot's bytes stays
  put_other : (j : ℕ) → ((a e : ℕ) → a < 3 → e < 2 → j ≡ o + slot_offset a e i → ⊥) → get_or (put_slot b o i t) j 0 ≡ get_or b j 0
  unfolding put_slot
  put_other j h =
      puts_other b j six (
        h 0 0 (omega arith) (omega arith),
        (
          h 1 0 (omega arith) (omega arith),
          (
            h 2 0 (omega arith) (omega arith),
            (h 0 1 (omega arith) (omega arith), (h 1 1 (omega arith) (omega arith), (h 2 1 (omega arith) (omega arith), tt))),
          ),
        ),
      )

  put_same : (a e : ℕ) → a < 3 → e < 2 → i < 8 → o + 80 ≤ length b → get_or (put_slot b o i t) (o + slot_offset a e i) 0 ≡ corner_of a e t
  unfolding put_slot slot_offset
  put_same zero zero p q l fits = puts_same b six 0 (omega arith) (apart l) (omega arith)
  put_same zero (suc zero) p q l fits = puts_same b six 3 (omega arith) (apart l) (omega arith)
  put_same zero (suc (suc e)) p q l fits = absurd (omega arith)
  put_same (suc zero) zero p q l fits = puts_same b six 1 (omega arith) (apart l) (omega arith)
  put_same (suc zero) (suc zero) p q l fits = puts_same b six 4 (omega arith) (apart l) (omega arith)
  put_same (suc zero) (suc (suc e)) p q l fits = absurd (omega arith)
  put_same (suc (suc zero)) zero p q l fits = puts_same b six 2 (omega arith) (apart l) (omega arith)
  put_same (suc (suc zero)) (suc zero) p q l fits = puts_same b six 5 (omega arith) (apart l) (omega arith)
  put_same (suc (suc zero)) (suc (suc e)) p q l fits = absurd (omega arith)
  put_same (suc (suc (suc a))) e p q l fits = absurd (omega arith)

-- ---- the first k slots
pub length_puts : (k : ℕ) (b : List ℕ) (o : ℕ) (t : List Slot) → length (put_slots k b o t) ≡ length b
unfolding put_slots
length_puts zero b o t = refl
length_puts (suc k) b o t = length_put (put_slots k b o t) o k (get_or t k no_slot) ∙ length_puts k b o t

-- what is no slot byte stays
pub slots_other : (k : ℕ) (b : List ℕ) (o : ℕ) (t : List Slot) (j : ℕ) → k ≤ 8 → (j < o + 32) ⊎ (o + 80 ≤ j) → get_or (put_slots k b o t) j 0
    ≡ get_or b j 0
unfolding put_slots
slots_other zero b o t j l h = refl
slots_other (suc k) b o t j l h =
    put_other (put_slots k b o t) o k (get_or t k no_slot) j
    (λ a e p q z. ⊎_elim (λ m. omega (arith, offset_low a e k))
    (λ m. omega (arith, offset_lt a e k (record { axis_lt = p; end_lt = q; slot_lt = omega arith }))) h)
    ∙ slots_other k b o t j (omega arith) h

-- each slot byte is the slot's
pub slots_same : (k : ℕ) (b : List ℕ) (o : ℕ) (t : List Slot) (a e i : ℕ) → k ≤ 8 → o + 80 ≤ length b → Corner a e i → i < k
    → get_or (put_slots k b o t) (o + slot_offset a e i) 0 ≡ corner_of a e (get_or t i no_slot)
unfolding put_slots
slots_same zero b o t a e i l fits c h = absurd (not-suc-le-zero h)
slots_same (suc k) b o t a e i l fits c h = go (slots_same k b o t a e i (omega arith) fits c) (eq-or-lt_of_le (le_of_suc-le-suc h))
  where
    go : (i < k → get_or (put_slots k b o t) (o + slot_offset a e i) 0 ≡ corner_of a e (get_or t i no_slot)) → (i ≡ k) ⊎ (i < k)
        → get_or (put_slot (put_slots k b o t) o k (get_or t k no_slot)) (o + slot_offset a e i) 0 ≡ corner_of a e (get_or t i no_slot)
    go rest (inl z) =
        rw z (put_same (put_slots k b o t) o k (get_or t k no_slot) a e c.axis_lt c.end_lt (omega arith) (rw length_puts fits))
    go rest (inr m) =
        put_other (put_slots k b o t) o k (get_or t k no_slot) (o + slot_offset a e i)
        (λ x y p q z. omega (arith, (offset_slot a e i x y k c (record { axis_lt = p; end_lt = q; slot_lt = omega arith }) (omega arith)).2)) ∙ rest m

-- one slot more
pub puts_next : (k : ℕ) (b s r : List ℕ) (o : ℕ) (t : List Slot) → s ≡ put_slots k b o t → r ≡ put_slot s o k (get_or t k no_slot) → r
    ≡ put_slots (k + 1) b o t
unfolding put_slots
puts_next k b s r o t e f = rw add-one (f ∙ ap (λ (l : List ℕ). put_slot l o k (get_or t k no_slot)) e)
