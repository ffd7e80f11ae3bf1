-- Bytes and value of a node are each other's, and what the accessors read and `write_node` writes.
use mathlib.Core.Path.{◌≡◌, refl, sym, ap, ap₂, ◌∙◌, subst}
use mathlib.Core.Logic.{inl, ⊎_elim}
use mathlib.Core.List.{List, [], ◌∷◌, ◌++◌}
use Prim.Native.Nat.{ℕ, zero, suc, ◌+◌, ◌/◌, ◌^◌, ◌≤◌, ◌<◌}
use native.Mathlib.Nat.{add_assoc, zero-add, add-zero}
use native.Mathlib.Omega.{arith}
use lib.ListN.{length, take, drop, get_or, replicate, length-drop, get_or-append}
use lib.Seq.{ext_get_or, get_or-take, get_or-drop, length-take-le, take-add, drop-drop}
use Rattle.words.specs.Fields.{field}
use Rattle.words.specs.Le.{le_at, store_le}
use Rattle.words.specs.Loaded.{Loaded}
use Rattle.words.proofs.Le.{sum_congr, sum_whole, le-lt, le_byte}
use lib.Count.{ones}
use Rattle.words.proofs.Ranks.{ones_word}
use Rattle.words.proofs.Upto.{lt_or_ge}
use Rattle.words.proofs.Upto as upto
use Rattle.node.specs.declared.Node.{Node}
use Rattle.lists.specs.Splice.{splice}
use Rattle.node.specs.Bytes.{bytes}
use Rattle.node.specs.Node.{slot_offset, eight, slot_from, node_from, no_slot, head_bytes, put_slots, node_bytes, NodeFits, meta_word, MetaWord}
use Rattle.node.specs.Node.{code_count}
use Rattle.lists.proofs.Splice.{length-splice, written_next}
use Rattle.node.proofs.Splice.{store-splice}
use Rattle.node.proofs.Offsets.{Corner, offset_lt, offset_onto, corner_of, length_puts, slots_other, slots_same}

-- ---- eight values
pub eight_at : {A : Type 0} (f : ℕ → A) (d : A) (i : ℕ) → i < 8 → get_or (eight f) i d ≡ f i
eight_at f d = upto.eight (λ (i : ℕ). get_or (eight f) i d ≡ f i) refl refl refl refl refl refl refl refl

pub eight_congr : {A : Type 0} (f g : ℕ → A) → ((i : ℕ) → i < 8 → f i ≡ g i) → eight f ≡ eight g
eight_congr f g h =
    ext_get_or (f 0) (eight f) (eight g) refl (λ i l. eight_at f (f 0) i l ∙ h i l ∙ sym (eight_at g (f 0) i l))

pub eight_list : {A : Type 0} (l : List A) (d : A) → length l ≡ 8 → eight (λ i. get_or l i d) ≡ l
eight_list l d e = ext_get_or d (eight (λ i. get_or l i d)) l (sym e) (λ i h. eight_at (λ i. get_or l i d) d i h)

-- ---- the bytes
pub length-node : (n : Node) → length (node_bytes n) ≡ 80
unfolding node_bytes head_bytes
length-node n = length_puts 8 (head_bytes n ++ replicate 48 0) 0 n.slots

length_start : (n : Node) → length (head_bytes n ++ replicate 48 0) ≡ 80
unfolding head_bytes
length_start n = refl

length-head : (n : Node) → length (head_bytes n) ≡ 32
unfolding head_bytes
length-head n = refl

-- the first 32
pub node-head : (n : Node) (k : ℕ) → k < 32 → get_or (node_bytes n) k 0 ≡ get_or (head_bytes n) k 0
unfolding node_bytes
node-head n k l =
    slots_other 8 (head_bytes n ++ replicate 48 0) 0 n.slots k (omega arith) (inl l)
    ∙ get_or-append (head_bytes n) (replicate 48 0) 0 k (omega (arith, length-head n))

-- a slot's byte
pub node_corner : (n : Node) (a e i : ℕ) → Corner a e i → get_or (node_bytes n) (slot_offset a e i) 0 ≡ corner_of a e (get_or n.slots i no_slot)
unfolding node_bytes
node_corner n a e i c =
    ap (λ (k : ℕ). get_or (put_slots 8 (head_bytes n ++ replicate 48 0) 0 n.slots) k 0) (sym (zero-add (slot_offset a e i)))
    ∙ slots_same 8 (head_bytes n ++ replicate 48 0) 0 n.slots a e i (omega arith) (omega (arith, length_start n)) c c.slot_lt

-- ---- a node is its 80 bytes
module _ (s : List ℕ) (o : ℕ) (t : List ℕ) (q : ℕ) (same : (k : ℕ) → k < 80 → get_or s (o + k) 0 ≡ get_or t (q + k) 0) where
  same_word : (k : ℕ) → k + 4 ≤ 80 → le_at 4 s (o + k) ≡ le_at 4 t (q + k)
  unfolding le_at
  same_word k h =
      sum_congr 8 4 (λ i. get_or s (o + k + i) 0) (λ i. get_or t (q + k + i) 0)
      (λ i l. ap (λ (x : ℕ). get_or s x 0) (add_assoc o k i) ∙ same (k + i) (omega arith) ∙ ap (λ (x : ℕ). get_or t x 0) (sym (add_assoc q k i)))

  same_slot : (i : ℕ) → i < 8 → slot_from s o i ≡ slot_from t q i
  unfolding slot_from
  same_slot i l =
      rw (
        at 0 0 (omega arith) (omega arith),
        at 1 0 (omega arith) (omega arith),
        at 2 0 (omega arith) (omega arith),
        at 0 1 (omega arith) (omega arith),
        at 1 1 (omega arith) (omega arith),
        at 2 1 (omega arith) (omega arith),
      )
    where
      at : (a e : ℕ) → a < 3 → e < 2 → get_or s (o + slot_offset a e i) 0 ≡ get_or t (q + slot_offset a e i) 0
      at a e x y = same (slot_offset a e i) (offset_lt a e i (record { axis_lt = x; end_lt = y; slot_lt = l }))

  pub same-node : node_from s o ≡ node_from t q
  unfolding node_from
  same-node =
      let px : le_at 4 s o ≡ le_at 4 t q = ap (le_at 4 s) (sym (add-zero o)) ∙ same_word 0 (omega arith) ∙ ap (le_at 4 t) (add-zero q) in
      let metas : eight (λ i. get_or s (o + 24 + i) 0) ≡ eight (λ i. get_or t (q + 24 + i) 0) =
      eight_congr (λ i. get_or s (o + 24 + i) 0) (λ i. get_or t (q + 24 + i) 0)
      (λ i l. ap (λ (x : ℕ). get_or s x 0) (add_assoc o 24 i) ∙ same (24 + i) (omega arith) ∙ ap (λ (x : ℕ). get_or t x 0) (sym (add_assoc q 24 i)))
      in
      rw (
        px,
        same_word 4 (omega arith),
        same_word 8 (omega arith),
        same 12 (omega arith),
        same 13 (omega arith),
        same 14 (omega arith),
        same 15 (omega arith),
        same_word 16 (omega arith),
        same_word 20 (omega arith),
        metas,
        eight_congr (slot_from s o) (slot_from t q) same_slot,
      )

-- ---- value to bytes to value
below_four : (P : ℕ → Type 0) → P 0 → P 1 → P 2 → P 3 → (i : ℕ) → i < 4 → P i
below_four P a b c d zero l = a
below_four P a b c d (suc zero) l = b
below_four P a b c d (suc (suc zero)) l = c
below_four P a b c d (suc (suc (suc zero))) l = d
below_four P a b c d (suc (suc (suc (suc i)))) l = absurd (omega arith)

-- a word whose four bytes stand in a list
word_at : (b : List ℕ) (at v : ℕ) → v < 2 ^ 32 → ((i : ℕ) → i < 4 → get_or b (at + i) 0 ≡ field 8 i v) → le_at 4 b at ≡ v
unfolding le_at
word_at b at v l h = sum_congr 8 4 (λ i. get_or b (at + i) 0) (λ i. field 8 i v) h ∙ sum_whole 8 4 v l

module _ (n : Node) (r : NodeFits n) where
  word : (at v : ℕ) → at + 4 ≤ 32 → v < 2 ^ 32 → ((i : ℕ) → i < 4 → get_or (head_bytes n) (at + i) 0 ≡ field 8 i v) → le_at 4 (node_bytes n) at ≡ v
  word at v h l f = word_at (node_bytes n) at v l (λ i m. node-head n (at + i) (omega arith) ∙ f i m)

  slot : (i : ℕ) → i < 8 → slot_from (node_bytes n) 0 i ≡ get_or n.slots i no_slot
  unfolding slot_from
  slot i l =
      rw (
        zero-add (slot_offset 0 0 i),
        zero-add (slot_offset 1 0 i),
        zero-add (slot_offset 2 0 i),
        zero-add (slot_offset 0 1 i),
        zero-add (slot_offset 1 1 i),
        zero-add (slot_offset 2 1 i),
        at 0 0 (omega arith) (omega arith),
        at 1 0 (omega arith) (omega arith),
        at 2 0 (omega arith) (omega arith),
        at 0 1 (omega arith) (omega arith),
        at 1 1 (omega arith) (omega arith),
        at 2 1 (omega arith) (omega arith),
      )
    where
      at : (a e : ℕ) → a < 3 → e < 2 → get_or (node_bytes n) (slot_offset a e i) 0 ≡ corner_of a e (get_or n.slots i no_slot)
      at a e x y = node_corner n a e i (record { axis_lt = x; end_lt = y; slot_lt = l })

  -- the value of the bytes of a value
  pub node_of_bytes : node_from (node_bytes n) 0 ≡ n
  unfolding node_from head_bytes field
  node_of_bytes =
      let metas : eight (λ i. get_or (node_bytes n) (24 + i) 0) ≡ n.child_meta =
      eight_congr (λ i. get_or (node_bytes n) (24 + i) 0) (λ i. get_or n.child_meta i 0)
      (upto.eight (λ i. get_or (node_bytes n) (24 + i) 0 ≡ get_or n.child_meta i 0) (node-head n 24 (omega arith)) (node-head n 25 (omega arith))
      (node-head n 26 (omega arith))
      (node-head n 27 (omega arith)) (node-head n 28 (omega arith)) (node-head n 29 (omega arith)) (node-head n 30 (omega arith))
      (node-head n 31 (omega arith)))
      ∙ eight_list n.child_meta 0 r.metas in
      rw (
        word 0 n.px (omega arith) r.px (below_four (λ i. get_or (head_bytes n) (0 + i) 0 ≡ field 8 i n.px) refl refl refl refl),
        word 4 n.py (omega arith) r.py (below_four (λ i. get_or (head_bytes n) (4 + i) 0 ≡ field 8 i n.py) refl refl refl refl),
        word 8 n.pz (omega arith) r.pz (below_four (λ i. get_or (head_bytes n) (8 + i) 0 ≡ field 8 i n.pz) refl refl refl refl),
        node-head n 12 (omega arith),
        node-head n 13 (omega arith),
        node-head n 14 (omega arith),
        node-head n 15 (omega arith),
        word 16 n.child_base_idx (omega arith) r.child_base
            (below_four (λ i. get_or (head_bytes n) (16 + i) 0 ≡ field 8 i n.child_base_idx) refl refl refl refl),
        word 20 n.primitive_base_idx (omega arith) r.primitive_base
            (below_four (λ i. get_or (head_bytes n) (20 + i) 0 ≡ field 8 i n.primitive_base_idx) refl refl refl refl),
        metas,
        eight_congr (slot_from (node_bytes n) 0) (λ i. get_or n.slots i no_slot) slot,
        eight_list n.slots no_slot r.slots,
      )

-- ---- bytes to value to bytes
part_is : (s : List ℕ) (at : ℕ) (l : List ℕ) (n : ℕ) → length l ≡ n → at + n ≤ length s → ((i : ℕ) → i < n → get_or l i 0 ≡ get_or s (at + i) 0) → l
    ≡ take n (drop at s)
part_is s at l n e h f =
    let m : length (take n (drop at s)) ≡ n = length-take-le n (drop at s) (rw length-drop (omega arith)) in
    ext_get_or 0 l (take n (drop at s)) (e ∙ sym m)
    (λ i k. f i (omega arith) ∙ sym (get_or-take n (drop at s) i 0 (omega arith) ∙ get_or-drop at s i 0))

module _ (s : List ℕ) (o : ℕ) (fits : o + 80 ≤ length s) (small : (k : ℕ) → k < 80 → get_or s (o + k) 0 < 256) where
  word_bytes : (k : ℕ) → k + 4 ≤ 80 → (i : ℕ) → i < 4 → get_or (bytes 4 (le_at 4 s (o + k))) i 0 ≡ get_or s (o + k + i) 0
  unfolding field
  word_bytes k h i l =
      below_four (λ j. get_or (bytes 4 (le_at 4 s (o + k))) j 0 ≡ field 8 j (le_at 4 s (o + k))) refl refl refl refl i l
      ∙ le_byte 4 s (o + k) (λ j m. subst (λ (x : ℕ). get_or s x 0 < 256) (sym (add_assoc o k j)) (small (k + j) (omega arith))) i l

  word-part : (k : ℕ) → k + 4 ≤ 80 → bytes 4 (le_at 4 s (o + k)) ≡ take 4 (drop (o + k) s)
  word-part k h = part_is s (o + k) (bytes 4 (le_at 4 s (o + k))) 4 refl (omega arith) (word_bytes k h)

  -- one part behind the other
  more : (k n m : ℕ) (a b : List ℕ) → a ≡ take n (drop (o + k) s) → b ≡ take m (drop (o + (k + n)) s) → a ++ b ≡ take (n + m) (drop (o + k) s)
  more k n m a b e f =
      ap₂ (λ (x y : List ℕ). x ++ y) e (f ∙ ap (λ (x : ℕ). take m (drop x s)) (sym (add_assoc o k n)) ∙ ap (take m) (sym (drop-drop n (o + k) s)))
      ∙ sym (take-add n m (drop (o + k) s))

  head-part : head_bytes (node_from s o) ≡ take 32 (drop o s)
  unfolding head_bytes node_from
  head-part =
      let px : bytes 4 (le_at 4 s o) ≡ take 4 (drop (o + 0) s) = ap (λ (x : ℕ). bytes 4 (le_at 4 s x)) (sym (add-zero o))
      ∙ word-part 0 (omega arith) in
      let metas : eight (λ i. get_or (eight (λ j. get_or s (o + 24 + j) 0)) i 0) ≡ take 8 (drop (o + 24) s) =
      part_is s (o + 24) (eight (λ i. get_or (eight (λ j. get_or s (o + 24 + j) 0)) i 0)) 8 refl (omega arith)
      (λ i l. eight_at (λ j. get_or s (o + 24 + j) 0) 0 i l) in
      let small4 : get_or s (o + 12) 0 ∷ get_or s (o + 13) 0 ∷ get_or s (o + 14) 0 ∷ get_or s (o + 15) 0 ∷ [] ≡ take 4 (drop (o + 12) s) =
      part_is s (o + 12) (get_or s (o + 12) 0 ∷ get_or s (o + 13) 0 ∷ get_or s (o + 14) 0 ∷ get_or s (o + 15) 0 ∷ []) 4 refl (omega arith)
      (below_four (λ i. get_or (get_or s (o + 12) 0 ∷ get_or s (o + 13) 0 ∷ get_or s (o + 14) 0 ∷ get_or s (o + 15) 0 ∷ []) i 0
      ≡ get_or s (o + 12 + i) 0)
      (ap (λ (x : ℕ). get_or s x 0) (omega arith)) (ap (λ (x : ℕ). get_or s x 0) (omega arith)) (ap (λ (x : ℕ). get_or s x 0) (omega arith))
      (ap (λ (x : ℕ). get_or s x 0) (omega arith))) in
      more 0 4 28 _ _ px (more 4 4 24 _ _ (word-part 4 (omega arith)) (more 8 4 20 _ _ (word-part 8 (omega arith)) (more 12 4 16 _ _ small4
      (more 16 4 12 _ _ (word-part 16 (omega arith)) (more 20 4 8 _ _ (word-part 20 (omega arith)) metas)))))
      ∙ ap (λ (x : ℕ). take 32 (drop x s)) (add-zero o)

  corner_from : (a e i : ℕ) → a < 3 → e < 2 → corner_of a e (slot_from s o i) ≡ get_or s (o + slot_offset a e i) 0
  unfolding slot_from
  corner_from zero zero i p q = refl
  corner_from zero (suc zero) i p q = refl
  corner_from zero (suc (suc e)) i p q = absurd (omega arith)
  corner_from (suc zero) zero i p q = refl
  corner_from (suc zero) (suc zero) i p q = refl
  corner_from (suc zero) (suc (suc e)) i p q = absurd (omega arith)
  corner_from (suc (suc zero)) zero i p q = refl
  corner_from (suc (suc zero)) (suc zero) i p q = refl
  corner_from (suc (suc zero)) (suc (suc e)) i p q = absurd (omega arith)
  corner_from (suc (suc (suc a))) e i p q = absurd (omega arith)

  byte_back : (k : ℕ) → k < 80 → get_or (node_bytes (node_from s o)) k 0 ≡ get_or s (o + k) 0
  unfolding node_from
  byte_back k h =
      ⊎_elim (λ p. node-head (node_from s o) k p ∙ ap (λ (l : List ℕ). get_or l k 0) head-part ∙ get_or-take 32 (drop o s) k 0 p
      ∙ get_or-drop o s k 0)
      (λ p. let w = offset_onto k p h in
      subst (λ (x : ℕ). get_or (node_bytes (node_from s o)) x 0 ≡ get_or s (o + x) 0) w.is
      (node_corner (node_from s o) w.axis w.end w.slot w.corner
      ∙ ap (corner_of w.axis w.end) (eight_at (slot_from s o) no_slot w.slot w.corner.slot_lt)
      ∙ corner_from w.axis w.end w.slot w.corner.axis_lt w.corner.end_lt)) (lt_or_ge k 32)

  -- the bytes of the value of 80 bytes
  pub bytes_of_node : node_bytes (node_from s o) ≡ take 80 (drop o s)
  bytes_of_node = part_is s o (node_bytes (node_from s o)) 80 (length-node (node_from s o)) fits byte_back

  -- what is read is in range
  pub node_in_range : NodeFits (node_from s o)
  unfolding node_from
  node_in_range = record {
    px = subst (λ (x : ℕ). le_at 4 s x < 2 ^ 32) (add-zero o) (word_lt 0 (omega arith));
    py = word_lt 4 (omega arith);
    pz = word_lt 8 (omega arith);
    child_base = word_lt 16 (omega arith);
    primitive_base = word_lt 20 (omega arith);
    metas = refl;
    slots = refl;
  }
    where
      word_lt : (k : ℕ) → k + 4 ≤ 80 → le_at 4 s (o + k) < 2 ^ 32
      word_lt k h = le-lt 4 s (o + k) (λ j m. subst (λ (x : ℕ). get_or s x 0 < 256) (sym (add_assoc o k j)) (small (k + j) (omega arith)))

-- ---- as the accessors read them
pub metas_at : (s : List ℕ) (o i : ℕ) → i < 8 → get_or (node_from s o).child_meta i 0 ≡ get_or s (o + 24 + i) 0
unfolding node_from
metas_at s o i l = eight_at (λ j. get_or s (o + 24 + j) 0) 0 i l

pub slots_at_lem : (s : List ℕ) (o i : ℕ) → i < 8 → get_or (node_from s o).slots i no_slot ≡ slot_from s o i
unfolding node_from
slots_at_lem s o i l = eight_at (slot_from s o) no_slot i l

pub meta_word_lem : (s : List ℕ) (o w : ℕ) → Loaded 8 s (o + 24) w → MetaWord (node_from s o) w
unfolding meta_word le_at
meta_word_lem s o w h = record {
  value =
      h.value
      ∙ sum_congr 8 8 (λ i. get_or s (o + 24 + i) 0) (λ i. get_or (node_from s o).child_meta i 0) (λ i l. sym (metas_at s o i l));
  bytes = λ i l. h.bytes i l ∙ sym (metas_at s o i l);
}

-- how many ones the three high bits of a meta byte have
pub count_ones : (m : ℕ) → m < 256 → ones (m / 32) ≡ code_count m
count_ones m h = ones_word 3 (m / 32) (omega arith)

-- ---- as `write_head` writes them
-- a word behind what was written
word_next : (s : List ℕ) (o k : ℕ) (a t u : List ℕ) (v : ℕ) → length a ≡ k → o + (k + 4) ≤ length s → t ≡ splice s o a → u ≡ store_le 4 t (o + k) v
    → u ≡ splice s o (a ++ bytes 4 v)
word_next s o k a t u v e h f g =
    let l : length t ≡ length s = ap length f ∙ length-splice s o a (omega arith) in
    written_next s o k 4 a (bytes 4 v) t u e refl h f (g ∙ store-splice t (o + k) v (omega arith))

pub head_written : (s : List ℕ) (o : ℕ) (n : Node) (t₁ t₂ t₃ t₄ t₅ t₆ t₇ : List ℕ) → o + 80 ≤ length s
    → t₁ ≡ store_le 4 s o n.px
    → t₂ ≡ store_le 4 t₁ (o + 4) n.py
    → t₃ ≡ store_le 4 t₂ (o + 8) n.pz
    → t₄ ≡ splice t₃ (o + 12) (n.ex ∷ n.ey ∷ n.ez ∷ n.imask ∷ [])
    → t₅ ≡ store_le 4 t₄ (o + 16) n.child_base_idx
    → t₆ ≡ store_le 4 t₅ (o + 20) n.primitive_base_idx
    → t₇ ≡ splice t₆ (o + 24) (eight (λ i. get_or n.child_meta i 0))
    → t₇ ≡ splice s o (head_bytes n)
unfolding head_bytes
head_written s o n t₁ t₂ t₃ t₄ t₅ t₆ t₇ h e₁ e₂ e₃ e₄ e₅ e₆ e₇ =
    let f₁ : t₁ ≡ splice s o (bytes 4 n.px) = e₁ ∙ store-splice s o n.px (omega arith) in
    let f₂ = word_next s o 4 _ t₁ t₂ n.py refl (omega arith) f₁ e₂ in
    let f₃ = word_next s o 8 _ t₂ t₃ n.pz refl (omega arith) f₂ e₃ in
    let f₄ = written_next s o 12 4 _ (n.ex ∷ n.ey ∷ n.ez ∷ n.imask ∷ []) t₃ t₄ refl refl (omega arith) f₃ e₄ in
    let f₅ = word_next s o 16 _ t₄ t₅ n.child_base_idx refl (omega arith) f₄ e₅ in
    let f₆ = word_next s o 20 _ t₅ t₆ n.primitive_base_idx refl (omega arith) f₅ e₆ in
    written_next s o 24 8 _ (eight (λ i. get_or n.child_meta i 0)) t₆ t₇ refl refl (omega arith) f₆ e₇
