-- The mask slot by slot.
use mathlib.Core.Path.{◌≡◌, refl, sym, ap, ap₂, ◌∙◌}
use mathlib.Core.Bool.{Bool, true, false, ◌&&◌, cond}
use mathlib.Core.List.{List}
use Prim.Native.Nat.{ℕ, ◌+◌, ◌*◌, ◌/◌, ◌%◌, ◌^◌, ◌<◌}
use native.Mathlib.Nat.{mod-eq_of_lt, mul_comm, zero-mul}
use native.Mathlib.Numerals.{add-one}
use native.Mathlib.Omega.{arith}
use lib.ListN.{get_or}
use lib.Bits.{bit_and, bit_or, and_mask, and_zero_r}
use Rattle.words.specs.Fields.{field}
use Rattle.words.specs.Ors.{or_of}
use Rattle.words.proofs.Fields.{field_lt, field_is, field_and}
use Rattle.words.proofs.Ors.{or_of_congr}
use Rattle.words.proofs.Upto.{equal}
use Rattle.ray.specs.declared.Ray.{Ray}
use Rattle.gate.specs.Gates.{Gates, Opened}
use Rattle.node.specs.declared.Node.{Node}
use Rattle.node.specs.declared.Slot.{Slot}
use Rattle.node.specs.Node.{node_from, MetaWord}
use Rattle.node.proofs.RoundTrip.{slots_at_lem}
use Rattle.node_meta.specs.Meta.{child_bits, bit_index, each_byte}
use Rattle.node_meta.proofs.Decode.{child_byte, index_byte, index_lt}
use Rattle.node_slot.specs.Mask.{only_if, hit_bits, passes_slot, passes_open, slot_hit, hit_mask_of, hit_mask}
use Rattle.node_slot.specs.Slot.{passes}
use Rattle.node_slot.specs.Parts.{ray_grid_of, ends_of, slot_passes, word_hit, word_mask, Marks, PlacesFit}
use Rattle.node_slot.specs.declared.RayGrid.{RayGrid}
use Rattle.node_slot.specs.declared.Ends.{Ends}
use Rattle.node_slot.proofs.Boxes.{slot_is}

-- ---- a turn of the mask's loop

-- byte k of w, shifted down and cut off
byte_is : (w k a : ℕ) → a ≡ field 8 0 (w / 2 ^ (8 * k)) → a ≡ field 8 k w
unfolding field
byte_is w k a e = e ∙ rw (mul_comm 8 k) (sym (field_is 8 k w))

pub place_lt : (index k b : ℕ) → PlacesFit index → k < 8 → b ≡ field 8 0 (index / 2 ^ (8 * k)) → b < 32
place_lt index k b p l e = let q = byte_is index k b e in omega (arith, p.place k l)

pub turn : (child index k mask a b : ℕ) → mask ≡ word_mask k child index → a ≡ field 8 0 (child / 2 ^ (8 * k)) → b ≡ field 8 0 (index / 2 ^ (8 * k))
    → bit_or mask ((a * 2 ^ b) % 2 ^ 32) ≡ word_mask (k + 1) child index
unfolding word_mask word_hit or_of
turn child index k mask a b e p q =
    ap₂ bit_or e (ap₂ (λ (c i : ℕ). (c * 2 ^ i) % 2 ^ 32) (byte_is child k a p) (byte_is index k b q))
    ∙ ap (λ (z : ℕ). word_mask z child index) (sym (add-one k))

-- ---- the decoded words
pub placed : (o w : ℕ) → o < 8 → PlacesFit (each_byte (bit_index o) w)
placed o w h = record { place = λ k l. rw (index_byte o w k h l) (index_lt o (field 8 k w) h) }

-- a mark lets a slot's bits through, all of them
through : (p : Bool) (c i : ℕ) → c < 8 → (bit_and c (only_if p 7) * 2 ^ i) % 2 ^ 32 ≡ only_if p ((c * 2 ^ i) % 2 ^ 32)
through true c i h = ap (λ (x : ℕ). (x * 2 ^ i) % 2 ^ 32) (and_mask c 3 ∙ mod-eq_of_lt h)
through false c i h = rw (and_zero_r c, zero-mul (2 ^ i))

child_bits_lt : (meta : ℕ) → meta < 256 → child_bits meta < 8
child_bits_lt meta h = omega arith

-- for any test of slots
pub mask_is : (v : Node) (test : ℕ → Bool) (o w marks : ℕ) (pass : ℕ → Bool) → o < 8 → MetaWord v w → Marks pass marks
    → ((k : ℕ) → k < 8 → pass k ≡ test k)
    → word_mask 8 (bit_and (each_byte child_bits w) marks) (each_byte (bit_index o) w) ≡ hit_mask_of test v o
unfolding word_mask hit_mask_of word_hit slot_hit hit_bits
mask_is v test o w marks pass h m g p =
    or_of_congr 8 (word_hit (bit_and (each_byte child_bits w) marks) (each_byte (bit_index o) w)) (slot_hit test v o)
    (λ k l. rw (field_and 8 k (each_byte child_bits w) marks, child_byte w k l, index_byte o w k h l, g.byte k l, p k l, ← m.bytes k l)
    (through (test k) (child_bits (field 8 k w)) (bit_index o (field 8 k w)) (child_bits_lt (field 8 k w) (field_lt 8 k w))))

-- where nothing is marked there is nothing in the mask of a test that passes no other slots
unmarked : (p : Bool) → only_if p 7 ≡ 0 → p ≡ false
unmarked true e = absurd (omega arith)
unmarked false e = refl

pub zero_field : (k : ℕ) → k < 8 → field 8 k 0 ≡ 0
unfolding field
zero_field = equal (λ k. field 8 k 0) (λ k. 0) 8 tt

no_bits : or_of 8 (λ k. 0) ≡ 0
unfolding or_of
no_bits = refl

pub mask_none : (v : Node) (test : ℕ → Bool) (o marks : ℕ) (pass : ℕ → Bool) → marks ≡ 0 → Marks pass marks
    → ((k : ℕ) → k < 8 → pass k ≡ false → test k ≡ false) → hit_mask_of test v o ≡ 0
unfolding hit_mask_of slot_hit
mask_none v test o marks pass z g p =
    or_of_congr 8 (slot_hit test v o) (λ k. 0)
    (λ k l. ap (λ (b : Bool). only_if b (hit_bits o (get_or v.child_meta k 0)))
    (p k l (unmarked (pass k) (sym (g.byte k l) ∙ ap (field 8 k) z ∙ zero_field k l))))
    ∙ no_bits

-- the marks of open slots are those of slots that are passed and open
kept : (g : Gates) (number marks on : ℕ) (pass : ℕ → Bool) → Marks pass marks → Opened g number marks on
    → Marks (λ k. g.opens number k && pass k) on
kept g number marks on pass m o = record {
  byte = λ k l. o.byte k l ∙ ap (λ (n : ℕ). cond (g.opens number k) n 0) (m.byte k l) ∙ both (g.opens number k) (pass k);
}
  where
    both : (a b : Bool) → cond a (only_if b 7) 0 ≡ only_if (a && b) 7
    both true b = refl
    both false b = refl

-- ---- the whole test, as code makes it up
module _ (gates : Gates) (number : ℕ) (s : List ℕ) (o : ℕ) (r : Ray) (octant : ℕ) (e : Ends) (g : RayGrid) (marks : ℕ) (p : e ≡ ends_of r.direction)
    (q : g ≡ ray_grid_of (node_from s o) r)
    (m : Marks (slot_passes s o e g) marks) where
  slot_passed : (k : ℕ) → k < 8 → slot_passes s o e g k ≡ passes_slot (node_from s o) r k
  slot_passed k l = rw (p, q) (slot_is s o k (node_from s o) r) ∙ ap (λ (t : Slot). passes (node_from s o) t r) (sym (slots_at_lem s o k l))

  pub nothing_marked : marks ≡ 0 → hit_mask gates number (node_from s o) r octant ≡ 0
  unfolding hit_mask
  nothing_marked z =
      mask_none (node_from s o) (passes_open gates number (node_from s o) r) octant marks (slot_passes s o e g) z m
      (λ k l f. closed (gates.opens number k) (passes_slot (node_from s o) r k) (sym (slot_passed k l) ∙ f))
    where
      closed : (a b : Bool) → b ≡ false → a && b ≡ false
      closed true b f = f
      closed false b f = refl

  pub mask_whole : (on w child index : ℕ) → Opened gates number marks on → octant < 8 → MetaWord (node_from s o) w
      → child ≡ each_byte child_bits w → index ≡ each_byte (bit_index octant) w
      → word_mask 8 (bit_and child on) index ≡ hit_mask gates number (node_from s o) r octant
  unfolding hit_mask
  mask_whole on w child index a l d f h =
      rw (f, h)
      (mask_is (node_from s o) (passes_open gates number (node_from s o) r) octant w on (λ k. gates.opens number k && slot_passes s o e g k) l d
      (kept gates number marks on (slot_passes s o e g) m a) (λ k z. ap (λ (b : Bool). gates.opens number k && b) (slot_passed k z)))
