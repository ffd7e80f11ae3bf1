-- A node's fields slot by slot: each is what the children one by one give.
use mathlib.Core.Path.{◌≡◌, refl, sym, ap, ap₂, ◌∙◌}
use mathlib.Core.List.{List, ◌++◌, append_assoc, append-nil}
use Prim.Native.Nat.{ℕ, zero, suc, ◌+◌, ◌^◌, ◌<◌}
use native.Mathlib.Nat.{add_assoc, add-zero, zero-add, le_of_suc-le-suc}
use native.Mathlib.Omega.{arith}
use lib.ListN.{length, get_or, length-append}
use Rattle.aabb.specs.declared.Aabb.{Aabb}
use Rattle.node.specs.Node.{no_slot}
use Rattle.wide_layout.specs.Wide.{Slots, end, empty, leaf, inner}
use Rattle.wide_layout.specs.Sizes.{inner_children, inner_before, own_count, own_before, own_positions}
use Rattle.record.specs.Record.{metas, inner_mask, grid_boxes, leaf_meta, inner_meta}
use Rattle.wide_layout.specs.Content.{Content, content_at}
use Rattle.record.specs.Children.{child_meta, child_bytes, child_bit, child_positions, child_inner, bits_before, positions_before}

-- ---- how many
pub metas-length : {w : ℕ} (s : Slots w) (i o : ℕ) → length (metas s i o) ≡ w
unfolding metas
metas-length end i o = refl
metas-length (empty s) i o = ap suc (metas-length s (i + 1) o)
metas-length (leaf b ps s) i o = ap suc (metas-length s (i + 1) (o + length ps))
metas-length (inner b t s) i o = ap suc (metas-length s (i + 1) o)

pub boxes_length : {w : ℕ} (b : Aabb) (s : Slots w) → length (grid_boxes b s) ≡ w
unfolding grid_boxes
boxes_length b end = refl
boxes_length b (empty s) = ap suc (boxes_length b s)
boxes_length b (leaf c ps s) = ap suc (boxes_length b s)
boxes_length b (inner c t s) = ap suc (boxes_length b s)

-- ---- meta bytes and boxes
here : (i : ℕ) → i ≡ i + 0
here i = sym (add-zero i)

next : (i k : ℕ) → i + 1 + k ≡ i + suc k
next i k = omega arith

pub meta_at_lem : {w : ℕ} (s : Slots w) (i o k : ℕ) → k < w → get_or (metas s i o) k 0 ≡ child_meta (content_at s k) (i + k) (o + own_before s k)
unfolding metas content_at child_meta
meta_at_lem end i o k h = absurd (omega arith)
meta_at_lem (empty s) i o zero h = refl
meta_at_lem (empty s) i o (suc k) h = meta_at_lem s (i + 1) o k (le_of_suc-le-suc h)
    ∙ ap (λ (x : ℕ). child_meta (content_at s k) x (o + own_before s k))
    (next i k)
meta_at_lem (leaf b ps s) i o zero h = ap (leaf_meta (length ps)) (here o)
meta_at_lem (leaf b ps s) i o (suc k) h =
    meta_at_lem s (i + 1) (o + length ps) k (le_of_suc-le-suc h)
    ∙ ap₂ (λ (x y : ℕ). child_meta (content_at s k) x y) (next i k) (add_assoc o (length ps) (own_before s k))
meta_at_lem (inner b t s) i o zero h = ap inner_meta (here i)
meta_at_lem (inner b t s) i o (suc k) h = meta_at_lem s (i + 1) o k (le_of_suc-le-suc h)
    ∙ ap (λ (x : ℕ). child_meta (content_at s k) x (o + own_before s k))
    (next i k)

pub bytes_at : {w : ℕ} (b : Aabb) (s : Slots w) (k : ℕ) → get_or (grid_boxes b s) k no_slot ≡ child_bytes b (content_at s k)
unfolding grid_boxes content_at child_bytes
bytes_at b end k = refl
bytes_at b (empty s) zero = refl
bytes_at b (empty s) (suc k) = bytes_at b s k
bytes_at b (leaf c ps s) zero = refl
bytes_at b (leaf c ps s) (suc k) = bytes_at b s k
bytes_at b (inner c t s) zero = refl
bytes_at b (inner c t s) (suc k) = bytes_at b s k

-- ---- the mask
module _ {w : ℕ} (r : Slots (suc w)) (s : Slots w) (i : ℕ) (tail : (k : ℕ) → content_at r (suc k) ≡ content_at s k) where
  bits_tail : (k : ℕ) → bits_before r i (suc k) ≡ child_bit (content_at r 0) i + bits_before s (i + 1) k
  unfolding bits_before
  bits_tail zero = ap (λ (x : ℕ). 0 + child_bit (content_at r 0) x) (add-zero i) ∙ omega arith
  bits_tail (suc k) =
      let e : child_bit (content_at r (suc k)) (i + suc k) ≡ child_bit (content_at s k) (i + 1 + k) = ap₂ child_bit (tail k) (sym (next i k)) in
      omega (arith, bits_tail k)

pub mask_all : {w : ℕ} (s : Slots w) (i : ℕ) → inner_mask s i ≡ bits_before s i w
unfolding inner_mask bits_before content_at child_bit
mask_all end i = refl
mask_all (empty {w} s) i = mask_all s (i + 1) ∙ sym (bits_tail (empty s) s i (λ k. refl) w ∙ zero-add (bits_before s (i + 1) w))
mask_all (leaf {w} b ps s) i = mask_all s (i + 1) ∙ sym (bits_tail (leaf b ps s) s i (λ k. refl) w ∙ zero-add (bits_before s (i + 1) w))
mask_all (inner {w} b t s) i = ap (λ (x : ℕ). 2 ^ i + x) (mask_all s (i + 1)) ∙ sym (bits_tail (inner b t s) s i (λ k. refl) w)

pub bits_next : {w : ℕ} (s : Slots w) (i k : ℕ) → bits_before s i (suc k) ≡ bits_before s i k + child_bit (content_at s k) (i + k)
unfolding bits_before
bits_next s i k = refl

-- ---- positions
module _ {w : ℕ} (r : Slots (suc w)) (s : Slots w) (tail : (k : ℕ) → content_at r (suc k) ≡ content_at s k) where
  positions_tail : (k : ℕ) → positions_before r (suc k) ≡ child_positions (content_at r 0) ++ positions_before s k
  unfolding positions_before
  positions_tail zero = sym (append-nil (child_positions (content_at r 0)))
  positions_tail (suc k) =
      ap₂ (λ (a : List ℕ) (c : Content). a ++ child_positions c) (positions_tail k) (tail k)
      ∙ append_assoc (child_positions (content_at r 0)) (positions_before s k) (child_positions (content_at s k))

pub positions-all : {w : ℕ} (s : Slots w) → own_positions s ≡ positions_before s w
unfolding positions_before content_at child_positions
positions-all end = refl
positions-all (empty {w} s) = positions-all s ∙ sym (positions_tail (empty s) s (λ k. refl) w)
positions-all (leaf {w} b ps s) = ap (λ (l : List ℕ). ps ++ l) (positions-all s) ∙ sym (positions_tail (leaf b ps s) s (λ k. refl) w)
positions-all (inner {w} b t s) = positions-all s ∙ sym (positions_tail (inner b t s) s (λ k. refl) w)

pub positions_next : {w : ℕ} (s : Slots w) (k : ℕ) → positions_before s (suc k) ≡ positions_before s k ++ child_positions (content_at s k)
unfolding positions_before
positions_next s k = refl

-- ---- counts
own_none : {w : ℕ} (s : Slots w) → own_before s 0 ≡ 0
own_none end = refl
own_none (empty s) = refl
own_none (leaf b ps s) = refl
own_none (inner b t s) = refl

inner_none : {w : ℕ} (s : Slots w) → inner_before s 0 ≡ 0
inner_none end = refl
inner_none (empty s) = refl
inner_none (leaf b ps s) = refl
inner_none (inner b t s) = refl

pub own_next : {w : ℕ} (s : Slots w) (k : ℕ) → own_before s (suc k) ≡ own_before s k + length (child_positions (content_at s k))
unfolding content_at child_positions
own_next end k = refl
own_next (empty s) zero = own_none s
own_next (empty s) (suc k) = own_next s k
own_next (leaf c qs s) zero = omega (arith, own_none s)
own_next (leaf c qs s) (suc k) = ap (λ (x : ℕ). length qs + x) (own_next s k) ∙ sym
    (add_assoc (length qs) (own_before s k) (length (child_positions (content_at s k))))
own_next (inner c u s) zero = own_none s
own_next (inner c u s) (suc k) = own_next s k

pub inner_next : {w : ℕ} (s : Slots w) (k : ℕ) → inner_before s (suc k) ≡ inner_before s k + child_inner (content_at s k)
unfolding content_at child_inner
inner_next end k = refl
inner_next (empty s) zero = inner_none s
inner_next (empty s) (suc k) = inner_next s k
inner_next (leaf c qs s) zero = inner_none s
inner_next (leaf c qs s) (suc k) = inner_next s k
inner_next (inner c u s) zero = ap suc (inner_none s)
inner_next (inner c u s) (suc k) = omega (arith, inner_next s k)

pub own_all : {w : ℕ} (s : Slots w) → own_before s w ≡ own_count s
own_all end = refl
own_all (empty s) = own_all s
own_all (leaf b ps s) = ap (λ (x : ℕ). length ps + x) (own_all s)
own_all (inner b t s) = own_all s

pub inner_all : {w : ℕ} (s : Slots w) → inner_before s w ≡ inner_children s
inner_all end = refl
inner_all (empty s) = inner_all s
inner_all (leaf b ps s) = inner_all s
inner_all (inner b t s) = ap suc (inner_all s)

pub own_first : {w : ℕ} (s : Slots w) → (own_before s 0 ≡ 0) × (inner_before s 0 ≡ 0)
own_first s = (own_none s, inner_none s)

-- as many positions as are counted
pub before_length : {w : ℕ} (s : Slots w) (k : ℕ) → length (positions_before s k) ≡ own_before s k
unfolding positions_before
before_length s zero = sym (own_none s)
before_length s (suc k) = length-append (positions_before s k) (child_positions (content_at s k)) ∙ omega (arith, before_length s k, own_next s k)
