-- A node's slots read back from its meta bytes and its mask.
use mathlib.Core.Path.{◌≡◌, refl, sym, ap, ap₂, ◌∙◌}
use Prim.Native.Nat.{ℕ, zero, suc, ◌+◌, ◌%◌, ◌<◌, ◌≤◌}
use native.Mathlib.Nat.{zero-add}
use native.Mathlib.Omega.{arith}
use lib.ListN.{length, get_or}
use Rattle.words.specs.Ones.{ones_below}
use Rattle.node.specs.Node.{inner_bit}
use Rattle.wide_layout.specs.Wide.{Slots, end, empty, leaf, inner}
use Rattle.wide_layout.specs.Sizes.{own_before, own_at, positions_at, SmallLeaves}
use Rattle.wide_layout.proofs.Held.{at_length}
use Rattle.wide_layout.proofs.Sizes.{own_inside, own_most, own_at_most}
use Rattle.record.specs.Record.{metas, inner_mask}
use Rattle.wide_layout.specs.Content.{Content, none, leaf_child, inner_child, content_at}
use Rattle.record.specs.Children.{child_meta, child_inner, child_positions}
use Rattle.record.proofs.Children.{meta_at_lem}
use Rattle.record_shape.specs.Record.{slot_positions}
use Rattle.record_laws.proofs.Codes.{code, mask_bit}

-- one to three positions, if it is a leaf child
abbrev pub SmallChild : Content → Type 0
SmallChild none = Unit {0}
SmallChild (leaf_child b ps) = (1 ≤ length ps) × (length ps ≤ 3)
SmallChild (inner_child b t) = Unit {0}

pub small_child : {w : ℕ} (s : Slots w) → SmallLeaves s → (k : ℕ) → SmallChild (content_at s k)
unfolding content_at
small_child end h k = tt
small_child (empty s) h zero = tt
small_child (empty s) h (suc k) = small_child s h k
small_child (leaf b ps s) h zero = (h.0, h.1)
small_child (leaf b ps s) h (suc k) = small_child s h.2 k
small_child (inner b t s) h zero = tt
small_child (inner b t s) h (suc k) = small_child s h.1 k

-- which positions a slot has, and how many
pub positions_content : {w : ℕ} (s : Slots w) (k : ℕ) → positions_at s k ≡ child_positions (content_at s k)
unfolding content_at child_positions
positions_content end k = refl
positions_content (empty s) zero = refl
positions_content (empty s) (suc k) = positions_content s k
positions_content (leaf b ps s) zero = refl
positions_content (leaf b ps s) (suc k) = positions_content s k
positions_content (inner b t s) zero = refl
positions_content (inner b t s) (suc k) = positions_content s k

pub own_child : {w : ℕ} (s : Slots w) (k : ℕ) → own_at s k ≡ length (child_positions (content_at s k))
own_child s k = sym (at_length s k) ∙ ap length (positions_content s k)

child_count_lem : (c : Content) (i before : ℕ) → length (child_positions c) ≤ 3 → before < 32 → slot_positions (child_inner c) (child_meta c i before)
    ≡ length (child_positions c)
unfolding child_positions child_inner child_meta slot_positions ones_below
child_count_lem none i before h l = refl
child_count_lem (leaf_child b ps) i before h l = (code (length ps) before h l).ones
child_count_lem (inner_child b t) i before h l = refl

child_start : (c : Content) (i before : ℕ) → length (child_positions c) ≤ 3 → before < 32 → 0 < length (child_positions c)
    → child_meta c i before % 32
    ≡ before
unfolding child_positions child_meta
child_start none i before h l p = absurd (omega arith)
child_start (leaf_child b ps) i before h l p = (code (length ps) before h l).low
child_start (inner_child b t) i before h l p = absurd (omega arith)

-- slot k of a node with one to three positions to a leaf child
module _ (s : Slots 8) (small : SmallLeaves s) (k : ℕ) (l : k < 8) where
  pub meta_of : get_or (metas s 0 0) k 0 ≡ child_meta (content_at s k) k (own_before s k)
  meta_of = meta_at_lem s 0 0 k l ∙ ap₂ (λ (x y : ℕ). child_meta (content_at s k) x y) (zero-add k) (zero-add (own_before s k))

  pub bit_of : inner_bit (inner_mask s 0) k ≡ child_inner (content_at s k)
  bit_of = mask_bit s k l

  pub ends_24 : own_before s k + own_at s k ≤ 24
  ends_24 = omega (arith, own_inside s k, own_most s small)

  few : length (child_positions (content_at s k)) ≤ 3
  few = omega (arith, own_child s k, own_at_most s k small)

  pub slot_count : slot_positions (inner_bit (inner_mask s 0) k) (get_or (metas s 0 0) k 0) ≡ own_at s k
  slot_count =
      ap₂ (λ (x y : ℕ). slot_positions x y) bit_of meta_of
      ∙ child_count_lem (content_at s k) k (own_before s k) few (omega (arith, ends_24))
      ∙ sym (own_child s k)

  pub slot_start : 0 < own_at s k → get_or (metas s 0 0) k 0 % 32 ≡ own_before s k
  slot_start p =
      ap (λ (x : ℕ). x % 32) meta_of
      ∙ child_start (content_at s k) k (own_before s k) few (omega (arith, ends_24)) (omega (arith, own_child s k))
