-- Meta bytes read back: a leaf code's count and offset, and the mask's ones.
use mathlib.Core.Path.{◌≡◌, refl, sym, ap, ap₂, ◌∙◌}
use Prim.Native.Nat.{ℕ, zero, suc, ◌+◌, ◌-◌, ◌*◌, ◌/◌, ◌%◌, ◌^◌, ◌<◌, ◌≤◌}
use native.Mathlib.Nat.{mul-one, zero-mul, zero-add}
use native.Mathlib.Omega.{arith}
use Rattle.words.specs.Le.{sum_of}
use Rattle.words.specs.Ones.{ones_below}
use Rattle.words.specs.Fields.{field}
use Rattle.words.proofs.Le.{field-sum}
use Rattle.words.proofs.Ranks.{bit_is, rank_step}
use Rattle.node.specs.Node.{inner_bit, code_count}
use Rattle.wide_layout.specs.Wide.{Slots}
use Rattle.wide_layout.specs.Sizes.{inner_children, inner_before}
use Rattle.record.specs.Record.{leaf_meta, inner_mask}
use Rattle.wide_layout.specs.Content.{Content, none, leaf_child, inner_child, content_at}
use Rattle.record.specs.Children.{child_bit, child_inner, bits_before}
use Rattle.record.proofs.Children.{mask_all, inner_next, inner_all, own_first}

-- ---- leaf codes
-- the top three bits have as many ones as the leaf has positions, and the low five say how many come before
pub record Code (meta count before : ℕ) : Type 0 where
  pub top : meta / 32 ≡ 2 ^ count - 1
  pub low : meta % 32 ≡ before
  pub ones : code_count meta ≡ count

pub code : (count before : ℕ) → count ≤ 3 → before < 32 → Code (leaf_meta count before) count before
unfolding ones_below
code zero before h l =
    let e : (0 + before) / 32 ≡ 0 = omega arith in
    record { top = e; low = omega arith; ones = ap (ones_below 3) e }
code (suc zero) before h l =
    let e : (32 + before) / 32 ≡ 1 = omega arith in
    record { top = e; low = omega arith; ones = ap (ones_below 3) e }
code (suc (suc zero)) before h l =
    let e : (96 + before) / 32 ≡ 3 = omega arith in
    record { top = e; low = omega arith; ones = ap (ones_below 3) e }
code (suc (suc (suc zero))) before h l =
    let e : (224 + before) / 32 ≡ 7 = omega arith in
    record { top = e; low = omega arith; ones = ap (ones_below 3) e }
code (suc (suc (suc (suc n)))) before h l = absurd (omega arith)

-- ---- the mask
bit_of : (c : Content) (i : ℕ) → child_bit c i ≡ child_inner c * 2 ^ (i * 1)
unfolding child_bit child_inner
bit_of none i = sym (zero-mul (2 ^ (i * 1)))
bit_of (leaf_child b ps) i = sym (zero-mul (2 ^ (i * 1)))
bit_of (inner_child b t) i = ap (λ (x : ℕ). 2 ^ x) (sym (mul-one i)) ∙ omega arith

pub inner_bit_most : (c : Content) → child_inner c < 2
unfolding child_inner
inner_bit_most none = omega arith
inner_bit_most (leaf_child b ps) = omega arith
inner_bit_most (inner_child b t) = omega arith

module _ {w : ℕ} (s : Slots w) where
  bits_sum : (k : ℕ) → bits_before s 0 k ≡ sum_of 1 k (λ j. child_inner (content_at s j))
  unfolding bits_before sum_of
  bits_sum zero = refl
  bits_sum (suc k) = ap₂ (λ (x y : ℕ). x + y) (bits_sum k) (ap (child_bit (content_at s k)) (zero-add k) ∙ bit_of (content_at s k) k)

  mask_sum : inner_mask s 0 ≡ sum_of 1 w (λ j. child_inner (content_at s j))
  mask_sum = mask_all s 0 ∙ bits_sum w

  mask_field : (k : ℕ) → k < w → field 1 k (inner_mask s 0) ≡ child_inner (content_at s k)
  mask_field k h = ap (field 1 k) mask_sum ∙ field-sum 1 w (λ j. child_inner (content_at s j)) (λ j l. inner_bit_most (content_at s j)) k h

  -- a slot's bit says whether it has an inner child
  pub mask_bit : (k : ℕ) → k < w → inner_bit (inner_mask s 0) k ≡ child_inner (content_at s k)
  mask_bit k h = sym (bit_is k (inner_mask s 0)) ∙ mask_field k h

  -- the rank of a slot is the count of inner children before it
  pub mask_rank : (k : ℕ) → k ≤ w → ones_below k (inner_mask s 0) ≡ inner_before s k
  unfolding ones_below
  mask_rank zero h = sym (own_first s).1
  mask_rank (suc k) h = omega (arith, rank_step k (inner_mask s 0), mask_field k h, mask_rank k (omega arith), inner_next s k)

  -- as many ones as inner children
  pub mask_ones : ones_below w (inner_mask s 0) ≡ inner_children s
  mask_ones = mask_rank w (omega arith) ∙ inner_all s
