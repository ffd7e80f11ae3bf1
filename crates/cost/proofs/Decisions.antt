-- The kind that a decision word says. Of a table's word Splits.word_fields has the code and the splits.
use mathlib.Core.Path.{◌≡◌, refl, sym}
use Prim.Native.Nat.{ℕ, zero, suc, ◌/◌}
use Rattle.cost.specs.Said.{kind_in}
use Rattle.cost.specs.Table.{Kind, LEAF, INTERNAL, DISTRIBUTE, code}
use Rattle.cost.proofs.Splits.{leaf_distribute, internal_leaf}

-- a word with the code of a kind says that kind
pub kind_coded : (w : ℕ) (k : Kind) → w / 0x4000_0000 ≡ code k → kind_in w ≡ k
kind_coded w LEAF e = rw (e, kind_in)
kind_coded w INTERNAL e = rw (e, kind_in)
kind_coded w DISTRIBUTE e = rw (e, kind_in)

-- a word says LEAF exactly where its two high bits are 0
leaf_bits : (w k : ℕ) → w / 0x4000_0000 ≡ k → kind_in w ≡ LEAF → k ≡ 0
leaf_bits w zero e h = refl
leaf_bits w (suc zero) e h = absurd (internal_leaf (rw (e, kind_in) at h))
leaf_bits w (suc (suc k)) e h = absurd (leaf_distribute (sym (rw (e, kind_in) at h)))

pub kind_leaf : (w : ℕ) → (kind_in w ≡ LEAF → w / 0x4000_0000 ≡ 0) × (w / 0x4000_0000 ≡ 0 → kind_in w ≡ LEAF)
kind_leaf w = (leaf_bits w (w / 0x4000_0000) refl, kind_coded w LEAF)
