-- A node's kind at entry 0 is Leaf exactly where its word's two high bits are 0.
use mathlib.Core.Path.{◌≡◌, refl, sym, ap, ◌∙◌}
use mathlib.Core.List.{List}
use Prim.Native.Nat.{ℕ, ◌+◌, ◌*◌, ◌/◌}
use native.Mathlib.Nat.{add-zero}
use lib.ListN.{get_or}
use Rattle.cost.specs.declared.Kind.{Kind as Told}
use Rattle.cost.specs.declared.Kind.TheVariants as K
use Rattle.cost.specs.Said.{kind_said, kind_in}
use Rattle.cost.specs.Table.{LEAF}
use Rattle.cost.proofs.Splits.{leaf_distribute, internal_leaf}
use Rattle.cost.proofs.Decisions.{kind_leaf}

first_word : (ds : List ℕ) (v : ℕ) → get_or ds (v * 7 + 0) 0 ≡ get_or ds (v * 7) 0
first_word ds v = ap (λ (i : ℕ). get_or ds i 0) (add-zero (v * 7))

pub leaf_bits : (ds : List ℕ) (v : ℕ) (k : Told) → kind_said k ≡ kind_in (get_or ds (v * 7 + 0) 0) → k ≡ K.Leaf
    → get_or ds (v * 7) 0 / 0x4000_0000 ≡ 0
leaf_bits ds v k e q = (kind_leaf (get_or ds (v * 7) 0)).0 (ap kind_in (sym (first_word ds v)) ∙ sym e ∙ ap kind_said q)

bits_leaf : (ds : List ℕ) (v : ℕ) → get_or ds (v * 7) 0 / 0x4000_0000 ≡ 0 → kind_in (get_or ds (v * 7 + 0) 0) ≡ LEAF
bits_leaf ds v z = ap kind_in (first_word ds v) ∙ (kind_leaf (get_or ds (v * 7) 0)).1 z

pub node_bits : (ds : List ℕ) (v : ℕ) (k : Told) → kind_said k ≡ kind_in (get_or ds (v * 7 + 0) 0) → (k ≡ K.Leaf → ⊥)
    → get_or ds (v * 7) 0 / 0x4000_0000 ≡ 0 → ⊥
node_bits ds v K.Leaf e n z = n refl
node_bits ds v K.Internal e n z = internal_leaf (e ∙ bits_leaf ds v z)
node_bits ds v K.Distribute e n z = leaf_distribute (sym (e ∙ bits_leaf ds v z))
