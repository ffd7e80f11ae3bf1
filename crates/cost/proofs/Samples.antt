-- Tables of chains, by evaluation.
use mathlib.Core.Path.{◌≡◌, refl}
use mathlib.Core.List.{[], ◌∷◌, map}
use Prim.Native.Nat.{ℕ, zero, suc}
use lib.IntN.{pos}
use lib.Ieee.{add, sub, mul, lt, of_bits, of_int, binary32}
use Rattle.ray.specs.declared.Vec3.{Vec3}
use Rattle.aabb.specs.Aabb.{half_area}
use Rattle.bvh2.specs.Tree.{Tree, leaf, inner, leaves}
use Rattle.cost.specs.Table.{best_of, decision, word}
use Rattle.cost.proofs.Computed.{rows, seven}

at : ℕ → ℕ → ℕ → Vec3
at x y z = record { x = of_int binary32 (pos x); y = of_int binary32 (pos y); z = of_int binary32 (pos z) }

-- a chain, whose tables `table` would take long to evaluate
chain : ℕ → Tree ℕ
unfolding at
chain zero = leaf 0 (record { min = at 3 0 0; max = at 7 1 1 }) 0
chain (suc d) = inner d (record { min = at 0 0 0; max = at 7 1 1 }) (leaf d (record { min = at d 0 0; max = at 7 1 1 }) d) (chain d)

chain_of_nine : map word (rows 3 (chain 8)) ≡ 0x4000_0006 ∷ 0x8000_0000 ∷ 0x8000_0000 ∷ 0x8000_0000 ∷ 0x8000_0000 ∷ 0x8000_0000 ∷ 0x8000_0005 ∷ []
unfolding at chain rows seven decision best_of leaves half_area of_bits of_int add sub mul lt
chain_of_nine = refl

-- boxes of no extent: all costs are zero, and a tie never makes a leaf
point : ℕ → Tree ℕ
unfolding at
point zero = leaf 0 (record { min = at 1 1 1; max = at 1 1 1 }) 0
point (suc d) = inner d (record { min = at 1 1 1; max = at 1 1 1 }) (leaf d (record { min = at 1 1 1; max = at 1 1 1 }) d) (point d)

all-zero : map word (rows 3 (point 2)) ≡ 0x4000_0006 ∷ 0x4000_0006 ∷ 0x4000_0006 ∷ 0x4000_0006 ∷ 0x4000_0006 ∷ 0x4000_0006 ∷ 0x4000_0006 ∷ []
unfolding at point rows seven decision best_of leaves half_area of_bits of_int add sub mul lt
all-zero = refl
