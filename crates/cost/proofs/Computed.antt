-- The same tables with each node's row worked out once, for evaluating larger trees: `table` itself visits a child anew for each cost.
use mathlib.Core.Path.{◌≡◌, refl, ap}
use mathlib.Core.List.{List, [], ◌∷◌}
use Prim.Native.Nat.{ℕ, zero, suc, ◌+◌, ◌≤◌}
use native.Mathlib.Omega.{arith}
use lib.ListN.{get_or}
use lib.Ieee.{Float, nan}
use Rattle.aabb.specs.Aabb.{half_area}
use Rattle.bvh2.specs.Tree.{Tree, leaf, inner, leaves}
use Rattle.cost.specs.Table.{Decision, leaf_decision, decision, table}
use Rattle.cost.proofs.Entries.{decision_cong}

unfoldable pub seven : (ℕ → Decision) → List Decision
seven f = f 0 ∷ f 1 ∷ f 2 ∷ f 3 ∷ f 4 ∷ f 5 ∷ f 6 ∷ []

abbrev pub cost_in : List Decision → ℕ → Float
cost_in s k = (get_or s k (leaf_decision nan)).cost

unfoldable pub rows : {A : Type 0} → ℕ → Tree A → List Decision
unfolding seven
rows limit (leaf v box p) = let d = leaf_decision (half_area box) in seven (λ i. d)
rows limit (inner v box a b) =
    let l = rows limit a in
    let r = rows limit b in
    seven (decision (half_area box) (leaves a + leaves b) limit (cost_in l) (cost_in r))

at_seven : (f : ℕ → Decision) (d : Decision) (k : ℕ) → k ≤ 6 → get_or (seven f) k d ≡ f k
unfolding seven
at_seven f d zero h = refl
at_seven f d (suc zero) h = refl
at_seven f d (suc (suc zero)) h = refl
at_seven f d (suc (suc (suc zero))) h = refl
at_seven f d (suc (suc (suc (suc zero)))) h = refl
at_seven f d (suc (suc (suc (suc (suc zero))))) h = refl
at_seven f d (suc (suc (suc (suc (suc (suc zero)))))) h = refl
at_seven f d (suc (suc (suc (suc (suc (suc (suc k))))))) h = absurd (omega arith)

-- they are the tables
pub rows_are : {A : Type 0} (limit : ℕ) (t : Tree A) (k : ℕ) → k ≤ 6 → get_or (rows limit t) k (leaf_decision nan) ≡ table limit t k
unfolding rows table
rows_are limit (leaf v box p) k h = at_seven (λ i. leaf_decision (half_area box)) (leaf_decision nan) k h
rows_are limit (inner v box a b) k h =
    let l = cost_in (rows limit a) in
    let r = cost_in (rows limit b) in
    rw (at_seven (decision (half_area box) (leaves a + leaves b) limit l r) (leaf_decision nan) k h)
    (decision_cong (half_area box) (leaves a + leaves b) limit l (λ j. (table limit a j).cost) r (λ j. (table limit b j).cost) k
    (λ j u. ap (λ (d : Decision). d.cost) (rows_are limit a j u)) (λ j u. ap (λ (d : Decision). d.cost) (rows_are limit b j u)) h)
