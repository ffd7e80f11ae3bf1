-- The tests before the walk, as the code makes them.
use mathlib.Core.Path.{◌≡◌, sym, ◌∙◌}
use Prim.Native.Nat.{ℕ, ◌+◌, ◌*◌, ◌-◌, ◌<◌, ◌≤◌}
use native.Mathlib.Omega.{arith}
use lib.Dec.{ltb}
use Rattle.lists.proofs.Tells.{tells_true, tells_false, tells_same, tells_as, eqb_tells, leb_tells, ltb_tells}
use Rattle.causes.proofs.Causes.{first_here, first_later, passed_none}
use Rattle.bvh2.specs.Words.{tree_nodes}
use Rattle.bvh2.specs.FirstCause.{size_conditions, sizes_cause}

-- causes 1 and 2
pub sizes_1 : (words n : ℕ) → (words ≡ tree_nodes n * 7 → ⊥) → 1 ≡ sizes_cause words n
unfolding size_conditions
sizes_1 words n h = sym (first_here _ (tells_false (eqb_tells words (tree_nodes n * 7)) h))

pub sizes_2 : (words n : ℕ) → words ≡ tree_nodes n * 7 → 65536 < n → 2 ≡ sizes_cause words n
unfolding size_conditions
sizes_2 words n h k =
    sym (first_later 1 _ (tells_true (eqb_tells words (tree_nodes n * 7)) h) ∙ first_here _ (tells_false (leb_tells n 65536) (λ l. omega arith)))

pub sizes_0 : (words n : ℕ) → words ≡ tree_nodes n * 7 → n ≤ 65536 → 0 ≡ sizes_cause words n
unfolding size_conditions
sizes_0 words n h k =
    sym (passed_none (size_conditions words n) (tells_true (eqb_tells words (tree_nodes n * 7)) h, (tells_true (leb_tells n 65536) k, tt)))

-- a pair of children inside
pub inside_children : (n f m : ℕ) → m ≡ tree_nodes n - 1 → ltb f m ≡ ltb (f + 1) (tree_nodes n)
inside_children n f m e = tells_same (tells_as (ltb_tells f m) (λ i. omega arith) (λ i. omega arith)) (ltb_tells (f + 1) (tree_nodes n))
