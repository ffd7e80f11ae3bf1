-- A copy to the front of a list.
use mathlib.Core.List.{List, ◌++◌}
use mathlib.Core.Path.{◌≡◌, ap, ◌∙◌}
use Prim.Native.Nat.{ℕ, ◌+◌, ◌≤◌}
use native.Mathlib.Omega.{arith}
use lib.ListN.{length, take, drop}
use lib.Seq.{length-take-le}
use Rattle.lists.specs.Splice.{splice}

-- what was copied, in front of what stands behind as many of the list
pub copied : (before found front : List ℕ) (count : ℕ) → count ≤ length found → front ≡ take count found
    → front ++ drop count before ≡ splice before 0 (take count found)
unfolding splice
copied before found front count h e =
    let l : count ≡ 0 + length (take count found) = omega (arith, length-take-le count found h) in
    ap (λ (x : List ℕ). x ++ drop count before) e ∙ ap (λ (k : ℕ). take count found ++ drop k before) l
