-- What `all` gives over the words of a list: the test at every one of them.
use mathlib.Core.Bool.{Bool, true}
use mathlib.Core.List.{List, [], ◌∷◌}
use mathlib.Core.Path.{◌≡◌, sym, ◌∙◌}
use Prim.Native.Nat.{ℕ, zero, suc, ◌<◌}
use native.Mathlib.Omega.{arith}
use lib.ListN.{length, get_or}
use Rattle.std.specs.List.{list_all}
use Rattle.lists.specs.Below.{all_below}
use Rattle.lists.proofs.Tells.{Tells, passes, tells_as, tells_same, and_tells, true_tells, below_tells}

each_tells : (f : ℕ → Bool) (l : List ℕ) → Tells ((i : ℕ) → i < length l → f (get_or l i 0) ≡ true) (list_all f l)
each_tells f [] = passes (λ i h. absurd (omega arith))
each_tells f (x ∷ l) =
    tells_as (and_tells (true_tells (f x)) (each_tells f l)) (λ h i k. at h.0 h.1 i k) (λ h. (h 0 (omega arith), λ i k. h (suc i) (omega arith)))
  where
    at : f x ≡ true → ((i : ℕ) → i < length l → f (get_or l i 0) ≡ true) → (i : ℕ) → i < suc (length l) → f (get_or (x ∷ l) i 0) ≡ true
    at e h zero k = e
    at e h (suc i) k = h i (omega arith)

-- two tests that agree on every word
pub each_below : (f g : ℕ → Bool) → ((w : ℕ) → f w ≡ g w) → (l : List ℕ) → list_all f l ≡ all_below (λ i. g (get_or l i 0)) (length l)
each_below f g same l =
    let at : ℕ → Bool = λ i. g (get_or l i 0) in
    tells_same
    (tells_as (each_tells f l) (λ h i k. sym (same (get_or l i 0)) ∙ h i k) (λ h i k. same (get_or l i 0) ∙ h i k))
    (below_tells (λ i. at i ≡ true) at (λ i. true_tells (at i)) (length l))
