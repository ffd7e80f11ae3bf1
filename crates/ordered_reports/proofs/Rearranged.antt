-- Of a list rearranged the same panes are there; and first causes that are the same one by one.
use mathlib.Core.Bool.{Bool, Bool-set, true, false, ◌&&◌}
use mathlib.Core.List.{List, ◌++◌, Perm, Permᴰ}
use mathlib.Core.Logic.{∥∥₁_elim}
use mathlib.Core.Path.{◌≡◌, refl, sym, ap, ap₂, ◌∙◌}
use native.Mathlib.Nat.{ℕ_set}
use native.Mathlib.Omega.{arith}
use Prim.Native.Nat.{ℕ, zero, suc, ◌+◌}
use lib.Dec.{ltb}
use Rattle.lists.specs.Sums.{sum_over}
use Rattle.causes.specs.Causes.{Condition, first_cause}
use Rattle.causes.proofs.Causes.{append_first}
use Rattle.loss.specs.Loss.{all_there}

-- ---- lists rearranged

swapped : (x y z : Bool) → x && (y && z) ≡ y && (x && z)
swapped true y z = refl
swapped false true z = refl
swapped false false z = refl

module _ (panes : ℕ) where
  there_arranged : {a b : List ℕ} → Permᴰ a b → all_there panes a ≡ all_there panes b
  unfolding all_there
  there_arranged Permᴰ.nil = refl
  there_arranged (Permᴰ.cons e p) = ap₂ ◌&&◌ (ap (λ (k : ℕ). ltb k panes) e) (there_arranged p)
  there_arranged (Permᴰ.swap {a = x} {b = y} {l = l} e g) =
      swapped (ltb x panes) (ltb y panes) (all_there panes l)
      ∙ ap₂ (λ (j k : ℕ). ltb j panes && (ltb k panes && all_there panes l)) g e
  there_arranged (Permᴰ.trans p q) = there_arranged p ∙ there_arranged q

  -- The panes of a list are there exactly if those of the list rearranged are.
  pub there_rearranged : (a b : List ℕ) → Perm a b → all_there panes a ≡ all_there panes b
  there_rearranged a b p = ∥∥₁_elim p (Bool-set (all_there panes a) (all_there panes b)) there_arranged

-- ---- one by one

-- Of two lists of conditions one behind the other, the later one counts only where the first has no cause.
pub behind_same : (l m o : List Condition) → (first_cause l ≡ 0 → m ≡ o) → first_cause (l ++ m) ≡ first_cause (l ++ o)
behind_same l m o h = go (first_cause l) refl
  where
    go : (k : ℕ) → first_cause l ≡ k → first_cause (l ++ m) ≡ first_cause (l ++ o)
    go zero e = ap (λ (x : List Condition). first_cause (l ++ x)) (h e)
    go (suc k) e = append_first l m (λ z. omega (arith, e, z)) ∙ sym (append_first l o (λ z. omega (arith, e, z)))

-- Where both together have no cause the first has none.
pub front_none : (l m : List Condition) → first_cause (l ++ m) ≡ 0 → first_cause l ≡ 0
front_none l m e = go (first_cause l) refl
  where
    go : (k : ℕ) → first_cause l ≡ k → first_cause l ≡ 0
    go zero z = z
    go (suc k) z = absurd (omega (arith, z, e, append_first l m (λ y. omega (arith, y, z))))
