-- All index words, one by one, are the index list; and what holds of each word of a list holds of each of the list rearranged.
use mathlib.Core.List.{List, [], ◌∷◌, map, Perm}
use mathlib.Core.Path.{◌≡◌, refl, sym, ap, ap₂, subst, ◌∙◌}
use Prim.Native.Nat.{ℕ, zero, suc, ◌+◌, ◌<◌}
use native.Mathlib.Nat.{zero-add}
use native.Mathlib.Omega.{arith}
use lib.ListN.{length, get_or}
use Rattle.lists.specs.Counts.{count, upto}
use Rattle.lists.proofs.Counts.{Same, equal, apart, same?, same_self}
use Rattle.lists.proofs.Perms.{counts_perm}
use Rattle.lists.specs.At.{words_at}

from : (l : List ℕ) (a : ℕ) (f : ℕ → ℕ) → ((j : ℕ) → j < length l → f (a + j) ≡ get_or l j 0) → map f (upto a (length l)) ≡ l
unfolding upto
from [] a f h = refl
from (x ∷ l) a f h =
    ap₂ (λ (y : ℕ) (r : List ℕ). y ∷ r) (ap f here ∙ h 0 (omega arith)) (from l (suc a) f (λ j q. ap f (next j) ∙ h (suc j) (omega arith)))
  where
    here : a ≡ a + 0
    here = omega arith

    next : (j : ℕ) → suc a + j ≡ a + suc j
    next j = omega arith

pub all_words_lem : (l : List ℕ) → words_at l (upto 0 (length l)) ≡ l
all_words_lem l = from l 0 (λ p. get_or l p 0) (λ j h. ap (λ (i : ℕ). get_or l i 0) (zero-add j))

-- a word at a place is counted, and a word counted has a place
counted : (l : List ℕ) (p : ℕ) → p < length l → 0 < count (get_or l p 0) l
unfolding count
counted [] p h = absurd (omega arith)
counted (x ∷ l) zero h = omega (arith, same_self x)
counted (x ∷ l) (suc p) h = omega (arith, counted l p (omega arith))

placed : (l : List ℕ) (x : ℕ) → 0 < count x l → (p : ℕ) × (p < length l) × (get_or l p 0 ≡ x)
unfolding count
placed [] x h = absurd (omega arith)
placed (y ∷ l) x h = pick (same? x y) (placed l x)
  where
    pick : Same x y → (0 < count x l → (p : ℕ) × (p < length l) × (get_or l p 0 ≡ x)) → (p : ℕ) × (p < length (y ∷ l)) × (get_or (y ∷ l) p 0 ≡ x)
    pick (equal e i) f = (0, omega arith, sym e)
    pick (apart e i) f = let q = f (omega (arith, h, i)) in (suc q.0, omega (arith, q.1), q.2)

pub words_rearranged : (P : ℕ → Type 0) (a b : List ℕ) → Perm a b → ((p : ℕ) → p < length b → P (get_or b p 0)) → (p : ℕ) → p < length a
    → P (get_or a p 0)
words_rearranged P a b r h p l =
    let q = placed b (get_or a p 0) (subst (λ (k : ℕ). 0 < k) ((counts_perm a b).0 r (get_or a p 0)) (counted a p l)) in subst P q.2 (h q.0 q.1)
