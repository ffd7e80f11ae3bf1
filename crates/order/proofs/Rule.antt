-- The pair that a round takes, in numbers: no open pair is cheaper, and of those as cheap it has the lowest child, and then the lowest slot.
use mathlib.Core.Path.{◌≡◌, refl, sym, ◌∙◌, subst}
use mathlib.Core.Logic.{◌⊎◌, inl, inr}
use mathlib.Core.Bool.{Bool, true, false, ◌&&◌, true≢false}
use mathlib.Core.List.{List, [], ◌∷◌, ◌++◌}
use Prim.Native.Nat.{ℕ, zero, suc, ◌≤◌, ◌<◌}
use native.Mathlib.Nat.{le_refl, le_of_lt}
use lib.Dec.{eqb}
use lib.Ieee.{Float, lt}
use borrow.Author.Tests.{eq-eqb}
use Rattle.order.specs.Lists.{cons_if, keep}
use Rattle.order.specs.Assign.{Pair, greatest_finite, row_pairs, pairs, slot_of, child_of, open_pairs}
use Rattle.order.proofs.Greedy.{Open, Taken}
use Rattle.order.proofs.Lists.{All, all_append, all_map, all_kept}
use Rattle.order.proofs.Pairs.{row-all, pairs-all, pairs-each}

-- p stands before q: a lower child, or the same and a lower slot
abbrev pub Before : Pair → Pair → Type 0
Before p q = (p.child < q.child) ⊎ ((p.child ≡ q.child) × (p.slot < q.slot))

abbrev Sorted : List Pair → Type 0
Sorted [] = Unit {0}
Sorted (p ∷ ps) = All (Before p) ps × Sorted ps

sorted_append : (xs ys : List Pair) → Sorted xs → Sorted ys → All (λ x. All (Before x) ys) xs → Sorted (xs ++ ys)
sorted_append [] ys h k b = k
sorted_append (x ∷ xs) ys h k b = (all_append (Before x) xs ys h.0 b.0, sorted_append xs ys h.1 k b.1)

sorted_right : (xs ys : List Pair) → Sorted (xs ++ ys) → Sorted ys
sorted_right [] ys h = h
sorted_right (x ∷ xs) ys h = sorted_right xs ys h.1

sorted_keep : (f : Pair → Bool) (ps : List Pair) → Sorted ps → Sorted (keep f ps)
unfolding keep
sorted_keep f [] h = tt
sorted_keep f (p ∷ ps) h = go (f p) (sorted_keep f ps h.1)
  where
    go : (t : Bool) → Sorted (keep f ps) → Sorted (cons_if t p (keep f ps))
    go true r = (all_kept (Before p) f ps h.0, r)
    go false r = r

row_sorted : (c k : ℕ) → Sorted (row_pairs c k)
unfolding row_pairs
row_sorted c zero = tt
row_sorted c (suc k) =
    sorted_append (row_pairs c k) (record { child = c; slot = k } ∷ []) (row_sorted c k) (tt, tt)
    (row-all (λ x. All (Before x) (record { child = c; slot = k } ∷ [])) c k (λ s l. (inr (refl, l), tt)))

pairs_sorted : (n : ℕ) → Sorted (pairs n)
unfolding pairs
pairs_sorted zero = tt
pairs_sorted (suc n) =
    sorted_append (pairs n) (row_pairs n 8) (pairs_sorted n) (row_sorted n 8)
    (pairs-all (λ x. All (Before x) (row_pairs n 8)) n (λ c s l m. row-all (Before (record { child = c; slot = s })) n 8 (λ t k. inl l)))

-- what holds of those kept holds of each that passes
kept_each : (P : Pair → Type 0) (f : Pair → Bool) (ps : List Pair) → All P (keep f ps) → All (λ p. f p ≡ true → P p) ps
unfolding keep
kept_each P f [] h = tt
kept_each P f (p ∷ ps) h = go (f p) refl h (λ r. kept_each P f ps r)
  where
    go : (t : Bool) → f p ≡ t → All P (cons_if t p (keep f ps)) → (All P (keep f ps) → All (λ q. f q ≡ true → P q) ps) → (f p ≡ true → P p)
        × All (λ q. f q ≡ true → P q) ps
    go true e r k = (λ d. r.0, k r.1)
    go false e r k = (λ d. absurd (true≢false (sym d ∙ e)), k r)

pub record Rule (cost : Pair → Float) (n : ℕ) (ps : List Pair) (p : Pair) : Type 0 where
  pub fits : Open cost n ps p
  pub least : (q : Pair) → Open cost n ps q → lt (cost q) (cost p) ≡ false
  pub first : (q : Pair) → Open cost n ps q → lt (cost p) (cost q) ≡ false → (p.child < q.child) ⊎ ((p.child ≡ q.child) × (p.slot ≤ q.slot))

module _ (cost : Pair → Float) (n : ℕ) (ps : List Pair) where
  open_each : (P : Pair → Type 0) → All P (open_pairs (slot_of ps) (child_of ps) cost (pairs n)) → (q : Pair) → Open cost n ps q → P q
  unfolding open_pairs
  open_each P h q o =
      pairs-each (λ r. (eqb (slot_of ps r.child) 8 && eqb (child_of ps r.slot) 8 && lt (cost r) greatest_finite) ≡ true → P r) n
      (kept_each P (λ r. eqb (slot_of ps r.child) 8 && eqb (child_of ps r.slot) 8 && lt (cost r) greatest_finite) (pairs n) h) q.child
      q.slot o.child o.slot
      (rw (eq-eqb (slot_of ps q.child) 8 o.waits, eq-eqb (child_of ps q.slot) 8 o.free) o.below)

  open_sorted : Sorted (open_pairs (slot_of ps) (child_of ps) cost (pairs n))
  unfolding open_pairs
  open_sorted = sorted_keep (λ r. eqb (slot_of ps r.child) 8 && eqb (child_of ps r.slot) 8 && lt (cost r) greatest_finite) (pairs n)
      (pairs_sorted n)

  -- the next pair is by 01's rule
  pub next_rule : (p : Pair) → Taken cost n ps p → Rule cost n ps p
  next_rule p t = record {
    fits = t.fits;
    least = open_each (λ q. lt (cost q) (cost p) ≡ false) t.least.none;
    first = open_each Later (subst (All Later) (sym t.least.is) (all_append Later t.least.before (p ∷ t.least.after)
        (all_map (λ q. lt (cost p) (cost q) ≡ true) Later t.least.before (λ q d e. absurd (true≢false (sym d ∙ e))) t.least.dearer)
        (λ e. inr (refl, le_refl p.slot), all_map (Before p) Later t.least.after after sorted.0)));
  }
    where
      Later : Pair → Type 0
      Later q = lt (cost p) (cost q) ≡ false → (p.child < q.child) ⊎ ((p.child ≡ q.child) × (p.slot ≤ q.slot))

      sorted : Sorted (p ∷ t.least.after)
      sorted = sorted_right t.least.before (p ∷ t.least.after) (subst Sorted t.least.is open_sorted)

      after : (q : Pair) → Before p q → Later q
      after q (inl l) e = inl l
      after q (inr w) e = inr (w.0, le_of_lt w.1)
