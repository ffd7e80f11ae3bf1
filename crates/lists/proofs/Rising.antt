-- A list in rising order is the list rearranged, each member at most the next; and sums over the two are the same.
use mathlib.Core.Bool.{Bool, true, false, cond}
use mathlib.Core.List.{List, [], ◌∷◌, Perm}
use mathlib.Core.Path.{◌≡◌, refl}
use Prim.Native.Nat.{ℕ, ◌+◌, ◌≤◌}
use native.Mathlib.Omega.{arith}
use lib.Dec.{leb}
use borrow.Author.Tests.{leb-true, leb-false}
use Rattle.lists.specs.Counts.{same, count}
use Rattle.lists.specs.Rising.{insert, rising, Rises}
use Rattle.lists.specs.Sums.{sum_over}
use Rattle.lists.proofs.Perms.{counts_perm}

-- ---- each member is at most the next

rises_behind : (y x : ℕ) (l : List ℕ) → y ≤ x → Rises (y ∷ l) → Rises (y ∷ insert x l)
unfolding insert
rises_behind y x [] h r = (h, tt)
rises_behind y x (z ∷ l) h r = go (leb x z) refl (rises_behind z x l)
  where
    go : (b : Bool) → leb x z ≡ b → (z ≤ x → Rises (z ∷ l) → Rises (z ∷ insert x l)) → Rises (y ∷ cond b (x ∷ z ∷ l) (z ∷ insert x l))
    go true e s = (h, (leb-true x z e, r.1))
    go false e s = (r.0, s (let k = leb-false x z e in omega arith) r.1)

rises_insert : (x : ℕ) (l : List ℕ) → Rises l → Rises (insert x l)
unfolding insert
rises_insert x [] r = tt
rises_insert x (y ∷ l) r = go (leb x y) refl
  where
    go : (b : Bool) → leb x y ≡ b → Rises (cond b (x ∷ y ∷ l) (y ∷ insert x l))
    go true e = (leb-true x y e, r)
    go false e = rises_behind y x l (let k = leb-false x y e in omega arith) r

pub rising_rises : (l : List ℕ) → Rises (rising l)
unfolding rising
rising_rises [] = tt
rising_rises (x ∷ l) = rises_insert x (rising l) (rising_rises l)

-- ---- the same members

count-insert : (z x : ℕ) (l : List ℕ) → count z (insert x l) ≡ same z x + count z l
unfolding insert count
count-insert z x [] = refl
count-insert z x (y ∷ l) = go (leb x y) (count-insert z x l)
  where
    go : (b : Bool) → count z (insert x l) ≡ same z x + count z l
        → count z (cond b (x ∷ y ∷ l) (y ∷ insert x l)) ≡ same z x + (same z y + count z l)
    go true r = refl
    go false r = omega arith

count-rising : (z : ℕ) (l : List ℕ) → count z (rising l) ≡ count z l
unfolding rising count
count-rising z [] = refl
count-rising z (x ∷ l) = omega (arith, count-insert z x (rising l), count-rising z l)

pub rising_perm : (l : List ℕ) → Perm (rising l) l
rising_perm l = (counts_perm (rising l) l).1 (λ z. count-rising z l)

-- ---- sums

sum-insert : (f : ℕ → ℕ) (x : ℕ) (l : List ℕ) → sum_over f (insert x l) ≡ f x + sum_over f l
unfolding insert sum_over
sum-insert f x [] = refl
sum-insert f x (y ∷ l) = go (leb x y) (sum-insert f x l)
  where
    go : (b : Bool) → sum_over f (insert x l) ≡ f x + sum_over f l → sum_over f (cond b (x ∷ y ∷ l) (y ∷ insert x l)) ≡ f x + (f y + sum_over f l)
    go true r = refl
    go false r = omega arith

pub sum-rising : (f : ℕ → ℕ) (l : List ℕ) → sum_over f (rising l) ≡ sum_over f l
unfolding rising sum_over
sum-rising f [] = refl
sum-rising f (x ∷ l) = omega (arith, sum-insert f x (rising l), sum-rising f l)
