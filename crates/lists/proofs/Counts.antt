-- Laws of counts.
use mathlib.Core.Path.{◌≡◌, refl}
use mathlib.Core.List.{List, [], ◌∷◌, ◌++◌}
use Prim.Native.Nat.{ℕ, zero, suc, ◌+◌, ◌≤◌, ◌<◌}
use native.Mathlib.Decide.{ℕ_discrete}
use native.Mathlib.Omega.{arith}
use lib.ListN.{length}
use Rattle.lists.specs.Counts.{same, count, upto}

pub same_self : (x : ℕ) → same x x ≡ 1
unfolding same
same_self x = omega arith

pub same_apart : (x y : ℕ) → (x ≡ y → ⊥) → same x y ≡ 0
unfolding same
same_apart x y n = pick (ℕ_discrete x y)
  where
    pick : Dec (x ≡ y) → same x y ≡ 0
    pick (yes e) = absurd (n e)
    pick (no e) = omega arith

pub same_most : (x y : ℕ) → same x y ≤ 1
unfolding same
same_most x y = omega arith

pub same-one : (x y : ℕ) → 1 ≤ same x y → y ≡ x
unfolding same
same-one x y h = omega arith

pub same_shift : (k x y : ℕ) → same (k + x) (k + y) ≡ same x y
unfolding same
same_shift k x y = omega arith

-- two numbers are equal or apart, with the count that goes with it
pub data Same (x y : ℕ) : Type 0 where
  equal : x ≡ y → same x y ≡ 1 → Same x y
  apart : (x ≡ y → ⊥) → same x y ≡ 0 → Same x y

pub same? : (x y : ℕ) → Same x y
unfolding same
same? x y = pick (ℕ_discrete x y)
  where
    pick : Dec (x ≡ y) → Same x y
    pick (yes e) = equal e (omega arith)
    pick (no e) = apart e (same_apart x y e)

-- a number is 0, or at least 1
pub data Some (k : ℕ) : Type 0 where
  none : k ≡ 0 → Some k
  some : 1 ≤ k → Some k

pub some? : (k : ℕ) → Some k
some? zero = none refl
some? (suc k) = some (omega arith)

pub count-append : (x : ℕ) (a b : List ℕ) → count x (a ++ b) ≡ count x a + count x b
unfolding count
count-append x [] b = omega arith
count-append x (y ∷ a) b = omega (arith, count-append x a b)

-- among consecutive numbers each stands once, and no other
pub count_below_lem : (x a n : ℕ) → x < a → count x (upto a n) ≡ 0
unfolding count upto
count_below_lem x a zero h = refl
count_below_lem x a (suc n) h = let i = same_apart x a (λ e. omega arith) in let j = count_below_lem x (suc a) n (omega arith) in omega arith

pub count_past : (x a n : ℕ) → a + n ≤ x → count x (upto a n) ≡ 0
unfolding count upto
count_past x a zero h = refl
count_past x a (suc n) h = let i = same_apart x a (λ e. omega arith) in let j = count_past x (suc a) n (omega arith) in omega arith

pub count_among : (x a n : ℕ) → a ≤ x → x < a + n → count x (upto a n) ≡ 1
unfolding count upto
count_among x a zero h k = absurd (omega arith)
count_among x a (suc n) h k = pick (same? x a) (λ l. count_among x (suc a) n l (omega arith))
  where
    pick : Same x a → (suc a ≤ x → count x (upto (suc a) n) ≡ 1) → same x a + count x (upto (suc a) n) ≡ 1
    pick (equal e i) f = let j = count_below_lem x (suc a) n (omega arith) in omega arith
    pick (apart e i) f = let j = f (omega arith) in omega arith

-- ---- consecutive numbers

pub upto-length : (a n : ℕ) → length (upto a n) ≡ n
unfolding upto
upto-length a zero = refl
upto-length a (suc n) = omega (arith, upto-length (suc a) n)

pub upto-append : (a m n : ℕ) → upto a (m + n) ≡ upto a m ++ upto (a + m) n
unfolding upto
upto-append a zero n =
    let e : 0 + n ≡ n = omega arith in
    let f : a + 0 ≡ a = omega arith in
    rw (e, f)
upto-append a (suc m) n =
    let e : suc m + n ≡ suc (m + n) = omega arith in
    let f : a + suc m ≡ suc a + m = omega arith in
    rw (e, f, upto-append (suc a) m n)
