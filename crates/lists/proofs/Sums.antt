-- Laws of sums, and the length of a list by its counts.
use mathlib.Core.Path.{◌≡◌, refl, sym, ◌∙◌}
use mathlib.Core.List.{List, [], ◌∷◌, ◌++◌}
use Prim.Native.Nat.{ℕ, zero, suc, ◌+◌, ◌*◌, ◌≤◌, ◌<◌}
use native.Mathlib.Omega.{arith}
use native.Mathlib.Decide.{dec_lt}
use lib.ListN.{length, get_or}
use Rattle.lists.specs.At.{words_at}
use Rattle.lists.specs.Counts.{same, count}
use Rattle.lists.specs.Sums.{sum, sum_over}
use Rattle.lists.proofs.Counts.{same_self, same_apart}

-- ---- one sum and another

pub sum_cong : (f g : ℕ → ℕ) (k : ℕ) → ((j : ℕ) → j < k → f j ≡ g j) → sum f k ≡ sum g k
unfolding sum
sum_cong f g zero h = refl
sum_cong f g (suc k) h = omega (arith, sum_cong f g k (λ j l. h j (omega arith)), h k (omega arith))

pub sum-zero : (f : ℕ → ℕ) (k : ℕ) → ((j : ℕ) → j < k → f j ≡ 0) → sum f k ≡ 0
unfolding sum
sum-zero f zero h = refl
sum-zero f (suc k) h = omega (arith, sum-zero f k (λ j l. h j (omega arith)), h k (omega arith))

pub sum_ones : (f : ℕ → ℕ) (k : ℕ) → ((j : ℕ) → j < k → f j ≡ 1) → sum f k ≡ k
unfolding sum
sum_ones f zero h = refl
sum_ones f (suc k) h = omega (arith, sum_ones f k (λ j l. h j (omega arith)), h k (omega arith))

pub sum-add : (f g : ℕ → ℕ) (k : ℕ) → sum (λ j. f j + g j) k ≡ sum f k + sum g k
unfolding sum
sum-add f g zero = refl
sum-add f g (suc k) = omega (arith, sum-add f g k)

-- the first term apart
pub sum_front : (f : ℕ → ℕ) (k : ℕ) → sum f (suc k) ≡ f 0 + sum (λ j. f (suc j)) k
unfolding sum
sum_front f zero = omega arith
sum_front f (suc k) = omega (arith, sum_front f k)

-- sums never shrink, and terms that are zero add nothing
pub sum_grows : (f : ℕ → ℕ) (a b : ℕ) → a ≤ b → sum f a ≤ sum f b
unfolding sum
sum_grows f a zero h = let e : a ≡ 0 = omega arith in rw e (omega arith)
sum_grows f a (suc b) h = pick (dec_lt b a) (sum_grows f a b)
  where
    pick : Dec (b < a) → (a ≤ b → sum f a ≤ sum f b) → sum f a ≤ sum f (suc b)
    pick (yes l) r = let e : a ≡ suc b = omega arith in rw e (omega arith)
    pick (no l) r = omega (arith, r (omega arith))

pub sum_stays : (f : ℕ → ℕ) (a b : ℕ) → a ≤ b → ((j : ℕ) → a ≤ j → j < b → f j ≡ 0) → sum f b ≡ sum f a
unfolding sum
sum_stays f a zero l h = let e : a ≡ 0 = omega arith in rw e
sum_stays f a (suc b) l h = pick (dec_lt b a) (λ u. sum_stays f a b u (λ j p q. h j p (omega arith)))
  where
    pick : Dec (b < a) → (a ≤ b → sum f b ≡ sum f a) → sum f (suc b) ≡ sum f a
    pick (yes u) r = let e : a ≡ suc b = omega arith in rw e
    pick (no u) r = omega (arith, r (omega arith), h b (omega arith) (omega arith))

-- ---- terms

-- a term is at most the sum, and so are two terms together
pub sum_term : (f : ℕ → ℕ) (k j : ℕ) → j < k → f j ≤ sum f k
unfolding sum
sum_term f zero j h = absurd (omega arith)
sum_term f (suc k) j h = pick (dec_lt j k) (sum_term f k j)
  where
    pick : Dec (j < k) → (j < k → f j ≤ sum f k) → f j ≤ sum f k + f k
    pick (yes l) r = omega (arith, r l)
    pick (no l) r = let e : j ≡ k = omega arith in rw e (omega arith)

pub sum-two : (f : ℕ → ℕ) (k i j : ℕ) → i < j → j < k → f i + f j ≤ sum f k
unfolding sum
sum-two f zero i j a h = absurd (omega arith)
sum-two f (suc k) i j a h = pick (dec_lt j k) (sum-two f k i j a)
  where
    pick : Dec (j < k) → (j < k → f i + f j ≤ sum f k) → f i + f j ≤ sum f k + f k
    pick (yes l) r = omega (arith, r l)
    pick (no l) r = let e : j ≡ k = omega arith in let z = sum_term f k i (omega arith) in rw e (omega arith)

-- a sum that is not zero has a term that is not
pub sum-some : (f : ℕ → ℕ) (k : ℕ) → 0 < sum f k → (j : ℕ) × (j < k) × (0 < f j)
unfolding sum
sum-some f zero h = absurd (omega arith)
sum-some f (suc k) h = pick (dec_lt 0 (f k)) (sum-some f k)
  where
    pick : Dec (0 < f k) → (0 < sum f k → (j : ℕ) × (j < k) × (0 < f j)) → (j : ℕ) × (j < suc k) × (0 < f j)
    pick (yes p) t = (k, omega arith, p)
    pick (no p) t = let r = t (omega arith) in (r.0, omega (arith, r.1), r.2)

-- a sum with no term but j's is that term
pub sum_only : (f : ℕ → ℕ) (k j : ℕ) → j < k → ((i : ℕ) → i < k → ¬ (i ≡ j) → f i ≡ 0) → sum f k ≡ f j
unfolding sum
sum_only f zero j h z = absurd (omega arith)
sum_only f (suc k) j h z = pick (dec_lt j k) (λ l. sum_only f k j l (λ i m. z i (omega arith)))
  where
    pick : Dec (j < k) → (j < k → sum f k ≡ f j) → sum f k + f k ≡ f j
    pick (yes l) r = omega (arith, r l, z k (omega arith) (λ e. omega arith))
    pick (no l) r =
        let e : j ≡ k = omega arith in
        let y = sum-zero f k (λ i m. z i (omega arith) (λ d. omega arith)) in
        rw e (omega arith)

-- two sums in either order
pub sum_exchange : (f : ℕ → ℕ → ℕ) (m n : ℕ) → sum (λ i. sum (f i) n) m ≡ sum (λ j. sum (λ i. f i j) m) n
unfolding sum
sum_exchange f zero n = sym (sum-zero (λ j. 0) n (λ j h. refl))
sum_exchange f (suc m) n =
    omega (arith, sum_exchange f m n, sum-add (λ j. sum (λ i. f i j) m) (f m) n)

pub sum_scaled : (f : ℕ → ℕ) (c k : ℕ) → sum (λ j. f j * c) k ≡ sum f k * c
unfolding sum
sum_scaled f c zero = omega arith
sum_scaled f c (suc k) = omega (arith, sum_scaled f c k)

-- no term is over c
pub sum_most : (f : ℕ → ℕ) (c : ℕ) → ((i : ℕ) → f i ≤ c) → (k : ℕ) → sum f k ≤ k * c
unfolding sum
sum_most f c h zero = omega arith
sum_most f c h (suc k) = omega (arith, sum_most f c h k, h k)

-- ---- over the members of a list

pub over_append : (f : ℕ → ℕ) (a b : List ℕ) → sum_over f (a ++ b) ≡ sum_over f a + sum_over f b
unfolding sum_over
over_append f [] b = omega arith
over_append f (x ∷ a) b = omega (arith, over_append f a b)

pub over_most : (f : ℕ → ℕ) (c : ℕ) → ((x : ℕ) → f x ≤ c) → (l : List ℕ) → sum_over f l ≤ length l * c
unfolding sum_over
over_most f c h [] = omega arith
over_most f c h (x ∷ l) = omega (arith, h x, over_most f c h l)

-- at the words at some places
pub over_words : (f : ℕ → ℕ) (words l : List ℕ) → sum_over f (words_at words l) ≡ sum_over (λ p. f (get_or words p 0)) l
unfolding sum_over
over_words f words [] = refl
over_words f words (p ∷ l) = omega (arith, over_words f words l)

-- ---- counts

-- one member's share in a sum over all numbers below n
share : (n : ℕ) (f : ℕ → ℕ) (y : ℕ) → y < n → sum (λ x. same x y * f x) n ≡ f y
share n f y h =
    sum_only (λ x. same x y * f x) n y h (λ i l d. let e = same_apart i y d in rw e (omega arith))
    ∙ (let e = same_self y in rw e (omega arith))

-- the values at all numbers below n, each as often as the number stands in a list, add up to the values at its members
pub sum_counted : (n : ℕ) (f : ℕ → ℕ) (l : List ℕ) → ((x : ℕ) → n ≤ x → count x l ≡ 0) → sum (λ x. count x l * f x) n ≡ sum_over f l
unfolding count sum_over
sum_counted n f [] h = sum-zero (λ x. 0 * f x) n (λ j k. omega arith)
sum_counted n f (y ∷ l) h =
    sum_cong (λ x. (same x y + count x l) * f x) (λ x. same x y * f x + count x l * f x) n (λ j k. omega arith)
    ∙ sum-add (λ x. same x y * f x) (λ x. count x l * f x) n
    ∙ omega (arith, share n f y (here (dec_lt y n)), sum_counted n f l (λ x k. omega (arith, h x k)))
  where
    here : Dec (y < n) → y < n
    here (yes k) = k
    here (no k) = absurd (omega (arith, h y (omega arith), same_self y))

-- a sum over the numbers below n, taken in the order of a list in which each of them stands once
pub sum_renumbered : (n : ℕ) (f : ℕ → ℕ) (l : List ℕ) → ((x : ℕ) → x < n → count x l ≡ 1) → ((x : ℕ) → n ≤ x → count x l ≡ 0) → sum f n ≡ sum_over f l
sum_renumbered n f l h k = sum_cong f (λ x. count x l * f x) n (λ j b. let e = h j b in rw e (omega arith)) ∙ sum_counted n f l k

members : (l : List ℕ) → sum_over (λ x. 1) l ≡ length l
unfolding sum_over
members [] = refl
members (y ∷ l) = omega (arith, members l)

-- the counts of all numbers below n add up to the length
sum-counts : (n : ℕ) (l : List ℕ) → ((x : ℕ) → n ≤ x → count x l ≡ 0) → sum (λ x. count x l) n ≡ length l
sum-counts n l h = sum_cong (λ x. count x l) (λ x. count x l * 1) n (λ j k. omega arith) ∙ sum_counted n (λ x. 1) l h ∙ members l

-- a list of numbers below n in which each stands once has n of them
pub once_length : (n : ℕ) (l : List ℕ) → ((x : ℕ) → x < n → count x l ≡ 1) → ((x : ℕ) → n ≤ x → count x l ≡ 0) → length l ≡ n
once_length n l h k = sym (sum-counts n l k) ∙ sum_ones (λ x. count x l) n h

-- and one in which each stands at most once has at most n
pub distinct_length : (n : ℕ) (l : List ℕ) → ((x : ℕ) → count x l ≤ 1) → ((x : ℕ) → n ≤ x → count x l ≡ 0) → length l ≤ n
distinct_length n l h k = omega (arith, sum-counts n l k, sum_most (λ x. count x l) 1 h n)
