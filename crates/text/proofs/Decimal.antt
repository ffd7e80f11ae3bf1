-- Laws of numbers in decimal.
use mathlib.Core.Path.{◌≡◌, refl, ap, ◌∙◌}
use mathlib.Core.Bool.{Bool, true, false}
use mathlib.Core.List.{List, [], ◌∷◌, ◌++◌}
use Prim.Native.Nat.{ℕ, zero, suc, ◌+◌, ◌-◌, ◌*◌, ◌/◌, ◌%◌, ◌^◌, ◌≤◌, ◌<◌}
use native.Mathlib.Nat.{mod-eq_of_lt}
use native.Mathlib.Omega.{arith}
use lib.Dec.{ltb}
use lib.ListN.{length, get_or, length-append, get_or-append}
use borrow.Author.Tests.{lt-ltb, le-ltb, ltb-true, ltb-false}
use Rattle.text.specs.Text.{digits, decimal}

-- more fuel than the number changes nothing
enough : (k j n : ℕ) → n ≤ k → n ≤ j → digits k (ltb n 10) n ≡ digits j (ltb n 10) n
unfolding digits
enough zero zero n h l = refl
enough zero (suc j) n h l = rw (lt-ltb n 10 (omega arith)) refl
enough (suc k) zero n h l = rw (lt-ltb n 10 (omega arith)) refl
enough (suc k) (suc j) n h l = by (ltb n 10) refl (λ g. enough k j (n / 10) (omega arith) (omega arith))
  where
    by : (b : Bool) → ltb n 10 ≡ b → (10 ≤ n → digits k (ltb (n / 10) 10) (n / 10) ≡ digits j (ltb (n / 10) 10) (n / 10))
        → digits (suc k) b n ≡ digits (suc j) b n
    by true e r = refl
    by false e r = rw (r (ltb-false n 10 e))

pub decimal-one : (n : ℕ) → n < 10 → decimal n ≡ (48 + n) ∷ []
unfolding decimal digits
decimal-one n h = rw (lt-ltb n 10 h) (one n n h)
  where
    one : (k n : ℕ) → n < 10 → digits k true n ≡ (48 + n) ∷ []
    one zero n h = ap (λ (d : ℕ). (48 + d) ∷ []) (mod-eq_of_lt h)
    one (suc k) n h = ap (λ (d : ℕ). (48 + d) ∷ []) (mod-eq_of_lt h)

pub decimal_more : (n : ℕ) → 10 ≤ n → decimal n ≡ decimal (n / 10) ++ ((48 + n % 10) ∷ [])
unfolding decimal digits
decimal_more n h = rw (le-ltb n 10 h) (more n h)
  where
    more : (k : ℕ) → 10 ≤ k → digits k false k ≡ digits (k / 10) (ltb (k / 10) 10) (k / 10) ++ ((48 + k % 10) ∷ [])
    more zero h = absurd (omega arith)
    more (suc k) h = rw (enough k (suc k / 10) (suc k / 10) (omega arith) (omega arith))

pub length_more : (n : ℕ) → 10 ≤ n → length (decimal n) ≡ length (decimal (n / 10)) + 1
length_more n h = ap length (decimal_more n h) ∙ length-append (decimal (n / 10)) ((48 + n % 10) ∷ [])

-- at least one digit
pub decimal_least : (n : ℕ) → 1 ≤ length (decimal n)
unfolding decimal digits
decimal_least n = least n (ltb n 10) n
  where
    least : (k : ℕ) (b : Bool) (n : ℕ) → 1 ≤ length (digits k b n)
    least zero b n = omega arith
    least (suc k) true n = omega arith
    least (suc k) false n = rw length-append (omega arith)

-- a number below 10 ^ (k + 1) has at most k + 1
pub decimal_most : (k n : ℕ) → n < 10 ^ suc k → length (decimal n) ≤ suc k
decimal_most zero n h = rw (decimal-one n h) (omega arith)
decimal_most (suc k) n h = by (ltb n 10) refl (decimal_most k (n / 10))
  where
    by : (b : Bool) → ltb n 10 ≡ b → (n / 10 < 10 ^ suc k → length (decimal (n / 10)) ≤ suc k) → length (decimal n) ≤ suc (suc k)
    by true e r = rw (decimal-one n (ltb-true n 10 e)) (omega arith)
    by false e r = rw (decimal_more n (ltb-false n 10 e), length-append) (let l = r (omega arith) in omega arith)

-- a word has at most ten
pub decimal-word : (n : ℕ) → n < 2 ^ 32 → length (decimal n) ≤ 10
decimal-word n h = decimal_most 9 n (omega arith)

-- an induction over the digits: what holds of one digit, and of a number if of its tenth, holds of every number
module _ (P : ℕ → Type 0) (one : (n : ℕ) → n < 10 → P n) (more : (n : ℕ) → 10 ≤ n → P (n / 10) → P n) where
  up : (k n : ℕ) → n ≤ k → P n
  up zero n h = one n (omega arith)
  up (suc k) n h = by (ltb n 10) refl (λ g. up k (n / 10) (omega arith))
    where
      by : (b : Bool) → ltb n 10 ≡ b → (10 ≤ n → P (n / 10)) → P n
      by true e r = one n (ltb-true n 10 e)
      by false e r = more n (ltb-false n 10 e) (r (ltb-false n 10 e))

  by_digits : (n : ℕ) → P n
  by_digits n = up n n (omega arith)

-- the first digit is no 0, but for the number 0
pub no_leading_zero : (n : ℕ) → 0 < n → 48 < get_or (decimal n) 0 0
no_leading_zero =
    by_digits
    (λ n. 0 < n → 48 < get_or (decimal n) 0 0)
    (λ n h g. rw (decimal-one n h) (omega arith))
    (λ n h r g. rw (decimal_more n h, get_or-append (decimal (n / 10)) ((48 + n % 10) ∷ []) 0 0 (decimal_least (n / 10))) (r (omega arith)))

-- the number that digits spell, behind those of v
unfoldable pub spelt : ℕ → List ℕ → ℕ
spelt v [] = v
spelt v (d ∷ l) = spelt (v * 10 + (d - 48)) l

spelt_append : (v : ℕ) (a b : List ℕ) → spelt v (a ++ b) ≡ spelt (spelt v a) b
unfolding spelt
spelt_append v [] b = refl
spelt_append v (d ∷ a) b = spelt_append (v * 10 + (d - 48)) a b

-- the digits spell the number
pub decimal_spells : (n : ℕ) → spelt 0 (decimal n) ≡ n
unfolding spelt
decimal_spells =
    by_digits
    (λ n. spelt 0 (decimal n) ≡ n)
    (λ n h. rw (decimal-one n h) (omega arith))
    (λ n h r. rw (decimal_more n h, spelt_append 0 (decimal (n / 10)), r) (omega arith))
