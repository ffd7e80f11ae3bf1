-- Laws of members, sums over lists and joined lists.
use mathlib.Core.List.{List, [], ◌∷◌, ◌++◌}
use mathlib.Core.Logic.{◌⊎◌, inl, inr}
use mathlib.Core.Path.{◌≡◌, refl, sym, ap, ap₂, ◌∙◌}
use Prim.Native.Nat.{ℕ, zero, suc, ◌+◌, ◌*◌, ◌≤◌, ◌<◌}
use native.Mathlib.Nat.{mul-le-mul_right}
use native.Mathlib.Omega.{arith}
use lib.ListN.{length}
use Rattle.lists.specs.Counts.{same, count, upto}
use Rattle.lists.specs.Sums.{sum, sum_over}
use Rattle.lists.proofs.Counts.{same_self, same-one, count-append, Same, equal, apart, same?, Some, none, some, some?}
use Rattle.lists.proofs.Sums.{sum_cong, sum_front, sum_counted, over_append}
use Rattle.walk.specs.Calls.{All}
use Rattle.walk.specs.Listing.{In, joined, flat}

-- ---- members

pub in_head : (x : ℕ) (l : List ℕ) → In x (x ∷ l)
unfolding count
in_head x l = omega (arith, same_self x)

pub in_tail : (x y : ℕ) (l : List ℕ) → In x l → In x (y ∷ l)
unfolding count
in_tail x y l h = omega arith

pub in_none : {A : Type 0} (x : ℕ) → In x [] → A
unfolding count
in_none x h = absurd (omega arith)

-- a member of a list of one
pub in_one : (x y : ℕ) → In x (y ∷ []) → x ≡ y
unfolding count
in_one x y h = sym (same-one x y (omega arith))

pub in_left : (x : ℕ) (a b : List ℕ) → In x a → In x (a ++ b)
in_left x a b h = omega (arith, count-append x a b)

pub in_right : (x : ℕ) (a b : List ℕ) → In x b → In x (a ++ b)
in_right x a b h = omega (arith, count-append x a b)

pub in_append : (x : ℕ) (a b : List ℕ) → In x (a ++ b) → In x a ⊎ In x b
in_append x a b h = go (some? (count x a))
  where
    go : Some (count x a) → In x a ⊎ In x b
    go (none e) = inr (omega (arith, count-append x a b))
    go (some e) = inl e

-- ---- what holds of every member

pub all_map : {A : Type 0} {P Q : A → Type 0} → ((x : A) → P x → Q x) → (l : List A) → All P l → All Q l
all_map f [] h = tt
all_map f (x ∷ l) h = (f x h.0, all_map f l h.1)

-- what holds of every member holds of each
pub all_in : (P : ℕ → Type 0) (l : List ℕ) → All P l → (p : ℕ) → In p l → P p
unfolding count
all_in P [] h p i = absurd (omega arith)
all_in P (q ∷ l) h p i = go (same? p q) (all_in P l h.1 p)
  where
    go : Same p q → (In p l → P p) → P p
    go (equal e s) r = rw e h.0
    go (apart e s) r = r (omega arith)

-- ---- sums over a list

pub sum_over_cong : (f g : ℕ → ℕ) (l : List ℕ) → ((x : ℕ) → In x l → f x ≡ g x) → sum_over f l ≡ sum_over g l
unfolding sum_over
sum_over_cong f g [] h = refl
sum_over_cong f g (x ∷ l) h = ap₂ ◌+◌ (h x (in_head x l)) (sum_over_cong f g l (λ y i. h y (in_tail y x l i)))

pub sum_over_mono : (f g : ℕ → ℕ) (l : List ℕ) → ((x : ℕ) → In x l → f x ≤ g x) → sum_over f l ≤ sum_over g l
unfolding sum_over
sum_over_mono f g [] h = omega arith
sum_over_mono f g (x ∷ l) h = omega (arith, h x (in_head x l), sum_over_mono f g l (λ y i. h y (in_tail y x l i)))

pub sum_same : (x : ℕ) (l : List ℕ) → sum_over (λ y. same x y) l ≡ count x l
unfolding sum_over count
sum_same x [] = refl
sum_same x (y ∷ l) = omega (arith, sum_same x l)

-- a member's value is at most the sum, and a sum that is not zero has a member whose value is not
pub sum_over_term : (f : ℕ → ℕ) (x : ℕ) (l : List ℕ) → In x l → f x ≤ sum_over f l
unfolding sum_over count
sum_over_term f x [] h = absurd (omega arith)
sum_over_term f x (y ∷ l) h = go (some? (count x l)) (sum_over_term f x l)
  where
    go : Some (count x l) → (In x l → f x ≤ sum_over f l) → f x ≤ f y + sum_over f l
    go (none e) r = let z : y ≡ x = same-one x y (omega arith) in rw z (omega arith)
    go (some e) r = omega (arith, r e)

pub sum_over_some : (f : ℕ → ℕ) (l : List ℕ) → 0 < sum_over f l → (x : ℕ) × In x l × (0 < f x)
unfolding sum_over
sum_over_some f [] h = absurd (omega arith)
sum_over_some f (y ∷ l) h = go (some? (f y)) (sum_over_some f l)
  where
    go : Some (f y) → (0 < sum_over f l → (x : ℕ) × In x l × (0 < f x)) → (x : ℕ) × In x (y ∷ l) × (0 < f x)
    go (none e) r = let q = r (omega arith) in (q.0, in_tail q.0 y l q.1, q.2)
    go (some e) r = (y, in_head y l, e)

pub length-sum : (l : List ℕ) → sum_over (λ x. 1) l ≡ length l
unfolding sum_over
length-sum [] = refl
length-sum (x ∷ l) = omega (arith, length-sum l)

-- a list of numbers below n that has each at most as often as another has the lesser sum
sum-le : (f g : ℕ → ℕ) (k : ℕ) → ((j : ℕ) → f j ≤ g j) → sum f k ≤ sum g k
unfolding sum
sum-le f g zero h = omega arith
sum-le f g (suc k) h = omega (arith, sum-le f g k h, h k)

pub sum_over_part : (n : ℕ) (f : ℕ → ℕ) (a b : List ℕ) → ((x : ℕ) → count x a ≤ count x b) → ((x : ℕ) → n ≤ x → count x b ≡ 0)
    → sum_over f a ≤ sum_over f b
sum_over_part n f a b h z =
    let p = sum_counted n f a (λ x l. omega (arith, h x, z x l)) in
    let q = sum_counted n f b z in
    omega (arith, sum-le (λ x. count x a * f x) (λ x. count x b * f x) n (λ j. mul-le-mul_right (f j) (h j)))

-- over the numbers from a on
sum_from_lem : (f : ℕ → ℕ) (a n : ℕ) → sum_over f (upto a n) ≡ sum (λ j. f (a + j)) n
unfolding sum_over upto sum
sum_from_lem f a zero = refl
sum_from_lem f a (suc n) =
    let e : a + 0 ≡ a = omega arith in
    let i = sum_from_lem f (suc a) n in
    let c = sum_cong (λ j. f (suc a + j)) (λ j. f (a + suc j)) n (λ j h. let e : suc a + j ≡ a + suc j = omega arith in ap f e) in
    rw (sum_front (λ j. f (a + j)) n, e) (omega arith)

-- over the numbers below n
pub sum-upto : (f : ℕ → ℕ) (n : ℕ) → sum_over f (upto 0 n) ≡ sum f n
sum-upto f n = sum_from_lem f 0 n ∙ sum_cong (λ j. f (0 + j)) f n (λ j h. let e : 0 + j ≡ j = omega arith in ap f e)

-- ---- joined lists

module _ {A : Type 0} (e : A) (op : A → A → A) where
  pub joined_cong : (f g : ℕ → A) (l : List ℕ) → ((x : ℕ) → In x l → f x ≡ g x) → joined e op f l ≡ joined e op g l
  joined_cong f g [] h = refl
  joined_cong f g (x ∷ l) h = ap₂ op (h x (in_head x l)) (joined_cong f g l (λ y i. h y (in_tail y x l i)))

pub joined_sum : (f : ℕ → ℕ) (l : List ℕ) → joined 0 ◌+◌ f l ≡ sum_over f l
unfolding sum_over
joined_sum f [] = refl
joined_sum f (x ∷ l) = omega (arith, joined_sum f l)

pub count-flat : (x : ℕ) (f : ℕ → List ℕ) (l : List ℕ) → count x (flat f l) ≡ sum_over (λ v. count x (f v)) l
unfolding sum_over count
count-flat x f [] = refl
count-flat x f (y ∷ l) = omega (arith, count-append x (f y) (flat f l), count-flat x f l)

pub sum-flat : (g : ℕ → ℕ) (f : ℕ → List ℕ) (l : List ℕ) → sum_over g (flat f l) ≡ sum_over (λ v. sum_over g (f v)) l
unfolding sum_over
sum-flat g f [] = refl
sum-flat g f (y ∷ l) = omega (arith, over_append g (f y) (flat f l), sum-flat g f l)

-- a member of joined lists is a member of one of them, and back
pub in_flat : (x : ℕ) (f : ℕ → List ℕ) (l : List ℕ) → In x (flat f l) → (c : ℕ) × In c l × In x (f c)
in_flat x f l h = sum_over_some (λ v. count x (f v)) l (omega (arith, count-flat x f l))

pub flat_in : (x c : ℕ) (f : ℕ → List ℕ) (l : List ℕ) → In c l → In x (f c) → In x (flat f l)
flat_in x c f l h i = omega (arith, count-flat x f l, sum_over_term (λ v. count x (f v)) c l h)
