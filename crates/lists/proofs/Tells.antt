-- Tests that compute, and what they tell.
use mathlib.Core.Path.{◌≡◌, refl, sym, ap₂, ◌∙◌}
use mathlib.Core.Bool.{Bool, true, false, ◌&&◌}
use Prim.Native.Nat.{ℕ, zero, suc, ◌+◌, ◌≤◌, ◌<◌}
use native.Mathlib.Omega.{arith}
use lib.Dec.{T, eqb, leb, ltb, eqb→eq, eqb_refl, leb→le, le→leb, ltb→lt, lt→ltb}
use Rattle.lists.specs.Below.{all_below}
use Rattle.lists.proofs.Counts.{Same, equal, apart, same?}

-- the test passes if P holds, and fails if it does not
pub data Tells (P : Type 0) : Bool → Type 0 where
  passes : P → Tells P true
  fails : (P → ⊥) → Tells P false

-- a test does not both fail and pass
pub clash : {A : Type 0} → false ≡ true → A
clash e = let z : ◌≡◌ {A = ℕ} 0 1 = cc in absurd (omega arith)

pub told : {P : Type 0} {b : Bool} → Tells P b → b ≡ true → P
told (passes p) e = p
told (fails n) e = clash e

pub denied : {P : Type 0} {b : Bool} → Tells P b → b ≡ false → P → ⊥
denied (passes p) e q = clash (sym e)
denied (fails n) e q = n q

pub tells_true : {P : Type 0} {b : Bool} → Tells P b → P → b ≡ true
tells_true (passes p) q = refl
tells_true (fails n) q = absurd (n q)

pub tells_false : {P : Type 0} {b : Bool} → Tells P b → (P → ⊥) → b ≡ false
tells_false (passes p) q = absurd (q p)
tells_false (fails n) q = refl

-- two tests of one thing are equal
pub tells_same : {P : Type 0} {a b : Bool} → Tells P a → Tells P b → a ≡ b
tells_same (passes p) (passes q) = refl
tells_same (passes p) (fails q) = absurd (q p)
tells_same (fails p) (passes q) = absurd (p q)
tells_same (fails p) (fails q) = refl

-- a test of one thing tells of another that is equivalent
pub tells_as : {P Q : Type 0} {b : Bool} → Tells P b → (P → Q) → (Q → P) → Tells Q b
tells_as (passes p) f g = passes (f p)
tells_as (fails n) f g = fails (λ q. n (g q))

by_T : (P : Type 0) (b : Bool) → (T b → P) → (P → T b) → Tells P b
by_T P true f g = passes (f tt)
by_T P false f g = fails g

pub eqb_tells : (a b : ℕ) → Tells (a ≡ b) (eqb a b)
eqb_tells a b = by_T (a ≡ b) (eqb a b) (eqb→eq a b) (λ e. rw e (eqb_refl b))

pub leb_tells : (a b : ℕ) → Tells (a ≤ b) (leb a b)
leb_tells a b = by_T (a ≤ b) (leb a b) (leb→le a b) (le→leb a b)

pub ltb_tells : (a b : ℕ) → Tells (a < b) (ltb a b)
ltb_tells a b = by_T (a < b) (ltb a b) (ltb→lt a b) (lt→ltb a b)

pub true_tells : (b : Bool) → Tells (b ≡ true) b
true_tells true = passes refl
true_tells false = fails clash

pub and_tells : {P Q : Type 0} {a b : Bool} → Tells P a → Tells Q b → Tells (P × Q) (a && b)
and_tells (passes p) (passes q) = passes (p, q)
and_tells (passes p) (fails q) = fails (λ h. q h.1)
and_tells (fails p) q = fails (λ h. p h.0)

pub both_pass : (a b : Bool) → a && b ≡ true → (a ≡ true) × (b ≡ true)
both_pass true b e = (refl, e)
both_pass false b e = clash e

-- at every number below k
pub below_tells : (P : ℕ → Type 0) (f : ℕ → Bool) → ((i : ℕ) → Tells (P i) (f i)) → (k : ℕ) → Tells ((i : ℕ) → i < k → P i) (all_below f k)
unfolding all_below
below_tells P f t zero = passes (λ i l. absurd (omega arith))
below_tells P f t (suc k) = tells_as (and_tells (below_tells P f t k) (t k)) (λ h i l. last h i l (same? i k))
    (λ h. (λ i l. h i (omega arith), h k (omega arith)))
  where
    last : ((i : ℕ) → i < k → P i) × P k → (i : ℕ) → i < suc k → Same i k → P i
    last h i l (equal e j) = rw e h.1
    last h i l (apart e j) = h.0 i (omega arith)

pub all_pass : (f : ℕ → Bool) (k : ℕ) → ((i : ℕ) → i < k → f i ≡ true) → all_below f k ≡ true
all_pass f k h = tells_true (below_tells (λ i. f i ≡ true) f (λ i. true_tells (f i)) k) h

pub all_at : (f : ℕ → Bool) (k : ℕ) → all_below f k ≡ true → (i : ℕ) → i < k → f i ≡ true
all_at f k = told (below_tells (λ i. f i ≡ true) f (λ i. true_tells (f i)) k)

-- number after number: it passes below one more, and so below all
pub all_next : (f : ℕ → Bool) (k : ℕ) → all_below f k ≡ true → f k ≡ true → all_below f (k + 1) ≡ true
all_next f k h e = all_pass f (k + 1) (λ i l. pick i l (same? i k))
  where
    pick : (i : ℕ) → i < k + 1 → Same i k → f i ≡ true
    pick i l (equal d j) = rw d e
    pick i l (apart d j) = all_at f k h i (omega arith)

pub all_reached : (f : ℕ → Bool) (j k : ℕ) → all_below f j ≡ true → k ≤ j → all_below f k ≡ true
all_reached f j k h l = all_pass f k (λ i m. all_at f j h i (omega arith))

-- two tests that agree at every number below a bound
pub all_same : (f g : ℕ → Bool) (k : ℕ) → ((i : ℕ) → i < k → f i ≡ g i) → all_below f k ≡ all_below g k
unfolding all_below
all_same f g zero h = refl
all_same f g (suc k) h = ap₂ ◌&&◌ (all_same f g k (λ i l. h i (omega arith))) (h k (omega arith))

pub one_fails : (f : ℕ → Bool) (k i : ℕ) → i < k → f i ≡ false → all_below f k ≡ false
one_fails f k i l e = tells_false (below_tells (λ i. f i ≡ true) f (λ i. true_tells (f i)) k) (λ h. clash (sym e ∙ h i l))

-- a test fails at some number below k, and at none before it
abbrev pub FailsFirst : (ℕ → Bool) → ℕ → Type 0
FailsFirst f k = (i : ℕ) × (i < k) × (f i ≡ false) × ((j : ℕ) → j < i → f j ≡ true)

-- it does where it does not pass below k
pub where_fails : (f : ℕ → Bool) (k : ℕ) → all_below f k ≡ false → FailsFirst f k
unfolding all_below
where_fails f zero e = clash (sym e)
where_fails f (suc k) e = pick (all_below f k) (f k) refl refl e (where_fails f k)
  where
    pick : (a b : Bool) → all_below f k ≡ a → f k ≡ b → a && b ≡ false → (all_below f k ≡ false → FailsFirst f k) → FailsFirst f (suc k)
    pick true b x y z g = (k, omega arith, y ∙ z, all_at f k x)
    pick false b x y z g = let u = g x in (u.0, omega (arith, u.1), u.2, u.3)
