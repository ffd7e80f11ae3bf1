-- The laws of a test's answer and of what it says.
use mathlib.Core.Path.{◌≡◌, refl, subst}
use mathlib.Core.Bool.{Bool, true, false, ◌&&◌, ◌||◌}
use mathlib.Core.Logic.{◌⊎◌, inl, inr}
use Prim.Native.Nat.{ℕ, ◌≤◌, ◌<◌}
use lib.Dec.{T, eqb, leb, ltb, eqb→eq, eqb_refl, leb→le, le→leb, ltb→lt, lt→ltb}
use Rattle.node_rule.specs.Tells.{Tells}

pub tells : (P : Type 0) (b : Bool) → (T b → P) → (P → T b) → Tells P b
unfolding Tells
tells P true f g = f tt
tells P false f g = g

pub says : (P : Type 0) (b : Bool) → Tells P b → T b → P
unfolding Tells
says P true t h = t
says P false t h = absurd h

pub asked : (P : Type 0) (b : Bool) → Tells P b → P → T b
unfolding Tells
asked P true t p = tt
asked P false t p = t p

-- the same answer for two facts, each of which gives the other
pub swap : (P Q : Type 0) (b : Bool) → (P → Q) → (Q → P) → Tells P b → Tells Q b
unfolding Tells
swap P Q true f g t = f t
swap P Q false f g t = λ q. t (g q)

pub said : (P : Type 0) → P → Tells P true
unfolding Tells
said P p = p

pub denied : (P : Type 0) → (P → ⊥) → Tells P false
unfolding Tells
denied P d = d

-- two tests that say the same answer the same
pub agree : (P : Type 0) (a b : Bool) → Tells P a → Tells P b → a ≡ b
unfolding Tells
agree P true true s t = refl
agree P true false s t = absurd (t s)
agree P false true s t = absurd (s t)
agree P false false s t = refl

-- a part that was answered
pub found : (P : Type 0) (b : Bool) → Tells P b → b ≡ true → P
found P b t e = says P b t (rw e tt)

pub missed : (P : Type 0) (b : Bool) → Tells P b → b ≡ false → P → ⊥
missed P b t e p = subst T e (asked P b t p)

-- ---- tests on numbers, and joined ones
pub test_tells : (b : Bool) → Tells (T b) b
test_tells b = tells (T b) b (λ t. t) (λ t. t)

pub leb_tells : (a b : ℕ) → Tells (a ≤ b) (leb a b)
leb_tells a b = tells (a ≤ b) (leb a b) (leb→le a b) (le→leb a b)

pub ltb_tells : (a b : ℕ) → Tells (a < b) (ltb a b)
ltb_tells a b = tells (a < b) (ltb a b) (ltb→lt a b) (lt→ltb a b)

pub eqb_tells : (a b : ℕ) → Tells (a ≡ b) (eqb a b)
eqb_tells a b = tells (a ≡ b) (eqb a b) (eqb→eq a b) (λ e. rw e (eqb_refl b))

pub and_tells : (P Q : Type 0) (a b : Bool) → Tells P a → Tells Q b → Tells (P × Q) (a && b)
unfolding Tells
and_tells P Q true true t u = (t, u)
and_tells P Q true false t u = λ p. u p.1
and_tells P Q false b t u = λ p. t p.0

pub or_tells : (P Q : Type 0) (a b : Bool) → Tells P a → Tells Q b → Tells (P ⊎ Q) (a || b)
unfolding Tells
or_tells P Q true b t u = inl t
or_tells P Q false true t u = inr u
or_tells P Q false false t u = neither
  where
    neither : P ⊎ Q → ⊥
    neither (inl p) = t p
    neither (inr q) = u q
