-- No two of a query's answers share a number.
use mathlib.Core.List.{List, ◌∷◌}
use mathlib.Core.Path.{◌≡◌, refl, ap, ap₂, ◌∙◌}
use Prim.Native.Nat.{ℕ, zero, suc, ◌<◌, min}
use native.Mathlib.Omega.{arith}
use native.Mathlib.Decide.{dec_lt}
use lib.Dec.{ltb}
use lib.Ieee.{Float, nan}
use lib.ListN.{get_or}
use borrow.Author.Tests.{le-ltb, lt-ltb}
use mathlib.Core.Bool.{cond}
use Rattle.std.specs.Ordering.{ord_min}
use Rattle.causes.specs.declared.Refusal.{Refusal}
use Rattle.causes.specs.declared.Refusal.TheVariants as R
use Rattle.causes.specs.contracts.RefusalOrd.TheImpl.{cmp-value}
use Rattle.causes.specs.Refusal.{cause_number}
use Rattle.causes.proofs.Refusals.{some_number}
use Rattle.causes.proofs.Least.{least}
use Rattle.query.specs.Result.{Result}
use Rattle.any_hit.specs.AnyHit.{AnyHitAnswer, listed, refused, lacking}
use Rattle.closest.specs.Panes.{ClosestAnswer, hit_at, no_hit, refused_closest, MissAnswer, missed, blocked, refused_miss}
use Rattle.funnelcress.specs.Queries.{any_hit_number, closest_number, miss_number}
use Rattle.funnelcress.specs.Queries.{distance_in, short_cause, AnyHitFits, ClosestFits, MissFits}

-- ---- any-hit

-- results with the same number are the same
abbrev made : AnyHitAnswer → ℕ → Result AnyHitAnswer
made a t = record { answer = a; tests = t }

pub any_hit_apart : (x y : Result AnyHitAnswer) → AnyHitFits x → AnyHitFits y → any_hit_number x ≡ any_hit_number y → x ≡ y
unfolding any_hit_number
any_hit_apart x y = go x.answer y.answer x.tests y.tests
  where
    go : (a b : AnyHitAnswer) (t u : ℕ) → AnyHitFits (made a t) → AnyHitFits (made b u) → any_hit_number (made a t) ≡ any_hit_number (made b u)
        → made a t ≡ made b u
    go (listed c) (listed e) t u h k q = ap₂ (λ (i j : ℕ). made (listed i) j) (omega arith) (omega arith)
    go (listed c) (lacking m e) t u h k q = absurd (omega arith)
    go (listed c) (refused m) t u h k q = absurd (omega arith)
    go (lacking l c) (listed e) t u h k q = absurd (omega arith)
    go (lacking l c) (lacking m e) t u h k q =
        ap₂ (λ (i j : ℕ). made (lacking i j) t) (omega arith) (omega arith) ∙ ap (made (lacking m e)) (omega arith)
    go (lacking l c) (refused m) t u h k q = absurd (omega arith)
    go (refused l) (listed e) t u h k q = absurd (omega arith)
    go (refused l) (lacking m e) t u h k q = absurd (omega arith)
    go (refused l) (refused m) t u h k q = ap₂ (λ (i j : ℕ). made (refused i) j) (omega arith) (omega arith)

-- ---- closest

abbrev found : {A : Type 0} → A → ℕ → Result A
found a tests = record { answer = a; tests = tests }

-- answers with the same number that leave the same distance in a float lent are the same
pub closest_apart : (a b : Result ClosestAnswer) (x : Float) (out : List Float) → ClosestFits a → ClosestFits b → closest_number a ≡ closest_number b
    → distance_in a.answer (x ∷ out) ≡ distance_in b.answer (x ∷ out) → a ≡ b
unfolding closest_number distance_in
closest_apart a b x out = go a.answer a.tests b.answer b.tests
  where
    first : List Float → Float
    first l = get_or l 0 nan

    go : (a : ClosestAnswer) (t : ℕ) (b : ClosestAnswer) (u : ℕ) → ClosestFits (found a t) → ClosestFits (found b u)
        → closest_number (found a t) ≡ closest_number (found b u)
        → distance_in a (x ∷ out) ≡ distance_in b (x ∷ out) → found a t ≡ found b u
    go (hit_at p d) t (hit_at q e) u h k n l = let i : p ≡ q = omega arith in ap₂ found (ap₂ hit_at i (ap first l)) (omega arith)
    go (hit_at p d) t no_hit u h k n l = absurd (omega arith)
    go (hit_at p d) t (refused_closest j) u h k n l = absurd (omega arith)
    go no_hit t (hit_at q e) u h k n l = absurd (omega arith)
    go no_hit t no_hit u h k n l = ap (found no_hit) (omega arith)
    go no_hit t (refused_closest j) u h k n l = absurd (omega arith)
    go (refused_closest i) t (hit_at q e) u h k n l = absurd (omega arith)
    go (refused_closest i) t no_hit u h k n l = absurd (omega arith)
    go (refused_closest i) t (refused_closest j) u h k n l = ap₂ found (ap refused_closest (omega arith)) (omega arith)

-- what refuses closest where no float is lent, by the derived order of refusals
short_least : (k : ℕ) → (k ≡ 0 → ⊥) → min k 4 ≡ short_cause k
unfolding short_cause
short_least zero h = absurd (h refl)
short_least (suc k) h = go (dec_lt (suc k) 4)
  where
    go : Dec (suc k < 4) → min (suc k) 4 ≡ cond (ltb (suc k) 4) (suc k) 4
    go (yes l) = rw (lt-ltb (suc k) 4 l) (omega (arith, l))
    go (no l) = rw (le-ltb (suc k) 4 (omega (arith, l))) (omega (arith, l))

pub short_min : (f h : Refusal) → h ≡ ord_min cmp-value.it f R.SliceShort → cause_number h ≡ short_cause (cause_number f)
short_min f h m = ap cause_number m ∙ least f R.SliceShort ∙ short_least (cause_number f) (some_number f)

-- ---- miss

-- answers with the same number are the same
pub miss_apart : (a b : Result MissAnswer) → MissFits a → MissFits b → miss_number a ≡ miss_number b → a ≡ b
unfolding miss_number
miss_apart a b = go a.answer a.tests b.answer b.tests
  where
    go : (a : MissAnswer) (t : ℕ) (b : MissAnswer) (u : ℕ) → MissFits (found a t) → MissFits (found b u)
        → miss_number (found a t) ≡ miss_number (found b u) → found a t ≡ found b u
    go missed t missed u h k n = ap (found missed) (omega arith)
    go missed t blocked u h k n = absurd (omega arith)
    go missed t (refused_miss j) u h k n = absurd (omega arith)
    go blocked t missed u h k n = absurd (omega arith)
    go blocked t blocked u h k n = ap (found blocked) (omega arith)
    go blocked t (refused_miss j) u h k n = absurd (omega arith)
    go (refused_miss i) t missed u h k n = absurd (omega arith)
    go (refused_miss i) t blocked u h k n = absurd (omega arith)
    go (refused_miss i) t (refused_miss j) u h k n = ap₂ found (ap refused_miss (omega arith)) (omega arith)
