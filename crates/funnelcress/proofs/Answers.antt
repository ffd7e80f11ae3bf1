-- Refusals of a list of boxes, and what they leave.
use Prim.Native.Nat.{ℕ, ◌/◌, ◌%◌, ◌≤◌}
use mathlib.Core.Path.{◌≡◌, refl}
use mathlib.Core.Bool.{Bool, true, false, cond}
use mathlib.Core.List.{List}
use native.Mathlib.Omega.{arith}
use borrow.Author.Tests.{leb-true, eq-eqb, ne_eqb}
use lib.Dec.{eqb, leb}
use lib.ListN.{length}
use lib.Ieee.{Float}
use Rattle.funnelcress.specs.Lists.{filled, refusal, ray_refusal, answered}

both : (p q : Bool) → ◌≡◌ {A = ℕ} (cond p (cond q 0 4) 1) 0 → q ≡ true
both true true e = refl
both true false e = absurd (omega arith)
both false q e = absurd (omega arith)

-- a list that is not refused has room for an answer to each box
pub room : (boxes out : List Float) → refusal boxes out ≡ 0 → length boxes / 6 ≤ length out
unfolding refusal
room boxes out e = leb-true _ _ (both (eqb (length boxes % 6) 0) (leb (length boxes / 6) (length out)) e)

pub answered-all : (number : ℕ) (f : ℕ → Float) (boxes out : List Float) → number ≡ 0 → filled f (length boxes / 6) out ≡ answered number f boxes out
unfolding answered
answered-all number f boxes out e = rw (eq-eqb _ _ e)

pub answered_none : (number : ℕ) (f : ℕ → Float) (boxes out : List Float) → (number ≡ 0 → ⊥) → out ≡ answered number f boxes out
unfolding answered
answered_none number f boxes out h = rw (ne_eqb _ _ h)

pub eight : (boxes ray out : List Float) → length ray ≡ 8 → refusal boxes out ≡ ray_refusal boxes ray out
unfolding ray_refusal
eight boxes ray out e = rw (eq-eqb _ _ e)

pub not_eight : (boxes ray out : List Float) → (length ray ≡ 8 → ⊥) → 1 ≡ ray_refusal boxes ray out
unfolding ray_refusal
not_eight boxes ray out h = rw (ne_eqb _ _ h)
