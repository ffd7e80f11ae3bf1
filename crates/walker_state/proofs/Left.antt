-- What a call leaves, by whether it is refused.
use mathlib.Core.Bool.{Bool, true, false, not}
use mathlib.Core.Path.{◌≡◌, refl, sym, ap, subst}
use Prim.Native.Nat.{ℕ}
use lib.Dec.{eqb}
use borrow.Author.Tests.{ne_eqb}
use Rattle.walk.specs.WordStep.{WalkerWords}
use Rattle.walk_record.specs.WalkRay.{WalkRay}
use Rattle.walker_state.specs.State.{HeldWords, walker_in, Leaves}

pub kept : (s : HeldWords) (w : WalkerWords WalkRay) (b : Bool) → b ≡ true → Leaves b s s w
unfolding Leaves
kept s w b e = subst (λ (x : Bool). Leaves x s s w) (sym e) refl

pub holds : (before after : HeldWords) (w : WalkerWords WalkRay) (b : Bool) → b ≡ false → walker_in after.head after.stack ≡ w
    → Leaves b before after w
unfolding Leaves
holds before after w b e h = subst (λ (x : Bool). Leaves x before after w) (sym e) h

pub some_cause : (k : ℕ) → (k ≡ 0 → ⊥) → not (eqb k 0) ≡ true
some_cause k h = ap not (ne_eqb k 0 h)
