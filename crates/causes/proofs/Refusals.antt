-- The numbers of refusals, and what a call's error says of its first cause.
use mathlib.Core.Path.{◌≡◌, sym, ap, subst, ◌∙◌}
use Prim.Native.Nat.{ℕ}
use native.Mathlib.Omega.{arith}
use Rattle.std.specs.Prelude.{Result, Ok, Err, IfOk}
use Rattle.causes.specs.declared.Refusal.{Refusal}
use Rattle.causes.specs.declared.Refusal.TheVariants as R
use Rattle.causes.specs.Refusal.{cause_number, cause_in}

-- no cause has the number 0
pub some_number : (r : Refusal) → cause_number r ≡ 0 → ⊥
some_number R.LengthUnfit e = omega arith
some_number R.TooMany e = omega arith
some_number R.LimitOver e = omega arith
some_number R.SliceShort e = omega arith
some_number R.LinkOutside e = omega arith
some_number R.BoxRefused e = omega arith
some_number R.NotOneTree e = omega arith
some_number R.TooDeep e = omega arith
some_number R.RayRefused e = omega arith
some_number R.Fault e = omega arith
some_number R.LossesUnfit e = omega arith
some_number R.IndexOver e = omega arith
some_number R.SpansUnfit e = omega arith

module _ {A : Type 0} {r : Result A Refusal} {k : ℕ} where
  -- a call whose cause is k gave an answer: no cause holds
  pub ok_none : {a : A} → r ≡ Ok a → cause_in r ≡ k → k ≡ 0
  ok_none {a} w e = sym e ∙ ap (cause_in {A = A}) w

  -- it gave an error: its number is k
  pub err_number : {f : Refusal} → r ≡ Err f → cause_in r ≡ k → cause_number f ≡ k
  err_number {f} w e = sym (ap (cause_in {A = A}) w) ∙ e

-- what holds of each answer holds of the one that was given
pub holds_of : {A : Type 0} (P : A → Type 0) {r : Result A Refusal} {a b : A} → IfOk r P → r ≡ Ok a → a ≡ b → P b
holds_of {A} P {r} {a} {b} h e f = subst P f (subst (λ (x : Result A Refusal). IfOk {T = A} {E = Refusal} x P) e h)
