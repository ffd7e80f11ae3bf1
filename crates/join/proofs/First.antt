-- Of two refusals that with the lesser number, by the derived order.
use mathlib.Core.Path.{◌≡◌, refl, ap, ◌∙◌}
use Rattle.std.specs.Prelude.{Result, Ok, Err}
use Rattle.std.specs.Ordering.{ord_min}
use Rattle.causes.specs.declared.Refusal.{Refusal}
use Rattle.causes.specs.contracts.RefusalOrd.TheImpl.{cmp-value}
use Rattle.causes.specs.Refusal.{cause_number, cause_in}
use Rattle.causes.proofs.Refusals.{some_number}
use Rattle.causes.proofs.Least.{least}
use Rattle.join.specs.Steps.{lesser_cause}
use Rattle.join.proofs.Causes.{lesser_none, lesser_alone, lesser_both}

module _ {A : Type 0} (a b : Result A Refusal) where
  -- both are refused, or one is, or none
  pub both_refused : {f g h : Refusal} → a ≡ Err f → b ≡ Err g → h ≡ ord_min cmp-value.it f g → cause_number h
      ≡ lesser_cause (cause_in a) (cause_in b)
  both_refused {f} {g} d e m =
      rw (d, e) (ap cause_number m ∙ least f g ∙ lesser_both (cause_number f) (cause_number g) (some_number f) (some_number g))

  pub first_refused : {f : Refusal} {y : A} → a ≡ Err f → b ≡ Ok y → cause_number f ≡ lesser_cause (cause_in a) (cause_in b)
  first_refused {f} {y} d e = rw (d, e) (lesser_alone (cause_number f) 0 (some_number f) refl)

  pub first_given : {x : A} → a ≡ Ok x → cause_in b ≡ lesser_cause (cause_in a) (cause_in b)
  first_given {x} d = rw d (lesser_none 0 (cause_in b) refl)
