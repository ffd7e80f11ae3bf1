use mathlib.Core.Path.{refl, sym, ap, ◌∙◌}
use Rattle.std.proofs.Common.{rules, ◌≡◌}
use Rattle.causes.specs.Refusal.{cause_number, cause_in}
use Rattle.causes.proofs.Refusals.{some_number}
use Rattle.traverse.specs.Walker.{Begun}
use Rattle.walker_state.proofs.Left.{kept, holds, some_cause}
use Rattle.walker_state.proofs.begin.Goals as goal

pub returns-in_err-walker-clause-leaves : goal.returns-in_err-walker-clause-leaves
returns-in_err-walker-clause-leaves c =
    let own : cause_in c.from_residual.result ≡ cause_number c.in_err-walker.field-0.0 = search rules in
    kept _ _ _ (some_cause _ (λ z. some_number _ (sym own ∙ z)))

pub returns-clause-leaves : goal.returns-clause-leaves
returns-clause-leaves c = holds _ _ _ _ refl (c.put_walker.ensures ∙ ap (λ (b : Begun). b.walker) c.in_ok-walker.ensures)
