use mathlib.Core.Path.{refl, sym, ◌∙◌}
use Rattle.std.proofs.Common.{rules}
use Rattle.causes.proofs.Refusals.{some_number}
use Rattle.funnelcress.specs.Lists.{area_at}
use Rattle.funnelcress.proofs.Answers.{room, answered-all, answered_none}
use Rattle.funnelcress.proofs.funnelcress_half_areas.Goals as goal

pub fill-requires-clause-room : goal.fill-requires-clause-room
fill-requires-clause-room c = room _ _ (sym c.in-Ok.ensures)

pub returns-in-Ok-clause-value : goal.returns-in-Ok-clause-value
returns-in-Ok-clause-value c = c.in-Ok.ensures

pub returns-in-Ok-clause-out_after : goal.returns-in-Ok-clause-out_after
returns-in-Ok-clause-out_after c = c.fill.ensures (area_at c.args.boxes.now) (λ k x met. search rules) ∙ answered-all 0 _ _ _ refl

pub returns-in-Err-clause-value : goal.returns-in-Err-clause-value
returns-in-Err-clause-value c = c.from.ensures ∙ c.in-Err.ensures

pub returns-in-Err-clause-out_after : goal.returns-in-Err-clause-out_after
returns-in-Err-clause-out_after c = answered_none _ _ _ _ (λ z. some_number _ (sym c.from.ensures ∙ z))
