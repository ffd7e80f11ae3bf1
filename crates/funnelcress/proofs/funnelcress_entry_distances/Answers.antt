use mathlib.Core.Path.{◌≡◌, refl, sym, ap, ◌∙◌}
use native.Mathlib.Omega.{arith}
use Rattle.std.proofs.Common.{rules}
use Rattle.causes.proofs.Refusals.{some_number}
use Rattle.aabb.specs.Aabb.{entry_distance}
use Rattle.packed.specs.Packed.{box_in}
use Rattle.funnelcress.specs.Lists.{entry_at}
use Rattle.funnelcress.proofs.Answers.{room, answered-all, answered_none, eight, not_eight}
use Rattle.funnelcress.proofs.funnelcress_entry_distances.Goals as goal

pub returns-then-ray-ne-RAY-clause-value : goal.returns-then-ray-ne-RAY-clause-value
returns-then-ray-ne-RAY-clause-value c = c.from.ensures ∙ not_eight _ _ _ c.if-ray-ne-RAY.true

pub returns-then-ray-ne-RAY-clause-out_after : goal.returns-then-ray-ne-RAY-clause-out_after
returns-then-ray-ne-RAY-clause-out_after c = answered_none _ _ _ _ (λ z. omega (arith, c.from.ensures, z))

pub fill-requires-clause-room : goal.fill-requires-clause-room
fill-requires-clause-room c = room _ _ (sym c.in-Ok.ensures)

pub returns-in-Ok-clause-value : goal.returns-in-Ok-clause-value
returns-in-Ok-clause-value c = c.in-Ok.ensures ∙ eight _ _ _ c.if-ray-ne-RAY.false

pub returns-in-Ok-clause-out_after : goal.returns-in-Ok-clause-out_after
returns-in-Ok-clause-out_after c =
    let a = c.args in
    c.fill.ensures
    (entry_at a.boxes.now a.ray.now)
    (λ k x met.
    let own : x ≡ entry_distance (box_in a.boxes.now k) c.ray_at-r.result = search rules in
    own ∙ ap (entry_distance (box_in a.boxes.now k)) c.ray_at-r.ensures)
    ∙ answered-all 0 _ _ _ refl

pub returns-in-Err-clause-value : goal.returns-in-Err-clause-value
returns-in-Err-clause-value c = c.from-in-Err.ensures ∙ c.in-Err.ensures ∙ eight _ _ _ c.if-ray-ne-RAY.false

pub returns-in-Err-clause-out_after : goal.returns-in-Err-clause-out_after
returns-in-Err-clause-out_after c = answered_none _ _ _ _ (λ z. some_number _ (sym c.from-in-Err.ensures ∙ z))
