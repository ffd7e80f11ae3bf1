use mathlib.Core.Path.{◌≡◌, refl, ap, ◌∙◌}
use native.Mathlib.Omega.{arith}
use lib.ListN.{length}
use Rattle.ray.specs.declared.Vec3.{Vec3}
use Rattle.order.specs.Lists.{eight_of, padded}
use Rattle.order.specs.Order.{direction_of, dot_of, direction_cost, no_row}
use Rattle.order.proofs.Padded.{map_next}
use Rattle.order.proofs.cost_rows.Goals as goal

pub loop-c-init : goal.loop-c-init
unfolding padded
loop-c-init c = refl

pub loop-c-preserved : goal.loop-c-preserved
unfolding direction_cost
loop-c-preserved c =
    let a = c.args in
    let e : length a.boxes ≡ 8 = omega arith in
    map_next (λ b. eight_of (direction_cost a.p b)) no_row _ a.boxes c.loop-c.c c.loop-c.cost c.cost_row.result e
    (omega arith) c.loop-c.invariant
    (c.cost_row.ensures ∙ ap (λ (z : Vec3). eight_of (λ s. dot_of (direction_of s) z)) c.offset.ensures)
