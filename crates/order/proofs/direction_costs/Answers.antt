use mathlib.Core.Path.{ap}
use mathlib.Core.List.{List}
use native.Mathlib.Omega.{arith}
use Rattle.aabb.specs.declared.Aabb.{Aabb}
use Rattle.order.specs.Lists.{padded}
use Rattle.order.specs.Order.{cost_table, no_row}
use Rattle.order.proofs.Padded.{take-eight}
use Rattle.order.proofs.direction_costs.Goals as goal

pub returns : goal.returns
unfolding cost_table
returns c =
    let a = c.args in
    rw (c.cost_rows.ensures, c.min.ensures, c.center.ensures)
    (ap (λ (l : List Aabb). padded no_row (cost_table a.parent l)) (take-eight a.count a.boxes (omega arith)))
