use mathlib.Core.Path.{◌≡◌, ap, ◌∙◌}
use mathlib.Core.Bool.{true}
use mathlib.Core.List.{map}
use Prim.Native.Nat.{min}
use native.Mathlib.Omega.{arith}
use lib.ListN.{length, take, get_or, length-take}
use Rattle.order.specs.declared.Assignment.{Assignment}
use Rattle.order.specs.Order.{slots_of, no_child}
use Rattle.order.proofs.Placed.{place_taken}
use Rattle.order.proofs.Slots.{slots_matched}
use Rattle.order.proofs.order_children.Goals as goal

pub returns : goal.returns
unfolding slots_of
returns c =
    let a = c.args in
    let bs = take a.count a.boxes in
    let n : length bs ≡ min a.count 8 = omega (arith, length-take a.count a.boxes) in
    c.place.ensures
    ∙ ap (λ (r : Assignment). map (λ c. get_or a.children c no_child) r.child) c.by_cost.ensures
    ∙ place_taken no_child (slots_of true a.parent bs) a.children (length bs) a.count (omega arith)
    (slots_matched true a.parent bs (omega arith)) (omega arith)
