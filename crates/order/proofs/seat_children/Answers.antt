use mathlib.Core.Path.{◌≡◌, sym, ap, ◌∙◌}
use mathlib.Core.Bool.{Bool, cond}
use mathlib.Core.List.{map}
use Prim.Native.Nat.{ℕ, min}
use native.Mathlib.Omega.{arith}
use lib.ListN.{length, take, get_or, length-take}
use Rattle.order.specs.Assign.{rounds_of, arrays_of}
use Rattle.order.specs.Order.{gathered_order, slots_of, placed, seated_of, no_child}
use Rattle.order.specs.declared.Assignment.{Assignment}
use Rattle.order.proofs.Placed.{place_taken, seat_taken}
use Rattle.order.proofs.Slots.{slots_matched}
use Rattle.order.proofs.seat_children.Goals as goal
use Rattle.order.proofs.seat_children.Goals.{After-place-2, then-ordered, else-ordered}

-- as many boxes as children
few : (c : After-place-2) → length (take c.args.count c.args.boxes) ≡ min c.args.count 8
few c = omega (arith, length-take c.args.count c.args.boxes)

-- what is assigned, with ordering or without
made : (c : After-place-2) →
    (let bs = take c.args.count c.args.boxes in
    let ps = slots_of c.args.ordered c.args.parent bs in
    c.if-ordered.made ≡ arrays_of (cond c.args.ordered (rounds_of (length bs) ps) 0) ps)
unfolding slots_of
made c =
    let a = c.args in
    let bs = take a.count a.boxes in
    let given : Bool → Assignment = λ t. arrays_of (cond t (rounds_of (length bs) (slots_of t a.parent bs)) 0) (slots_of t a.parent bs) in
    elim c.if-ordered.branch [
      | then-ordered w ↦ w.made-is ∙ w.by_cost-made.ensures ∙ ap given (sym w.if-ordered.true)
      | else-ordered w ↦
          w.made-is
          ∙ w.as_gathered-made.ensures
          ∙ ap (λ (k : ℕ). arrays_of 0 (gathered_order k)) (w.min.ensures ∙ sym (few c))
          ∙ ap given (sym w.if-ordered.false)
    ]

pub returns : goal.returns
returns c =
    let a = c.args in
    let bs = take a.count a.boxes in
    let n = few c in
    let ps = slots_of a.ordered a.parent bs in
    let m = slots_matched a.ordered a.parent bs (omega arith) in
    let slots : c.place.result ≡ placed no_child ps (take a.count a.children) =
    c.place.ensures
    ∙ ap (λ (r : Assignment). map (λ c. get_or a.children c no_child) r.child) (made c)
    ∙ place_taken no_child ps a.children (length bs) a.count (omega arith) m (omega arith) in
    let seated : c.place-2.result ≡ seated_of no_child ps (take a.count a.children) =
    c.place-2.ensures
    ∙ ap (λ (r : Assignment). map (λ c. get_or a.children c no_child) r.seated) (made c)
    ∙ seat_taken no_child ps a.children (length bs) a.count (omega arith) m (omega arith) in
    λ i. record { slots = slots i; seated = seated i; count = (made c i).count; rounds = (made c i).rounds }
