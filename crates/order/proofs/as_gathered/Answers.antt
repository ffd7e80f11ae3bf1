use mathlib.Core.Path.{refl, ap, ◌∙◌, sym}
use Prim.Native.Nat.{ℕ}
use native.Mathlib.Numerals.{add-one}
use native.Mathlib.Omega.{arith}
use Rattle.order.specs.Lists.{padded}
use Rattle.order.specs.Assign.{partner, arrays_of}
use Rattle.order.specs.Order.{gathered_order}
use Rattle.order.proofs.Arrays.{arrays_next}
use Rattle.order.proofs.InOrder.{slot_free, child_free, length_in_order, in_order_matched}
use Rattle.order.proofs.Partners.{matched_of_more}
use Rattle.order.proofs.as_gathered.Goals as goal

pub loop-i-init : goal.loop-i-init
unfolding padded partner gathered_order
loop-i-init c = refl

pub loop-i-preserved : goal.loop-i-preserved
unfolding gathered_order
loop-i-preserved c =
    let l = c.loop-i in
    let i = l.i in
    arrays_next (gathered_order i) (record { child = i; slot = i }) 0 (record { slot = l.own; child = l.own; seated = l.own; count = i; rounds = 0 })
    (matched_of_more i 8 (gathered_order i) (omega arith) (in_order_matched i (omega arith))) (omega arith) (omega arith)
    (slot_free i) (child_free i) (omega (arith, length_in_order i)) l.invariant
    ∙ ap (λ (j : ℕ). arrays_of 0 (gathered_order j)) (sym (add-one i))
