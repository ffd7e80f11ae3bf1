-- The invariant: the arrays are those of the pairs after so many rounds, each of which seated a child. What is left: the children without a slot.
use Prim.Native.Nat.{◌-◌}
use Rattle.order.proofs.Arrays.{Kept}
use Rattle.order.proofs.rounds.Given as goal

abbrev pub invariant-loop-count : goal.invariant-loop-count
invariant-loop-count l = Kept l.cost l.n l.count (record { slot = l.slot; child = l.child; seated = l.seated; count = l.count; rounds = l.rounds })

abbrev pub decreases-loop-count : goal.decreases-loop-count
decreases-loop-count l = l.n - l.count
