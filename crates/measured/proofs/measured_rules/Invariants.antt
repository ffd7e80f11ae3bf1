-- `measured_rules`: no more nodes meet the rule than were looked at.
use Prim.Native.Nat.{◌≤◌}
use Rattle.measured.proofs.measured_rules.Given as goal

abbrev pub invariant-loop-i : goal.invariant-loop-i
invariant-loop-i l = l.met ≤ l.i
