use Prim.Native.Nat.{◌-◌}
use Rattle.text.proofs.Put.{Rest}
use Rattle.show.specs.Show.{node_lines}
use Rattle.show.proofs.put_nodes.Given as goal

abbrev pub invariant-loop-i : goal.invariant-loop-i
invariant-loop-i l = Rest l.initial.w (node_lines l.record 0 l.m) (node_lines l.record l.i (l.m - l.i)) l.w
