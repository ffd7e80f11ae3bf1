-- The invariant: the entries before i are written, and `e` is entry i.
use Prim.Native.Nat.{◌*◌}
use Rattle.cost.specs.Rows.{entry_from}
use Rattle.cost.proofs.Entries.{Turn}
use Rattle.cost.proofs.inner_entries.Given as goal

abbrev pub invariant-loop-i : goal.invariant-loop-i
invariant-loop-i l = Turn (entry_from l.initial.costs l.first l.area l.count l.limit) (l.v * 7) l.i
    l.initial.decisions l.initial.costs l.decisions l.costs l.e
