-- The invariant: `best` is the best of the first k splits.
use mathlib.Core.Path.{◌≡◌}
use Prim.Native.Nat.{◌+◌}
use Rattle.cost.specs.Table.{best_of}
use Rattle.cost.specs.Rows.{costs_at}
use Rattle.cost.proofs.best_split.Given as goal

abbrev pub invariant-loop-k : goal.invariant-loop-k
invariant-loop-k l = l.best ≡ best_of (costs_at l.costs l.first) (costs_at l.costs (l.first + 1)) l.n l.start l.k
