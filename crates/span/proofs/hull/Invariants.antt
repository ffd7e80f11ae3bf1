use mathlib.Core.Path.{◌≡◌}
use Prim.Native.Nat.{◌+◌}
use lib.ListN.{take}
use Rattle.span.specs.Hull.{hull}
use Rattle.span.proofs.hull.Given as goal

-- over the panes so far, the first among them
abbrev pub invariant-loop-k : goal.invariant-loop-k
invariant-loop-k l = l.hull ≡ hull l.spans (take (l.k-index + 1) l.panes)
