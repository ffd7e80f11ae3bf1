use mathlib.Core.List.{List}
use mathlib.Core.Path.{◌≡◌}
use Prim.Native.Nat.{ℕ, ◌+◌}
use lib.ListN.{get_or}
use Rattle.lists.specs.Splice.{splice}
use Rattle.lists.specs.Values.{values}
use Rattle.join.proofs.put_moved.Given as goal

-- word i, moved up
abbrev pub moved : List ℕ → ℕ → ℕ → ℕ
moved list by i = get_or list i 0 + by

abbrev pub invariant-loop-i : goal.invariant-loop-i
invariant-loop-i l = l.out ≡ splice l.initial.out l.at (values (moved l.list l.by) l.i)
