-- `fill_masks`: the answers keep their length.
use mathlib.Core.Path.{◌≡◌}
use lib.ListN.{length}
use Rattle.measured.proofs.fill_masks.Given as goal

abbrev pub invariant-loop-i : goal.invariant-loop-i
invariant-loop-i l = length l.out ≡ length l.initial.out
