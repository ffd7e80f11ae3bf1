use mathlib.Core.Path.{◌≡◌}
use Prim.Native.Nat.{ℕ, ◌<◌}
use lib.ListN.{length, get_or}
use Rattle.node_slot.specs.Mask.{only_if}
use Rattle.node_slot.specs.Parts.{slot_passes}
use Rattle.node_slot.proofs.marks.Given as goal

abbrev pub invariant-loop-k : goal.invariant-loop-k
invariant-loop-k l =
    (length l.marks ≡ 8) × ((j : ℕ) → j < l.k → get_or l.marks j 0 ≡ only_if (slot_passes l.node.bytes.now 0 l.e l.g j) 7)
