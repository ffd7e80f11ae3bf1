use mathlib.Core.Path.{◌≡◌}
use Rattle.node.specs.Node.{put_slots}
use Rattle.node.proofs.write_slots.Given as goal

abbrev pub invariant-loop-k : goal.invariant-loop-k
invariant-loop-k l = l.bytes ≡ put_slots l.k l.initial.bytes 0 l.slots
