use mathlib.Core.Path.{◌≡◌}
use Prim.Native.Nat.{◌+◌, ◌*◌, ◌-◌}
use Rattle.lists.specs.Splice.{splice}
use Rattle.tree_words.specs.Nodes.{in_turn}
use Rattle.join.specs.Join.{moved_node}
use Rattle.join.proofs.move_rest.Given as goal

abbrev pub invariant-loop-v : goal.invariant-loop-v
invariant-loop-v l = l.words ≡ splice l.initial.words ((1 + l.by.nodes) * 7)
    (in_turn (λ u. moved_node l.from.tree.words.now l.by.nodes l.by.positions (u + 1)) (l.v - 1))
