-- The invariant: the boxes below i are the nodes', the others their parent's.
use mathlib.Core.Path.{◌≡◌}
use mathlib.Core.List.{map}
use lib.ListN.{take, get_or}
use Rattle.bvh2.specs.Words.{box_at}
use Rattle.order.specs.Lists.{padded}
use Rattle.emit_tree.proofs.child_boxes.Given as goal

abbrev pub invariant-loop-i : goal.invariant-loop-i
invariant-loop-i l = l.boxes ≡ padded (get_or l.initial.boxes 0 (box_at l.words 0)) (map (box_at l.words) (take l.i l.found))
