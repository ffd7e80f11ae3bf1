use mathlib.Core.Path.{◌≡◌}
use lib.ListN.{length, get_or}
use Rattle.bvh2.specs.Words.{box_at}
use Rattle.children.specs.Tabled.{most_edges}
use Rattle.emit.specs.Own.{made, cell_of, first_slots}
use Rattle.emit.proofs.build_node.Given as goal

abbrev pub invariant-loop-i : goal.invariant-loop-i
invariant-loop-i l =
    (length l.out ≡ length l.initial.out)
    × (made (record { metas = l.metas; boxes = l.boxes; imask = l.imask; inner = l.inner; at = l.at }) l.out
    ≡ first_slots l.indices (box_at l.tree.words.now l.v) l.start
    (λ j. cell_of l.tree.words.now l.tree.decisions.now most_edges (get_or l.slots j 0)) l.i l.initial.out)
