use Rattle.std.proofs.Common.{◌≡◌, ◌≤◌, length}
use Rattle.walk.specs.Queries.{none, miss}
use Rattle.pane_walk.specs.declared.Occlusion.TheVariants.{Missed}
use Rattle.pane_walk.specs.Panes.{pane_of, nearer, gated_miss_walk}
use Rattle.pane_walk.proofs.Queries.{LeadsBy, steps_by}
use Rattle.pane_walk.proofs.walk_miss.Given as goal

abbrev pub invariant-loop-walk : goal.invariant-loop-walk
invariant-loop-walk g l =
    let bytes = l.query.bvh.bytes.now in
    (l.answer ≡ Missed) × (steps_by bytes l.aim.octant l.aim.ray l.walk l.stack ≤ steps_by bytes l.aim.octant l.aim.ray l.initial.walk l.stack)
    × LeadsBy (g.G.Gate.gates l.gate) bytes (length l.on.indices.now) l.aim.octant (miss (pane_of l.on.indices.now l.on.panes.now) nearer)
    (gated_miss_walk (g.G.Gate.gates l.gate) bytes l.on.indices.now l.on.panes.now l.aim.ray) l.aim.ray l.walk l.stack none

abbrev pub decreases-loop-walk : goal.decreases-loop-walk
decreases-loop-walk g l = steps_by l.query.bvh.bytes.now l.aim.octant l.aim.ray l.walk l.stack

abbrev pub invariant-walk : goal.invariant-walk
invariant-walk g l =
    let bytes = l.query.bvh.bytes.now in
    (l.answer ≡ Missed)
    × LeadsBy (g.G.Gate.gates l.gate) bytes (length l.on.indices.now) l.aim.octant (miss (pane_of l.on.indices.now l.on.panes.now) nearer)
    (gated_miss_walk (g.G.Gate.gates l.gate) bytes l.on.indices.now l.on.panes.now l.aim.ray) l.aim.ray l.walk l.stack none

abbrev pub decreases-walk : goal.decreases-walk
decreases-walk g l = steps_by l.query.bvh.bytes.now l.aim.octant l.aim.ray l.walk l.stack
