use Rattle.std.proofs.Common.{◌≤◌, length}
use Rattle.walk.specs.Queries.{closest}
use Rattle.pane_walk.specs.Panes.{pane_of, nearer, gated_closest_walk}
use Rattle.pane_walk.proofs.Reactions.{found_by, Held}
use Rattle.pane_walk.proofs.Queries.{LeadsBy, steps_by}
use Rattle.pane_walk.proofs.walk_closest.Given as goal

abbrev pub invariant-loop-walk-2 : goal.invariant-loop-walk-2
invariant-loop-walk-2 g l =
    let bytes = l.query.bvh.bytes.now in
    Held l.answer
    × (steps_by bytes l.aim.octant l.aim.ray l.walk l.stack ≤ steps_by bytes l.initial.aim.octant l.initial.aim.ray l.initial.walk l.stack)
    × LeadsBy (g.G.Gate.gates l.gate) bytes (length l.on.indices.now) l.aim.octant (closest (pane_of l.on.indices.now l.on.panes.now) nearer)
    (gated_closest_walk (g.G.Gate.gates l.gate) bytes l.on.indices.now l.on.panes.now l.query.aim.ray) l.aim.ray l.walk l.stack (found_by l.answer)

abbrev pub decreases-loop-walk-2 : goal.decreases-loop-walk-2
decreases-loop-walk-2 g l = steps_by l.query.bvh.bytes.now l.aim.octant l.aim.ray l.walk l.stack

abbrev pub invariant-loop-walk : goal.invariant-loop-walk
invariant-loop-walk g l =
    let bytes = l.query.bvh.bytes.now in
    Held l.answer
    × LeadsBy (g.G.Gate.gates l.gate) bytes (length l.on.indices.now) l.aim.octant (closest (pane_of l.on.indices.now l.on.panes.now) nearer)
    (gated_closest_walk (g.G.Gate.gates l.gate) bytes l.on.indices.now l.on.panes.now l.query.aim.ray) l.aim.ray l.walk l.stack (found_by l.answer)

abbrev pub decreases-loop-walk : goal.decreases-loop-walk
decreases-loop-walk g l = steps_by l.query.bvh.bytes.now l.aim.octant l.aim.ray l.walk l.stack
