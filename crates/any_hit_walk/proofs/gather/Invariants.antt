use Rattle.std.proofs.Common.{◌≡◌, ◌+◌, ◌≤◌}
use Rattle.words.specs.Ones.{ones_below}
use Rattle.record_shape.specs.Record.{node_count}
use Rattle.walk.proofs.WordEnds.{steps_left_words}
use Rattle.advance.specs.Turn.{walker_of}
use Rattle.any_hit_walk.specs.Gather.{Walking}
use Rattle.any_hit_walk.proofs.gather.Given as goal

abbrev pub invariant-loop-walk : goal.invariant-loop-walk
invariant-loop-walk g l =
    let bvh = l.query.bvh in
    let aim = l.query.aim in
    let m = node_count bvh.bytes.now in
    let w = walker_of aim.ray aim.octant l.walk l.stack in
    (l.initial.count ≤ l.count) × (l.count + ones_below 32 l.walk.positions.bits ≤ l.most + 24)
    × (steps_left_words m w ≤ steps_left_words m (walker_of aim.ray aim.octant l.initial.walk l.stack))
    × Walking (g.G.Gate.gates l.gate) bvh.bytes.now bvh.positions aim.ray w l.count l.initial.found l.found

abbrev pub decreases-loop-walk : goal.decreases-loop-walk
decreases-loop-walk g l = steps_left_words (node_count l.query.bvh.bytes.now) (walker_of l.query.aim.ray l.query.aim.octant l.walk l.stack)

abbrev pub invariant-loop-count : goal.invariant-loop-count
invariant-loop-count g l =
    let bvh = l.query.bvh in
    let aim = l.query.aim in
    (l.walk.positions.bits ≡ 0) × (l.count ≤ l.most + 24)
    × Walking (g.G.Gate.gates l.gate) bvh.bytes.now bvh.positions aim.ray (walker_of aim.ray aim.octant l.walk l.stack) l.count l.initial.found
    l.found

abbrev pub decreases-loop-count : goal.decreases-loop-count
decreases-loop-count g l = steps_left_words (node_count l.query.bvh.bytes.now) (walker_of l.query.aim.ray l.query.aim.octant l.walk l.stack)
