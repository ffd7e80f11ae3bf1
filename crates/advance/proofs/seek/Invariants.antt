use mathlib.Core.Path.{◌≡◌}
use lib.ListN.{length}
use Rattle.record_shape.specs.Record.{node_count}
use Rattle.walk.specs.WordStep.{seek_words}
use Rattle.walk_record.specs.WalkRay.{rays_of}
use Rattle.walk_record.specs.Record.{node_words_at}
use Rattle.advance.specs.Turn.{walker_of}
use Rattle.advance.proofs.seek.Given as goal

abbrev pub invariant-loop-gate : goal.invariant-loop-gate
invariant-loop-gate g l =
    let m = node_count l.bvh.bytes.now in
    let N = node_words_at l.bvh.bytes.now (rays_of (g.G.Gate.gates l.gate)) in
    (length l.stack ≡ length l.initial.stack) × (l.walk.positions.bits ≡ 0)
    × (seek_words m N l.left l.bvh.positions (walker_of l.aim.ray l.aim.octant l.walk l.stack)
    ≡ seek_words m N l.most l.bvh.positions (walker_of l.aim.ray l.aim.octant l.initial.walk l.initial.stack))

abbrev pub decreases-loop-gate : goal.decreases-loop-gate
decreases-loop-gate g l = l.left
