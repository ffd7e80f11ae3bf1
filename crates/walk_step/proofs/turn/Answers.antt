use mathlib.Core.Path.{ap, ◌∙◌}
use native.Mathlib.Omega.{arith}
use Rattle.record_shape.specs.Record.{node_count}
use Rattle.walk.specs.WordStep.{seek_words}
use Rattle.walk_record.specs.WalkRay.{rays_of}
use Rattle.walk_record.specs.Record.{node_words_at}
use Rattle.advance.specs.Turn.{walker_of}
use Rattle.advance.proofs.Seeks.{seeking_from}
use Rattle.walk_step.proofs.Parts.{report_due, search_due}
use Rattle.walk_step.proofs.turn.Goals as goal

pub returns-then-walk-gt0 : goal.returns-then-walk-gt0
returns-then-walk-gt0 g c =
    let a = c.args in
    c.report.ensures a.ray a.octant a.stack.now
    ∙ report_due (g.G.Gate.gates a.gate) a.bvh.bytes.now a.bvh.positions (walker_of a.ray a.octant a.walk a.stack.now) c.if-walk-gt0.true

pub returns : goal.returns
returns g c =
    let a = c.args in
    let gates = g.G.Gate.gates a.gate in
    let m = node_count a.bvh.bytes.now in
    let N = node_words_at a.bvh.bytes.now (rays_of gates) in
    rw (← c.new-aim.ensures.0, ← c.new-aim.ensures.1)
    (c.seek.ensures
    ∙ ap (seek_words m N 0 a.bvh.positions) (seeking_from _ _ a.stack.now a.walk (omega (arith, c.if-walk-gt0.false)))
    ∙ search_due gates a.bvh.bytes.now a.bvh.positions (walker_of _ _ a.walk a.stack.now) (omega (arith, c.if-walk-gt0.false)))
