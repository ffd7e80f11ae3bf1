use mathlib.Core.Path.{sym, ap, ◌∙◌}
use Rattle.record_shape.specs.Record.{node_count}
use Rattle.walk.specs.WordStep.{WalkerWords, emptied_words, turn_words}
use Rattle.walk_record.specs.WalkRay.{WalkRay, rays_of}
use Rattle.walk_record.specs.Record.{node_words_at}
use Rattle.advance.specs.Turn.{walker_of, turned}
use Rattle.walk_step.specs.Parts.{is_over}
use Rattle.walk_step.proofs.Parts.{step_gate, step_forged, octant_lt, step_over, step_turns}
use Rattle.walk_step.proofs.step.Goals as goal

pub returns-then-forged : goal.returns-then-forged
returns-then-forged g c =
    let a = c.args in
    c.fault.ensures a.ray a.octant a.stack.now
    ∙ step_gate (g.G.Gate.gates a.gate) a.bvh.bytes.now a.bvh.positions (walker_of a.ray a.octant a.walk a.stack.now) a.bvh.fit
    (sym c.forged.ensures ∙ c.if-forged.true)

pub returns-then-is_forged : goal.returns-then-is_forged
returns-then-is_forged g c =
    let a = c.args in
    c.fault-then-is_forged.ensures a.ray a.octant a.stack.now
    ∙ step_forged (g.G.Gate.gates a.gate) a.bvh.bytes.now a.bvh.positions (walker_of a.ray a.octant a.walk a.stack.now) a.bvh.fit
    (sym c.forged.ensures ∙ c.if-forged.false) (sym c.is_forged.ensures ∙ c.if-is_forged.true)

pub is_over-requires : goal.is_over-requires
is_over-requires g c =
    let a = c.args in
    octant_lt (g.G.Gate.gates a.gate) a.bvh.bytes.now a.bvh.positions (walker_of a.ray a.octant a.walk a.stack.now) a.bvh.fit
    (sym c.forged.ensures ∙ c.if-forged.false) (sym c.is_forged.ensures ∙ c.if-is_forged.false)

pub returns-then-is_over : goal.returns-then-is_over
returns-then-is_over g c =
    let a = c.args in
    let kept = c.pass_over-kept.ensures a.ray a.octant a.stack.now a.bvh.bytes.now in
    c.emptied.ensures a.ray a.octant a.stack.now ∙ ap emptied_words kept
    ∙ step_over (g.G.Gate.gates a.gate) a.bvh.bytes.now a.bvh.positions (walker_of a.ray a.octant a.walk a.stack.now) a.bvh.fit
    (sym c.forged.ensures ∙ c.if-forged.false) (sym c.is_forged.ensures ∙ c.if-is_forged.false)
    (ap (λ (u : WalkerWords WalkRay). is_over (node_count a.bvh.bytes.now) u.positions u.current u.depth u.ray.octant) (sym kept)
    ∙ sym c.is_over.ensures ∙ c.if-is_over.true)

pub turn-t-requires : goal.turn-t-requires
turn-t-requires g c =
    let a = c.args in
    octant_lt (g.G.Gate.gates a.gate) a.bvh.bytes.now a.bvh.positions (walker_of a.ray a.octant a.walk a.stack.now) a.bvh.fit
    (sym c.forged.ensures ∙ c.if-forged.false) (sym c.is_forged.ensures ∙ c.if-is_forged.false)

pub returns : goal.returns
returns g c =
    let a = c.args in
    let gates = g.G.Gate.gates a.gate in
    let m = node_count a.bvh.bytes.now in
    let kept = c.pass_over-kept.ensures a.ray a.octant a.stack.now a.bvh.bytes.now in
    c.leaving.ensures a.ray a.octant c.turn-t.new.stack
    ∙ step_turns gates a.bvh.bytes.now a.bvh.positions (walker_of a.ray a.octant a.walk a.stack.now) a.bvh.fit
    (sym c.forged.ensures ∙ c.if-forged.false) (sym c.is_forged.ensures ∙ c.if-is_forged.false)
    (ap (λ (u : WalkerWords WalkRay). is_over m u.positions u.current u.depth u.ray.octant) (sym kept) ∙ sym c.is_over.ensures ∙ c.if-is_over.false)
    (turned a.ray a.octant c.turn-t.result c.turn-t.new.stack)
    (c.turn-t.ensures ∙ ap (turn_words m (node_words_at a.bvh.bytes.now (rays_of gates)) a.bvh.positions) kept)
