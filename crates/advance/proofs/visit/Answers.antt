use mathlib.Core.Path.{sym, ◌∙◌}
use native.Mathlib.Omega.{arith}
use Rattle.record_shape.specs.Record.{node_count}
use Rattle.advance.specs.Turn.{group_of, step_answer}
use Rattle.advance.proofs.Visits.{not_past, turn_crowded, turn_past, turn-broken, turn-tested}
use Rattle.advance.proofs.visit.Goals as goal

pub returns-then-lacks_room : goal.returns-then-lacks_room
unfolding step_answer
returns-then-lacks_room g c =
    let a = c.args in
    let aim = a.aim.now in
    turn_crowded (g.G.Gate.gates a.gate) a.bvh.bytes.now a.bvh.positions aim.ray aim.octant a.walk a.stack.now (group_of a.g.group) a.g.depth
    (group_of c.rest_of-rest.result) c.first_child-child.result
    c.rest_of-rest.ensures c.first_child-child.ensures (sym c.lacks_room.ensures ∙ c.if-lacks_room.true)

pub returns-then-is_past : goal.returns-then-is_past
unfolding step_answer
returns-then-is_past g c =
    let a = c.args in
    let aim = a.aim.now in
    turn_past (g.G.Gate.gates a.gate) a.bvh.bytes.now a.bvh.positions aim.ray aim.octant a.walk a.stack.now (group_of a.g.group) a.g.depth
    (group_of c.rest_of-rest.result) c.first_child-child.result
    c.rest_of-rest.ensures c.first_child-child.ensures (sym c.lacks_room.ensures ∙ c.if-lacks_room.false)
    (sym c.is_past.ensures ∙ c.if-is_past.true)

pub test_node-requires : goal.test_node-requires
test_node-requires g c =
    let h = not_past c.first_child-child.result c.args.walk.tests (node_count c.args.bvh.bytes.now)
    (sym c.is_past.ensures ∙ c.if-is_past.false) in
    omega (arith, h.0)

pub returns-in_default : goal.returns-in_default
unfolding step_answer
returns-in_default g c =
    let a = c.args in
    let aim = a.aim.now in
    turn-broken (g.G.Gate.gates a.gate) a.bvh.bytes.now a.bvh.positions aim.ray aim.octant a.walk a.stack.now (group_of a.g.group) a.g.depth
    (group_of c.rest_of-rest.result) c.first_child-child.result
    c.rest_of-rest.ensures c.first_child-child.ensures (sym c.lacks_room.ensures ∙ c.if-lacks_room.false)
    (sym c.is_past.ensures ∙ c.if-is_past.false)
    c.test_node.result c.test_node.ensures c.in_default.not-Some

pub overflow_cast-result : goal.overflow_cast-result
overflow_cast-result g c =
    let h = not_past c.first_child-child.result c.args.walk.tests (node_count c.args.bvh.bytes.now)
    (sym c.is_past.ensures ∙ c.if-is_past.false) in
    omega (arith, h.0, c.args.bvh.fit.small)

pub follow-requires : goal.follow-requires
follow-requires g c =
    let h = not_past c.first_child-child.result c.args.walk.tests (node_count c.args.bvh.bytes.now)
    (sym c.is_past.ensures ∙ c.if-is_past.false) in
    omega (arith, h.1, c.args.bvh.fit.small)

pub returns : goal.returns
unfolding step_answer
returns g c =
    let a = c.args in
    let aim = a.aim.now in
    turn-tested (g.G.Gate.gates a.gate) a.bvh.bytes.now a.bvh.positions aim.ray aim.octant a.walk a.stack.now (group_of a.g.group) a.g.depth
    (group_of c.rest_of-rest.result) c.first_child-child.result
    c.rest_of-rest.ensures c.first_child-child.ensures (sym c.lacks_room.ensures ∙ c.if-lacks_room.false)
    (sym c.is_past.ensures ∙ c.if-is_past.false)
    c.in-Some.ensures c.follow.result c.wait-depth.result _ c.follow.ensures
    c.wait-depth.ensures.value c.wait-depth.ensures.stack_after
