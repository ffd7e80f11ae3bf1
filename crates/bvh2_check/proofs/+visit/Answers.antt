-- What one step reads and marks is in proofs/Steps.
use Rattle.std.proofs.Common.{arith, length-set}
use Rattle.bvh2_check.proofs.Steps.{at_leaf, formed, at_cut, at_fork, marked_before, held_before, held_now, cut_off, left_stops, both}
use Rattle.bvh2_check.proofs.+visit.Goals as goal

pub returns-then-marks-node-ne0 : goal.returns-then-marks-node-ne0
returns-then-marks-node-ne0 t c = marked_before _ _ _ _ _ c.if-marks-node-ne0.true

pub visit-requires : goal.visit-requires
visit-requires t c =
    let g = at_fork c.args.depth _ c.requires c.in-Children.ensures c.if-depth-eq0.false in
    (omega arith, simp length-set g.left)

pub overflow_add-first : goal.overflow_add-first
overflow_add-first t c =
    let g = at_fork c.args.depth _ c.requires c.in-Children.ensures c.if-depth-eq0.false in
    let few = c.args.tree.now.sized.few in
    omega (arith, g.right.node)

pub visit-requires-then-visit : goal.visit-requires-then-visit
visit-requires-then-visit t c =
    let g = at_fork c.args.depth _ c.requires c.in-Children.ensures c.if-depth-eq0.false in
    (omega arith, rw c.visit.auto.marks (simp length-set g.right))

pub overflow_add-place : goal.overflow_add-place
overflow_add-place t c =
    let g = at_leaf c.args.depth _ c.requires c.in-Position.ensures in
    let few = c.args.tree.now.sized.few in
    omega (arith, g.held)

pub offset_bounds-marks-place : goal.offset_bounds-marks-place
offset_bounds-marks-place t c =
    let g = at_leaf c.args.depth _ c.requires c.in-Position.ensures in
    let few = c.args.tree.now.sized.few in
    omega (arith, g.held)

pub bounds-marks-place : goal.bounds-marks-place
bounds-marks-place t c =
    let g = at_leaf c.args.depth _ c.requires c.in-Position.ensures in
    simp length-set (omega (arith, g.held, c.requires.room))

pub returns-then-met : goal.returns-then-met
returns-then-met t c =
    let g = at_leaf c.args.depth _ c.requires c.in-Position.ensures in
    held_before _ _ _ _ _ c.if-marks-node-ne0.false c.nodes.ensures _ _ g.tree g.ends c.if-met.true

pub offset_bounds-marks-place-in-Position : goal.offset_bounds-marks-place-in-Position
offset_bounds-marks-place-in-Position t c =
    let g = at_leaf c.args.depth _ c.requires c.in-Position.ensures in
    let few = c.args.tree.now.sized.few in
    omega (arith, g.held)

pub bounds-marks-place-in-Position : goal.bounds-marks-place-in-Position
bounds-marks-place-in-Position t c =
    let g = at_leaf c.args.depth _ c.requires c.in-Position.ensures in
    simp length-set (omega (arith, g.held, c.requires.room))

pub unreachable-requires : goal.unreachable-requires
unreachable-requires t c = formed c.requires c.in-Malformed.ensures

pub returns-in-Children : goal.returns-in-Children
returns-in-Children t c =
    let g = at_cut _ _ c.args.depth _ c.in-Children.ensures c.if-depth-eq0.true in
    cut_off _ _ _ _ _ c.if-marks-node-ne0.false _ g.tree g.goes_on_lem

pub returns-then-visit : goal.returns-then-visit
returns-then-visit t c =
    let g = at_fork c.args.depth _ c.requires c.in-Children.ensures c.if-depth-eq0.false in
    both _ _ _ _ _ c.if-marks-node-ne0.false _ _ _ _ _ _ g.tree c.if-visit.true c.visit.ensures c.visit-then-visit.ensures

pub returns-else-visit : goal.returns-else-visit
returns-else-visit t c =
    let g = at_fork c.args.depth _ c.requires c.in-Children.ensures c.if-depth-eq0.false in
    left_stops _ _ _ _ _ c.if-marks-node-ne0.false _ _ _ _ _ g.tree c.if-visit.false c.visit.ensures

pub returns-else-met : goal.returns-else-met
returns-else-met t c =
    let g = at_leaf c.args.depth _ c.requires c.in-Position.ensures in
    held_now _ _ _ _ _ c.if-marks-node-ne0.false c.nodes.ensures _ _ g.tree g.ends c.if-met.false
