use native.Mathlib.Omega.{arith}
use Rattle.text.proofs.Put.{rest_room, rest_put, rest_none}
use Rattle.show.proofs.Lines.{lines_next, lines_none}
use Rattle.show.proofs.put_nodes.Goals as goal

pub put_node-requires : goal.put_node-requires
put_node-requires c =
    let i = c.loop-i in
    rest_room i.invariant _ _ (lines_next c.args.«record».now i.i c.args.m (omega arith))

pub loop-i-preserved : goal.loop-i-preserved
loop-i-preserved c =
    let i = c.loop-i in
    rest_put i.invariant _ _ (lines_next c.args.«record».now i.i c.args.m (omega arith)) c.put_node.ensures

pub returns : goal.returns
returns c = rest_none c.loop-i.invariant (lines_none _ _ _ (omega arith))
