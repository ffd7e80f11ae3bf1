use mathlib.Core.Path.{◌≡◌, refl}
use native.Mathlib.Omega.{arith}
use lib.ListN.{length}
use Rattle.bvh2.specs.Words.{box_at}
use Rattle.order.specs.Lists.{padded}
use Rattle.order.proofs.Padded.{map_next}
use Rattle.emit_tree.proofs.child_boxes.Goals as goal

pub loop-i-init : goal.loop-i-init
unfolding padded
loop-i-init c = refl

pub node_box-requires : goal.node_box-requires
node_box-requires c = c.requires.1 c.loop-i.i c.loop-i-test.true

pub loop-i-preserved : goal.loop-i-preserved
loop-i-preserved c =
    let h = c.requires.0 in
    let e : length c.args.found ≡ 8 = omega arith in
    map_next (box_at c.args.words.now) _ 0 c.args.found c.loop-i.i c.loop-i.boxes c.node_box.result e (omega arith)
    c.loop-i.invariant c.node_box.ensures

pub returns : goal.returns
returns c =
    let e : c.loop-i.i ≡ c.args.count = omega arith in
    rw e at c.loop-i.invariant
