use mathlib.Core.Path.{◌≡◌, sym, ◌∙◌}
use native.Mathlib.Omega.{arith}
use Rattle.node_slot.proofs.Masks.{placed, nothing_marked, mask_whole}
use Rattle.node_slot.proofs.intersect_ray.Goals as goal

pub returns-then-passed-eq0 : goal.returns-then-passed-eq0
returns-then-passed-eq0 g c =
    let aim = c.args.aim.now in
    let z : c.marks-passed.result ≡ 0 = omega arith in
    sym (nothing_marked (g.G.Gate.gates c.args.gate) c.args.v c.args.node.bytes.now 0 aim.ray aim.octant aim.ends c.ray_in_grid-g.result
    c.marks-passed.result
    aim.near c.ray_in_grid-g.ensures c.marks-passed.ensures z)

pub marked_bits-requires : goal.marked_bits-requires
marked_bits-requires g c = rw c.get_child_and_index_bits-bits.ensures.1 (placed _ _ c.args.aim.now.eight)

pub returns : goal.returns
returns g c =
    let aim = c.args.aim.now in
    c.marked_bits.ensures
    ∙ mask_whole (g.G.Gate.gates c.args.gate) c.args.v c.args.node.bytes.now 0 aim.ray aim.octant aim.ends c.ray_in_grid-g.result
    c.marks-passed.result
    aim.near c.ray_in_grid-g.ensures c.marks-passed.ensures c.keep_open-on.result _ _ _ c.keep_open-on.ensures aim.eight c.metas.ensures
    c.get_child_and_index_bits-bits.ensures.0 c.get_child_and_index_bits-bits.ensures.1
