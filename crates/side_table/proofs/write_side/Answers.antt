use mathlib.Core.List.{List}
use mathlib.Core.Path.{◌≡◌, sym, ap, ◌∙◌, subst}
use Prim.Native.Nat.{ℕ, ◌+◌, ◌-◌, ◌*◌, ◌<◌, ◌≤◌}
use native.Mathlib.Omega.{arith}
use lib.ListN.{length}
use Rattle.node.proofs.Splice.{put-splice}
use Rattle.wide_layout.specs.Layout.{nodes}
use Rattle.wide_layout.specs.Shape.{layout_entry}
use Rattle.side_table.proofs.Table.{node_length}
use Rattle.side_table.proofs.Written.{Filled, fill_begun, fill_next, fill_ended}
use Rattle.side_table.proofs.write_side.Goals as goal

pub loop-v-init : goal.loop-v-init
loop-v-init c = λ h.
    let S = c.args.spans.now in
    let old = c.args.side.now in
    subst (Filled S h.indices h.tree old old) (sym h.nodes_are) (fill_begun S h.indices h.tree old)

pub loop-v-preserved : goal.loop-v-preserved
loop-v-preserved c = λ h.
    let S = c.args.spans.now in
    let old = c.args.side.now in
    let side = c.loop-v.side in
    let v = c.loop-v.v - 1 in
    let one : c.loop-v.v ≡ v + 1 = omega (arith, c.loop-v-test.true) in
    let room : 16 * nodes h.tree ≤ length old = omega (arith, h.nodes_are, c.requires.1) in
    let there : v < nodes h.tree = omega (arith, h.nodes_are, c.loop-v.auto.v) in
    let f : Filled S h.indices h.tree old side (v + 1) = subst (Filled S h.indices h.tree old side) one (c.loop-v.invariant h) in
    let b = c.copy_from_slice.new.self in
    let e = c.copy_from_slice.ensures.after ∙ c.node_spans-bytes.ensures h f.stand in
    subst (λ (l : List ℕ). Filled S h.indices h.tree old l v)
    (sym (put-splice side b (16 * v) (16 * v + 16 - 16 * v) (omega (arith, ap length e, node_length S h.indices (layout_entry h.tree v)))))
    (fill_next S h.indices h.tree old room v there side c.loop-v.auto.side b e f)

pub returns : goal.returns
returns c = λ h.
    let S = c.args.spans.now in
    let old = c.args.side.now in
    let room : 16 * nodes h.tree ≤ length old = omega (arith, h.nodes_are, c.requires.1) in
    let none : c.loop-v.v ≡ 0 = omega (arith, c.loop-v-test.false) in
    fill_ended S h.indices h.tree old room c.loop-v.side c.loop-v.auto.side
    (subst (Filled S h.indices h.tree old c.loop-v.side) none (c.loop-v.invariant h))
