use mathlib.Core.Path.{◌≡◌, refl, ◌∙◌}
use Prim.Native.Nat.{◌<◌}
use native.Mathlib.Omega.{arith}
use Rattle.std.specs.Prelude.{Option, Some, None}
use Rattle.record_shape.specs.Record.{node_count}
use Rattle.walk_record.specs.WalkRay.{rays_of}
use Rattle.walk_record.specs.Record.{node_words_at}
use Rattle.advance.specs.declared.Due.{Due}
use Rattle.advance.specs.Turn.{due_in, walker_of, step_answer}
use Rattle.advance.proofs.Dues.{turn_none, turn_visits}
use Rattle.advance.proofs.test_due.Goals as goal

no_child : (o : Option Due) → ((g : Due) → o ≡ Some g → ⊥) → (due_in o).group.bits < 0x100_0000
no_child (Some g) h = absurd (h g refl)
no_child None h = omega arith

pub returns-in_default : goal.returns-in_default
unfolding step_answer
returns-in_default g c =
    let a = c.args in
    let aim = a.aim.now in
    turn_none (node_count a.bvh.bytes.now) (node_words_at a.bvh.bytes.now (rays_of (g.G.Gate.gates a.gate))) a.bvh.positions
    (walker_of aim.ray aim.octant a.walk a.stack.now) (omega (arith, c.requires.none))
    (due_in c.due_group.result) c.due_group.ensures.value (no_child _ c.in_default.not-Some)

pub returns : goal.returns
returns g c =
    let a = c.args in
    let aim = a.aim.now in
    c.visit.ensures
    ∙ turn_visits (node_count a.bvh.bytes.now) (node_words_at a.bvh.bytes.now (rays_of (g.G.Gate.gates a.gate))) a.bvh.positions
    (walker_of aim.ray aim.octant a.walk a.stack.now) (omega (arith, c.requires.none))
    _ c.in-Some.ensures.value c.in-Some.ensures.child
