use Rattle.std.proofs.Common.{ℕ, ◌≤◌, List}
use Rattle.ray.specs.declared.Ray.{Ray}
use Rattle.record_shape.specs.Record.{node_count}
use Rattle.walk.proofs.WordEnds.{steps_left_words}
use Rattle.advance.specs.declared.Walk.{Walk}
use Rattle.advance.specs.Turn.{walker_of}
use Rattle.loss_walk.proofs.Adding.{Adding}
use Rattle.loss_walk.proofs.walk_losses.Given as goal

-- the most steps that are left to walk v
abbrev pub steps_by : List ℕ → ℕ → Ray → Walk → List ℕ → ℕ
steps_by bytes octant ray v stack = steps_left_words (node_count bytes) (walker_of ray octant v stack)

abbrev pub invariant-loop-walk-2 : goal.invariant-loop-walk-2
invariant-loop-walk-2 g l =
    (steps_by l.scene.bytes.now l.aim.octant l.aim.ray l.walk l.stack ≤ steps_by l.scene.bytes.now l.aim.octant l.aim.ray l.initial.walk l.stack)
    × Adding (g.G.Gate.gates l.gate) l.scene.bytes.now l.scene.indices.now l.scene.panes l.scene.losses.now l.aim.ray
    (walker_of l.aim.ray l.aim.octant l.walk l.stack) l.sum l.fn.totals l.totals

abbrev pub decreases-loop-walk-2 : goal.decreases-loop-walk-2
decreases-loop-walk-2 g l = steps_by l.scene.bytes.now l.aim.octant l.aim.ray l.walk l.stack

abbrev pub invariant-loop-walk : goal.invariant-loop-walk
invariant-loop-walk g l =
    Adding (g.G.Gate.gates l.gate) l.scene.bytes.now l.scene.indices.now l.scene.panes l.scene.losses.now l.aim.ray
    (walker_of l.aim.ray l.aim.octant l.walk l.stack) l.sum l.fn.totals l.totals

abbrev pub decreases-loop-walk : goal.decreases-loop-walk
decreases-loop-walk g l = steps_by l.scene.bytes.now l.aim.octant l.aim.ray l.walk l.stack
