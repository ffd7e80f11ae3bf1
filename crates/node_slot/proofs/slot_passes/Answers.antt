use Rattle.node_slot.specs.Parts.{slot_passes}
use native.Mathlib.Nat.{zero-add}
use Rattle.node_slot.proofs.slot_passes.Goals as goal

pub returns : goal.returns
unfolding slot_passes
returns c =
    rw (
      c.box_passes.ensures,
      c.corner-fz.ensures,
      c.corner-fy.ensures,
      c.corner-fx.ensures,
      c.corner-nz.ensures,
      c.corner-ny.ensures,
      c.corner-nx.ensures,
    )
    (simp zero-add)
