use native.Mathlib.Nat.{zero-add}
use Rattle.node.specs.Node.{put_slot}
use Rattle.node.proofs.write_slot.Goals as goal

pub returns : goal.returns
unfolding put_slot
returns c =
    rw (
      c.slot_offset.ensures.0,
      c.slot_offset-2.ensures.0,
      c.slot_offset-3.ensures.0,
      c.slot_offset-4.ensures.0,
      c.slot_offset-5.ensures.0,
      c.slot_offset-6.ensures.0,
    )
    (simp zero-add)
