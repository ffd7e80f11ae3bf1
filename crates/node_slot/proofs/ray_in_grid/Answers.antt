use Rattle.node_slot.specs.Parts.{ray_grid_of}
use Rattle.node_slot.specs.Slot.{adjusted_inverse, adjusted_origin}
use Rattle.node_slot.proofs.Boxes.{limit_is}
use Rattle.node_slot.proofs.ray_in_grid.Goals as goal

pub returns : goal.returns
unfolding ray_grid_of adjusted_inverse adjusted_origin
returns c = rw (c.point-p.ensures, c.compute_extent-extent.ensures, c.exponents.ensures, limit_is c.args.ray _ c.max.ensures)
