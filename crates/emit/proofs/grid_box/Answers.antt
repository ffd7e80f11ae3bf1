use Rattle.emit.specs.Grid.{box_on}
use Rattle.emit.proofs.grid_box.Goals as goal

pub returns : goal.returns
unfolding box_on
returns c =
    rw (
      c.quantize_max-3.ensures,
      c.quantize_max-2.ensures,
      c.quantize_max.ensures,
      c.quantize_min-3.ensures,
      c.quantize_min-2.ensures,
      c.quantize_min.ensures,
    )
