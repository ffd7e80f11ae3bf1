-- A child's box on the grid of a box is the box that the record holds.
use mathlib.Core.Path.{◌≡◌, refl}
use Rattle.aabb.specs.declared.Aabb.{Aabb}
use Rattle.quantization.specs.Ends.{on_grid, child_min, child_max}
use Rattle.record.specs.Record.{grid_box}
use Rattle.emit.specs.Grid.{grid_of, box_on}

pub on_grid_lem : (b c : Aabb) → box_on (grid_of b) c ≡ grid_box b c
unfolding box_on grid_of grid_box child_min child_max on_grid
on_grid_lem b c = refl
