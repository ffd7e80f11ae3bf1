use Rattle.emit.specs.Grid.{grid_of}
use Rattle.emit.proofs.grid_of.Goals as goal

pub returns : goal.returns
unfolding grid_of
returns c = cc
