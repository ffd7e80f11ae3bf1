use Rattle.closest.specs.Panes.{closest_of, closest_walk}
use Rattle.closest.proofs.closest.Goals as goal

pub returns : goal.returns
unfolding closest_of closest_walk
returns c = c.closest.ensures
