use Rattle.closest.specs.Panes.{miss_of, miss_walk}
use Rattle.closest.proofs.miss.Goals as goal

pub returns : goal.returns
unfolding miss_of miss_walk
returns c = c.miss.ensures
