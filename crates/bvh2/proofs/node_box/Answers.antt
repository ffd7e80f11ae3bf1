use Rattle.bvh2.specs.Words.{box_at}
use Rattle.bvh2.proofs.node_box.Goals as goal

pub returns : goal.returns
unfolding box_at
returns c = cc
