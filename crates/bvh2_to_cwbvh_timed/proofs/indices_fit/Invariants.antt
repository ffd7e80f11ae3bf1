use mathlib.Core.Path.{◌≡◌}
use lib.Dec.{ltb}
use lib.ListN.{get_or}
use Rattle.lists.specs.Below.{all_below}
use Rattle.bvh2_to_cwbvh_timed.proofs.indices_fit.Given as goal

-- whether all index words so far name panes
abbrev pub invariant-loop-index : goal.invariant-loop-index
invariant-loop-index l = l.fit ≡ all_below (λ i. ltb (get_or l.indices i 0) l.panes) l.index-index
