use lib.ListN.{drop}
use Rattle.text.proofs.Put.{Rest}
use Rattle.show.specs.Show.{spaced}
use Rattle.show.proofs.put_spaced.Given as goal

abbrev pub invariant-loop-index : goal.invariant-loop-index
invariant-loop-index l = Rest l.initial.w (spaced l.indices) (spaced (drop l.index-index l.indices)) l.w
