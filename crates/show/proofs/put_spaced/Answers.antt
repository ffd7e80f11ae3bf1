use Prim.Native.Nat.{◌≤◌}
use mathlib.Core.Path.{ap}
use native.Mathlib.Omega.{arith}
use lib.ListN.{length, drop_of_length-le}
use Rattle.text.proofs.Put.{rest_room, rest_put, rest_none}
use Rattle.show.specs.Show.{spaced}
use Rattle.show.proofs.Lines.{spaced_next}
use Rattle.show.proofs.put_spaced.Goals as goal

pub put_index-requires : goal.put_index-requires
put_index-requires c =
    let i = c.loop-index in
    rest_room i.invariant _ _ (spaced_next c.args.indices.now i.index-index (omega arith))

pub loop-index-preserved : goal.loop-index-preserved
loop-index-preserved c =
    let i = c.loop-index in
    rest_put i.invariant _ _ (spaced_next c.args.indices.now i.index-index (omega arith)) c.put_index.ensures

pub returns : goal.returns
unfolding spaced
returns c =
    let i = c.loop-index in
    let h : length c.args.indices.now ≤ i.index-index = omega arith in
    rest_none i.invariant (ap spaced (drop_of_length-le _ h))
