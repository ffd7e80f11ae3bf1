use Prim.Native.Nat.{◌≤◌}
use mathlib.Core.Path.{ap}
use native.Mathlib.Omega.{arith}
use lib.ListN.{length, drop_of_length-le}
use Rattle.text.specs.Text.{hex}
use Rattle.text.proofs.Hex.{hex_next}
use Rattle.text.proofs.Put.{rest_put, rest_none}
use Rattle.text.proofs.Writer.put_hex.Goals as goal

pub loop-byte-preserved : goal.loop-byte-preserved
loop-byte-preserved c =
    let l = c.loop-byte in
    rest_put l.invariant _ _ (hex_next c.args.bytes.now l.byte-index (omega arith)) c.put_hex_byte.ensures

pub returns : goal.returns
unfolding hex
returns c =
    let h : length c.args.bytes.now ≤ c.loop-byte.byte-index = omega arith in
    rest_none c.loop-byte.invariant (ap hex (drop_of_length-le _ h))
