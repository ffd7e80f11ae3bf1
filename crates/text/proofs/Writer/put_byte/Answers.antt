use Prim.Native.Nat.{◌<◌}
use mathlib.Core.Path.{refl, ap, ◌∙◌}
use native.Mathlib.Omega.{arith}
use lib.ListN.{length}
use Rattle.lists.proofs.Splice.{set-splice, length-splice}
use Rattle.text.proofs.Writer.put_byte.Goals as goal

pub returns : goal.returns
returns c =
    let w = c.args.self.now in
    let fits : w.at < length w.out.now = omega (arith, c.requires) in
    let e = set-splice w.out.now w.at c.args.byte fits in
    record { behind = refl; written = e; size = ap length e ∙ length-splice _ _ _ c.requires; buffer = refl }
