use Prim.Native.Nat.{◌+◌, ◌-◌}
use mathlib.Core.Path.{◌≡◌, refl, ap, ◌∙◌}
use native.Mathlib.Omega.{arith}
use lib.ListN.{length}
use lib.Seq.{drop-drop}
use Rattle.lists.specs.Splice.{splice}
use Rattle.lists.proofs.Splice.{length-splice}
use Rattle.text.proofs.Writer.put_bytes.Goals as goal

pub returns : goal.returns
unfolding splice
returns c =
    let w = c.args.self.now in
    let n = length c.args.bytes.now in
    let k : w.at + n - w.at ≡ n = omega arith in
    let e : _ ≡ splice w.out.now w.at c.args.bytes.now = rw (k, drop-drop, c.copy_from_slice.ensures.after) refl in
    record { behind = refl; written = e; size = ap length e ∙ length-splice _ _ _ c.requires; buffer = refl }
