use mathlib.Core.Bool.{not}
use mathlib.Core.Path.{◌≡◌, ap, ◌∙◌}
use Prim.Native.Nat.{◌+◌, ◌-◌}
use native.Mathlib.Omega.{arith}
use Rattle.validate.proofs.Filling.{marked_is}
use Rattle.validate.proofs.all_marked.Goals as goal

pub returns : goal.returns
returns c =
    let a = c.args in
    let e : a.m + a.n - a.m ≡ a.n = omega arith in
    ap not (rw e at c.contains.ensures.value) ∙ marked_is a.work.now a.m a.n c.requires
