use mathlib.Core.Path.{◌∙◌}
use Prim.Native.Nat.{◌+◌, min}
use lib.Dec.{leb}
use Rattle.std.proofs.Common.{rules}
use Rattle.std.proofs.lemmas.Iterator.{YieldsList-from_slice}
use Rattle.std.proofs.lemmas.Iterator.Search.{all_from_yields_List}
use Rattle.lists.proofs.Each.{each_below}
use Rattle.join.proofs.Sums.{saturated}
use Rattle.join.proofs.sums_fit.Goals as goal

pub returns : goal.returns
returns c =
    let a = c.args in
    all_from_yields_List (λ w. leb (min (w + a.panes) 0xffff_ffff_ffff_ffff) 0xffff_ffff) _ _ _ c.all.ensures.ran
    (YieldsList-from_slice a.list.now cc) (λ x b q k. search rules)
    ∙ each_below _ (λ w. leb (w + a.panes) 0xffff_ffff) (λ w. saturated (w + a.panes)) a.list.now
