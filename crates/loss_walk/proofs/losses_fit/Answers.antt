use mathlib.Core.Bool.{Bool}
use mathlib.Core.Path.{◌∙◌, refl, ap}
use Prim.Native.Nat.{ℕ}
use borrow.Author.Tests.{eq-eqb, ne_eqb}
use lib.Dec.{leb}
use lib.ListN.{length, get_or}
use Rattle.std.proofs.Common.{rules}
use Rattle.std.proofs.lemmas.Iterator.{YieldsList-from_slice}
use Rattle.std.proofs.lemmas.Iterator.Search.{all_from_yields_List}
use Rattle.lists.specs.Below.{all_below}
use Rattle.lists.proofs.Each.{each_below}
use Rattle.loss_walk.specs.Losses.{losses_fit}
use Rattle.loss_walk.proofs.losses_fit.Goals as goal

pub returns-then-losses-panes : goal.returns-then-losses-panes
unfolding losses_fit
returns-then-losses-panes c =
    let a = c.args in
    let fits : ℕ → Bool = λ w. leb w 1000000 in
    let e = c.if-losses-panes.true in
    let each = all_from_yields_List fits _ _ _ c.all.ensures.ran (YieldsList-from_slice a.losses.now cc) (λ x b q k. search rules)
    ∙ each_below fits fits (λ w. refl) a.losses.now in
    each ∙ rw (eq-eqb (length a.losses.now) a.panes e) (ap (all_below (λ k. leb (get_or a.losses.now k 0) 1000000)) e)

pub returns-else-losses-panes : goal.returns-else-losses-panes
unfolding losses_fit
returns-else-losses-panes c = let a = c.args in rw (ne_eqb (length a.losses.now) a.panes c.if-losses-panes.false) refl
