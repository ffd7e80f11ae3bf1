use mathlib.Core.Bool.{Bool, ◌&&◌}
use mathlib.Core.Path.{refl, sym, ap, ◌∙◌}
use Prim.Native.Nat.{ℕ}
use native.Mathlib.Numerals.{add-one}
use lib.Dec.{ltb}
use lib.ListN.{get_or}
use Rattle.lists.specs.Below.{all_below}
use Rattle.bvh2_to_cwbvh_timed.proofs.indices_fit.Goals as goal

pub loop-index-init : goal.loop-index-init
unfolding all_below
loop-index-init c = refl

pub loop-index-preserved : goal.loop-index-preserved
unfolding all_below
loop-index-preserved c =
    let named : ℕ → Bool = λ i. ltb (get_or c.args.indices.now i 0) c.args.panes in
    let k = c.loop-index.index-index in
    ap (λ (b : Bool). b && named k) c.loop-index.invariant ∙ ap (all_below named) (sym (add-one k))
