use mathlib.Core.Bool.{not}
use mathlib.Core.Path.{sym, ap, ◌∙◌}
use Prim.Native.Nat.{ℕ}
use lib.Dec.{eqb}
use Rattle.walker_state.proofs.Left.{kept}
use Rattle.funnelcress.specs.Walkers.{begun_number}
use Rattle.funnelcress.proofs.WalkerNumbers.{begin_unfit, begin_fit, begin-leaves}
use Rattle.funnelcress.proofs.walkers.funnelcress_begin.Goals as goal

pub returns-then-odd : goal.returns-then-odd
unfolding begun_number
returns-then-odd c =
    let u = begin_unfit _ c.if-odd.true in
    record {
      value = c.refusal_number.ensures ∙ ap begun_number u;
      leaves = kept _ _ _ (ap (λ (k : ℕ). not (eqb k 0)) (sym u));
    }

pub returns : goal.returns
returns c =
    let q = begin_fit _ _ c.if-odd.false c.beam_at-beam.ensures _ c.begin.ensures.value in
    record { value = c.begun_number.ensures ∙ ap begun_number q; leaves = begin-leaves _ _ _ _ c.beam_at-beam.ensures _ q c.begin.ensures.leaves }
