use mathlib.Core.Path.{◌≡◌, refl}
use Prim.Native.Nat.{ℕ, suc, ◌+◌, ◌-◌}
use native.Mathlib.Omega.{arith}
use native.Mathlib.Numerals.{add-one}
use lib.Ieee.{Float, binary32, add}
use Rattle.cost.specs.declared.Split.{Split}
use Rattle.cost.specs.Table.{best_of, better}
use Rattle.cost.specs.Rows.{costs_at}
use Rattle.cost.proofs.best_split.Goals as goal

step : (l r : ℕ → Float) (n : ℕ) (start : Float) (k : ℕ) {s t : Split} → s ≡ best_of l r n start k → t
    ≡ better s (add binary32 (l k) (r (n - k))) k (n - k)
    → t ≡ best_of l r n start (k + 1)
unfolding best_of
step l r n start k e g = rw (add-one k, ← e) g

pub loop-k-init : goal.loop-k-init
unfolding best_of
loop-k-init c = refl

pub loop-k-preserved : goal.loop-k-preserved
loop-k-preserved c =
    let x = c.args in
    step (costs_at x.costs.now x.first) (costs_at x.costs.now (x.first + 1)) x.n x.start c.loop-k.k c.loop-k.invariant c.better-best.ensures

pub returns : goal.returns
returns c =
    let e : c.loop-k.k ≡ suc c.args.n = omega arith in
    rw e at c.loop-k.invariant
