-- After i turns the first i places are filled.
use mathlib.Core.Path.{◌≡◌}
use Prim.Native.Nat.{ℕ}
use lib.Ieee.{Float}
use Rattle.packed.specs.Packed.{box_in}
use Rattle.funnelcress.proofs.Filled.{Filling}
use Rattle.funnelcress.proofs.fill.Given as goal

abbrev pub invariant-loop-i : goal.invariant-loop-i
invariant-loop-i g l =
    (f : ℕ → Float) → ((k : ℕ) (x : Float) → goal.F-post g l.answer (box_in l.boxes k) x → x ≡ f k) → Filling f l.i l.initial.out l.out
