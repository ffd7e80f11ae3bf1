use mathlib.Core.Path.{sym, ap, subst, ◌∙◌}
use Prim.Native.Nat.{ℕ, ◌%◌, ◌^◌}
use lib.Dec.{T}
use lib.Ieee.{binary32, of_bits}
use Rattle.walker_state.proofs.Floats.{pattern_back, is_nan_lem}
use Rattle.walker_state.proofs.pattern.Goals as goal

pub returns-then-is_nan : goal.returns-then-is_nan
unfolding of_bits
returns-then-is_nan c = is_nan_lem _ c.if-is_nan.ensures.value

pub returns : goal.returns
returns c = ap (λ (n : ℕ). of_bits binary32 (n % 2 ^ 32)) c.from.ensures ∙ pattern_back _ (subst T (sym c.well_formed.0.1) tt)
