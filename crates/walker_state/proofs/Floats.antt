-- A float is read back from its pattern, and there is one NaN.
use mathlib.Core.Bool.{true}
use mathlib.Core.Path.{◌≡◌, refl, ap, subst, ◌∙◌}
use Prim.Native.Nat.{◌%◌, ◌^◌}
use native.Mathlib.Nat.{mod-eq_of_lt}
use lib.Dec.{T}
use lib.Ieee.{Float, nan, inf, fin, binary32, is_nan, fits, of_bits, to_bits}
use lib.Ieee.Bits.{of_bits-to_bits, to_bits-lt}

pub pattern_back : (x : Float) → T (fits binary32 x) → of_bits binary32 (to_bits binary32 x % 2 ^ 32) ≡ x
pattern_back x f = ap (of_bits binary32) (mod-eq_of_lt (to_bits-lt binary32 x f)) ∙ of_bits-to_bits binary32 x f

pub is_nan_lem : (x : Float) → true ≡ is_nan x → nan ≡ x
unfolding is_nan
is_nan_lem nan e = refl
is_nan_lem (inf s) e = absurd (subst T e tt)
is_nan_lem (fin s m d) e = absurd (subst T e tt)
