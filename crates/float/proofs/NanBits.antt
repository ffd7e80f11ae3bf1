-- Which patterns of binary32 are NaNs: those whose low 31 bits exceed an infinity's.
use mathlib.Core.Path.{◌≡◌, refl, sym, ◌∙◌}
use mathlib.Core.Bool.{true, not, true≢false}
use Prim.Native.Nat.{ℕ, ◌%◌, ◌≤◌, ◌<◌}
use lib.Dec.{T}
use lib.Ieee.{Float, nan, inf, fin, binary32, of_bits, is_nan, nan_bits}
use lib.Ieee.Bits.{nan_bits_is, nan_bits_above}
use borrow.Author.Tests.{lt-ltb, le-ltb}

the_nan : (x : Float) → is_nan x ≡ true → nan ≡ x
unfolding is_nan
the_nan nan h = refl
the_nan (inf s) h = absurd (true≢false (sym h))
the_nan (fin s m e) h = absurd (true≢false (sym h))

pub nan_pattern : (b : ℕ) → 2139095040 < b % 2147483648 → nan ≡ of_bits binary32 b
nan_pattern b h = the_nan (of_bits binary32 b) (sym (nan_bits_is binary32 b) ∙ nan_bits_above binary32 b ∙ lt-ltb 2139095040 (b % 2147483648) h)

pub no_nan_pattern : (b : ℕ) → b % 2147483648 ≤ 2139095040 → T (not (nan_bits binary32 b))
no_nan_pattern b h = rw (nan_bits_above binary32 b, le-ltb 2139095040 (b % 2147483648) h) tt
