-- The exponent byte: read from the bit pattern, at least 53 always, at most 161 within the bounds, and there that of the next power of two at or
-- above the scaled extent.
use Rattle.std.proofs.Common.{◌≡◌, ℕ, ◌^◌, ◌≤◌, Bool, true, false, cond, not, ◌&&◌, T, pos, negsuc, sym, refl, subst, true≢false, lit<}
use lib.Ieee.{Float, nan, inf, fin, binary32, round, sub, mul, div, lt, le, to_bits, is_nan}
use lib.Ieee.Bits.{is_true}
use lib.Ieee.Fits.{mul-fits, and_l, and_r}
use Rattle.float.specs.Compare.{max_of}
use Rattle.float.specs.Magnitude.{Within}
use Rattle.float.specs.PowerOfTwo.{power, NextPower, next_power}
use Rattle.float.proofs.Magnitude.{sub_within, atmost_finite, atmost_tests}
use Rattle.float.proofs.Monotone.{mul_mono_left}
use Rattle.float.proofs.Order.{le_of_lt, le_transitive, lt_of_not_le}
use Rattle.float.proofs.PowerOfTwo.{rounded_field, next_power_lem, next_power_mono, next_power_of_bits}
use Rattle.float.proofs.Sign.{no_nan_le_r}
use Rattle.float.proofs.Units.{least_normal, pattern_upto}
use Rattle.ray.proofs.Bounds.{bounded}
use Rattle.aabb.specs.declared.Aabb.{Aabb}
use Rattle.aabb.specs.Aabb.{in_order, accepted_box}
use Rattle.ray.specs.Ray.{bounded_vec}
use Rattle.quantization.specs.Exponent.{least_extent, denom, extent_scale, exponent_of}

-- ---- every extent: the scale is not below that of 1e-20
abbrev least_scale : Float
least_scale = mul binary32 least_extent denom

scaled_least : (x : Float) → T (le least_scale (mul binary32 (max_of x least_extent) denom))
unfolding max_of round mul div lt le
scaled_least x = go x (lt least_extent x) refl
  where
    go : (x : Float) (b : Bool) → lt least_extent x ≡ b → T (le least_scale (mul binary32 (cond b x least_extent) denom))
    go x false h = tt
    go nan true h = absurd (true≢false (sym h))
    go (inf true) true h = absurd (true≢false (sym h))
    go (inf false) true h = tt
    go (fin s m e) true h = mul_mono_left binary32 least_extent (fin s m e) 8421505 (negsuc 30) tt tt (le_of_lt least_extent (fin s m e) h)

pub scale_least : (lo hi : Float) → T (le least_scale (extent_scale lo hi))
unfolding extent_scale
scale_least lo hi = scaled_least (sub binary32 hi lo)

pub scale_normal : (lo hi : Float) → T (le least_normal (extent_scale lo hi))
unfolding round mul div le
scale_normal lo hi = le_transitive least_normal least_scale (extent_scale lo hi) tt (scale_least lo hi)

pub scale_no_nan : (lo hi : Float) → T (not (is_nan (extent_scale lo hi)))
scale_no_nan lo hi = no_nan_le_r least_normal (extent_scale lo hi) (is_true (le least_normal (extent_scale lo hi)) (scale_normal lo hi))

scale_fits : (lo hi : Float) → T (lib.Ieee.fits binary32 (extent_scale lo hi))
unfolding extent_scale
scale_fits lo hi = mul-fits binary32 (max_of (sub binary32 hi lo) least_extent) denom

-- ---- the byte from the pattern
exponent_of_bits : (lo hi : Float) → rounded_field (to_bits binary32 (extent_scale lo hi)) ≡ exponent_of lo hi
unfolding exponent_of
exponent_of_bits lo hi = sym (next_power_of_bits (extent_scale lo hi) (scale_fits lo hi) (scale_normal lo hi))

-- what the code needs of the scale s that it was given
pub record Scaled (lo hi s : Float) : Type 0 where
  pub no_nan : T (not (is_nan s))
  pub limit : to_bits binary32 s ≤ 2139095040
  pub is : rounded_field (to_bits binary32 s) ≡ exponent_of lo hi

pub scaled : (lo hi s : Float) → s ≡ extent_scale lo hi → Scaled lo hi s
scaled lo hi s p =
    subst (Scaled lo hi) (sym p) record {
      no_nan = scale_no_nan lo hi;
      limit = pattern_upto (extent_scale lo hi) (scale_fits lo hi) (scale_normal lo hi);
      is = exponent_of_bits lo hi;
    }

-- ---- the range
pub exponent_least : (lo hi : Float) → 53 ≤ exponent_of lo hi
unfolding exponent_of next_power round mul div le
exponent_least lo hi = next_power_mono least_scale (extent_scale lo hi) (scale_least lo hi)

-- 2 ^ 41, the largest extent within the bounds, scaled
abbrev largest_scale : Float
largest_scale = mul binary32 (fin false 1 (pos 41)) denom

scale_most : (lo hi : Float) → Within 40 lo → Within 40 hi → T (le (extent_scale lo hi) largest_scale)
unfolding extent_scale max_of round div
scale_most lo hi p q = go (lt least_extent x) (sub_within binary32 40 hi lo (lit< tt) q p)
  where
    x : Float
    x = sub binary32 hi lo

    go : (b : Bool) → Within 41 x → T (le (mul binary32 (cond b x least_extent) denom) largest_scale)
    go true w = mul_mono_left binary32 x (fin false 1 (pos 41)) 8421505 (negsuc 30) (atmost_finite x (2 ^ 41) 1 w) tt (atmost_tests x 1 (pos 41) w).1
    go false w = mul_mono_left binary32 least_extent (fin false 1 (pos 41)) 8421505 (negsuc 30) tt tt (unfold le in tt)

pub exponent_most : (lo hi : Float) → Within 40 lo → Within 40 hi → exponent_of lo hi ≤ 161
unfolding exponent_of next_power round mul div le
exponent_most lo hi p q = next_power_mono (extent_scale lo hi) largest_scale (scale_most lo hi p q)

-- what the node rule asks of an exponent byte
abbrev pub InRange : ℕ → Type 0
InRange e = (53 ≤ e) × (e ≤ 161)

pub exponent_range : (lo hi : Float) → Within 40 lo → Within 40 hi → InRange (exponent_of lo hi)
exponent_range lo hi p q = (exponent_least lo hi, exponent_most lo hi p q)

-- the three bytes of an accepted box
pub record BoxInRange (b : Aabb) : Type 0 where
  pub x : InRange (exponent_of b.min.x b.max.x)
  pub y : InRange (exponent_of b.min.y b.max.y)
  pub z : InRange (exponent_of b.min.z b.max.z)

pub box_in_range : (b : Aabb) → T (accepted_box b) → BoxInRange b
unfolding accepted_box
box_in_range b t =
    let both = and_l (bounded_vec b.min && bounded_vec b.max) (in_order b) t in
    let lo = bounded b.min (and_l (bounded_vec b.min) (bounded_vec b.max) both) in
    let hi = bounded b.max (and_r (bounded_vec b.min) (bounded_vec b.max) both) in record {
      x = exponent_range b.min.x b.max.x lo.x hi.x;
      y = exponent_range b.min.y b.max.y lo.y hi.y;
      z = exponent_range b.min.z b.max.z lo.z hi.z;
    }

-- ---- within the bounds the byte is that of the next power of two at or above the scale
pub exponent_next_power : (lo hi : Float) → Within 40 lo → Within 40 hi → NextPower (extent_scale lo hi) (exponent_of lo hi)
unfolding exponent_of round mul div lt le is_nan
exponent_next_power lo hi p q =
    let s = extent_scale lo hi in
    let small : T (le s (power 0)) → ⊥ = λ h. le_transitive least_scale s (power 0) (scale_least lo hi) h in
    next_power_lem s (lt_of_not_le (power 0) s tt (scale_no_nan lo hi) small) (le_transitive s largest_scale (power 255) (scale_most lo hi p q) tt)
