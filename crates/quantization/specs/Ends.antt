-- The two bytes of a child on one axis, on its parent's grid (01, "Corners of each file", bvh2_to_cwbvh.rs).
-- m * up e / down e is the size of `fin s m e` as a fraction.
use Rattle.std.specs.Prelude.{ℕ, suc, ◌*◌, ◌/◌, ◌%◌, min, true, false, cond, pos, ◌==◌, Float}
use Rattle.std.specs.Float.{nan, inf, fin, binary32}
use Rattle.std.specs.Float.Ieee.{sub, mul, div, up, down}
use Rattle.float.specs.PowerOfTwo.{scale_of}

-- n / d rounded down, and rounded up
abbrev pub round_down : ℕ → ℕ → ℕ
round_down n d = n / d

abbrev pub round_up : ℕ → ℕ → ℕ
round_up n d = cond (n % d == 0) (n / d) (suc (n / d))

-- x rounded to a whole number by r and brought into 0 to 255: what is negative gives 0 either way, and so does a NaN
unfoldable pub clamped_byte : (ℕ → ℕ → ℕ) → Float → ℕ
clamped_byte r nan = 0
clamped_byte r (inf s) = cond s 0 255
clamped_byte r (fin true m e) = 0
clamped_byte r (fin false m e) = min (r (m * up e) (down e)) 255

-- the floor of x, and its ceiling, clamped to a byte
abbrev pub quant_min : Float → ℕ
quant_min = clamped_byte round_down

abbrev pub quant_max : Float → ℕ
quant_max = clamped_byte round_up

-- 1 divided by the power of two that an exponent byte stands for (law `reciprocal-power`: it is exact)
unfoldable pub reciprocal_of : ℕ → Float
reciprocal_of e = div binary32 (fin false 1 (pos 0)) (scale_of e)

-- a coordinate on the grid of a parent with lower end p and exponent byte e. The padding of 0.0 that the Rust has between
-- the difference and the product alters no byte (laws `padded-min`, `padded-max`)
unfoldable pub on_grid : Float → ℕ → Float → Float
on_grid p e x = mul binary32 (sub binary32 x p) (reciprocal_of e)

-- the bytes of a child's lower and upper end
unfoldable pub child_min : Float → ℕ → Float → ℕ
child_min p e lo = quant_min (on_grid p e lo)

unfoldable pub child_max : Float → ℕ → Float → ℕ
child_max p e hi = quant_max (on_grid p e hi)
