-- The exponent byte of one axis of a box (01, "Corners of each file", bvh2_to_cwbvh.rs): each operation is rounded once, in the order in which the
-- Rust writes it.
use Rattle.std.specs.Prelude.{ℕ, ◌^◌, false, pos, Float}
use Rattle.std.specs.Float.{fin, binary32}
use Rattle.std.specs.Float.Ieee.{round, sub, mul, div}
use Rattle.float.specs.Compare.{max_of}
use Rattle.float.specs.PowerOfTwo.{next_power}

-- 1e-20 as an f32: no extent counts as less
abbrev pub least_extent : Float
least_extent = round binary32 false 1 (10 ^ 20)

-- 1 / 255 as an f32
abbrev pub denom : Float
denom = div binary32 (fin false 1 (pos 0)) (fin false 255 (pos 0))

-- the extent from lo to hi, 1e-20 at the least, times 1 / 255
unfoldable pub extent_scale : Float → Float → Float
extent_scale lo hi = mul binary32 (max_of (sub binary32 hi lo) least_extent) denom

-- the biased exponent of the smallest power of two that is not below it
unfoldable pub exponent_of : Float → Float → ℕ
exponent_of lo hi = next_power (extent_scale lo hi)
