-- Powers of two, and the smallest one that is not below a value (01, "Corners of each file", bvh2_to_cwbvh.rs).
use Rattle.std.specs.Prelude.{ℕ, zero, suc, ◌*◌, Bool, true, false, ℤ, T, Float}
use Rattle.std.specs.Float.{fin, binary32}
use Rattle.std.specs.Float.Ieee.{minus, le, of_bits}

-- 2 ^ (e - 127): e is its biased exponent
abbrev pub power : ℕ → Float
power e = fin false 1 (minus e 127)

-- e is the biased exponent of the smallest power of two that is not below x: 2 ^ (e - 127) is not below x, and each power of two that is
-- not below x is at least that
pub record NextPower (x : Float) (e : ℕ) : Type 0 where
  pub reaches : T (le x (power e))
  pub least : (z : ℤ) → T (le x (fin false 1 z)) → T (le (power e) (fin false 1 z))

-- the first of e, e + 1, .. whose power is not below x, or e + n where none of the first n is; b says whether e is one
unfoldable pub first_power : ℕ → Bool → ℕ → Float → ℕ
first_power zero b e x = e
first_power (suc n) true e x = e
first_power (suc n) false e x = first_power n (le x (power (suc e))) (suc e) x

-- the biased exponent of the smallest power of two that is not below x, for an x above 2 ^ -127 and up to 2 ^ 128 (law `next_power`);
-- 0 below that range, and 255, the exponent field of an infinity, above it and for a NaN
unfoldable pub next_power : Float → ℕ
unfolding first_power
next_power x = first_power 255 (le x (power 0)) 0 x

-- the f32 whose exponent field is e and whose other bits are 0: 2 ^ (e - 127) for an e from 1 to 254 (law `scale-power`).
-- It is the step of a grid with exponent byte e (01, "Words, bytes and bounds", the node rule)
unfoldable pub scale_of : ℕ → Float
scale_of e = of_bits binary32 (e * 8388608)
