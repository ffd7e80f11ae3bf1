-- The lesser and the greater of two floats as the Rust's vectors take them, zeros and their signs, and the bound on coordinates.
use Rattle.std.specs.Prelude.{Bool, true, false, ◌&&◌, cond, pos, Float}
use Rattle.std.specs.Float.{fin}
use Rattle.std.specs.Float.Ieee.{lt, le, eq}
use Rattle.float.specs.Sign.{sign_bit}

-- a if a < b, else b: so b where one of them is a NaN or both are zeros
unfoldable pub min_of : Float → Float → Float
min_of a b = cond (lt a b) a b

-- a if b < a, else b
unfoldable pub max_of : Float → Float → Float
max_of a b = cond (lt b a) a b

abbrev pub plus_zero : Float
plus_zero = fin false 0 (pos 0)

-- a zero of either sign as +0, any other value as it is (01, "Corners of each file", aabb.rs; 02, [2])
unfoldable pub unsigned_zero : Float → Float
unsigned_zero x = cond (eq x plus_zero) plus_zero x

-- -0: it equals +0 and has the sign bit (02, [2])
unfoldable pub is_minus_zero : Float → Bool
is_minus_zero x = eq x plus_zero && sign_bit x

-- finite and within ±2 ^ 40: the bound on every coordinate (01, "Causes of refusal", 6 and 9)
unfoldable pub in_bounds : Float → Bool
in_bounds x = le (fin true 1 (pos 40)) x && le x (fin false 1 (pos 40))
