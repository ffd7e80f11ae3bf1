-- The sign bit of a float (01, "Corners of each file", ray.rs: sign by the sign bit).
use Rattle.std.specs.Prelude.{Bool, false, Float}
use Rattle.std.specs.Float.{nan, inf, fin}

-- the sign bit; -0 has it
abbrev pub sign_bit : Float → Bool
sign_bit nan = false
sign_bit (inf s) = s
sign_bit (fin s m e) = s
