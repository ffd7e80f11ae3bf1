-- A sum of a word and a number, as the code makes it.
use mathlib.Core.Path.{◌≡◌}
use Prim.Native.Nat.{ℕ, min}
use native.Mathlib.Omega.{arith}
use lib.Dec.{leb}
use Rattle.lists.proofs.Tells.{tells_as, tells_same, leb_tells}

-- a sum that is no number of 64 bits is over 32 bits too
pub saturated : (k : ℕ) → leb (min k 0xffff_ffff_ffff_ffff) 0xffff_ffff ≡ leb k 0xffff_ffff
saturated k =
    tells_same
    (tells_as (leb_tells (min k 0xffff_ffff_ffff_ffff) 0xffff_ffff) (λ h. omega (arith, h)) (λ h. omega (arith, h)))
    (leb_tells k 0xffff_ffff)
