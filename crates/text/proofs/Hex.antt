-- Laws of bytes in hexadecimal.
use mathlib.Core.Path.{◌≡◌, refl, ap}
use mathlib.Core.List.{List, [], ◌∷◌, ◌++◌}
use Prim.Native.Nat.{ℕ, ◌+◌, ◌*◌, ◌<◌}
use native.Mathlib.Omega.{arith}
use lib.ListN.{length, drop, get_or}
use Rattle.text.proofs.Put.{drop_next}
use Rattle.text.specs.Text.{hex}

pub length-hex : (l : List ℕ) → length (hex l) ≡ 2 * length l
unfolding hex
length-hex [] = refl
length-hex (b ∷ l) = let e = length-hex l in omega arith

-- the next byte first
pub hex_next : (l : List ℕ) (i : ℕ) → i < length l → hex (drop i l) ≡ hex (get_or l i 0 ∷ []) ++ hex (drop (i + 1) l)
unfolding hex
hex_next l i h = ap hex (drop_next l i h)
