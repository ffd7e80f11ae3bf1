-- Numbers as text, a byte a character (01, "Samples"): words in decimal, bytes in hexadecimal.
use Rattle.std.specs.Prelude.{Bool, true, false, cond, List, [], ◌∷◌, ◌++◌, ℕ, zero, suc, ◌+◌, ◌/◌, ◌%◌, ltb}
use Prim.Native.Char.{code}
use Prim.Native.String.{String, [] as empty, ◌∷◌ as ◌then◌}

-- a text's characters by their codes
unfoldable pub chars : String → List ℕ
chars empty = []
chars (c then s) = code c ∷ chars s

-- the decimal digits of a number, the highest first; the Boolean says whether it has one digit only, and the first number is fuel, of which the
-- number itself is enough
unfoldable pub digits : ℕ → Bool → ℕ → List ℕ
digits zero b n = (48 + n % 10) ∷ []
digits (suc k) true n = (48 + n % 10) ∷ []
digits (suc k) false n = digits k (ltb (n / 10) 10) (n / 10) ++ ((48 + n % 10) ∷ [])

-- a number in decimal, without leading zeros
unfoldable pub decimal : ℕ → List ℕ
unfolding digits
decimal n = digits n (ltb n 10) n

-- a hexadecimal digit: 0 to 9, then a to f
unfoldable pub hex_digit : ℕ → ℕ
hex_digit d = cond (ltb d 10) (48 + d) (87 + d)

-- bytes in hexadecimal, the high digit of each first
unfoldable pub hex : List ℕ → List ℕ
unfolding hex_digit
hex [] = []
hex (b ∷ l) = hex_digit (b / 16) ∷ hex_digit (b % 16) ∷ hex l
