-- Numbers as text, computed by the definitions.
use mathlib.Core.Path.{◌≡◌, refl}
use mathlib.Core.List.{[], ◌∷◌}
use Rattle.text.specs.Text.{chars, digits, decimal, hex_digit, hex}

sample_zero : decimal 0 ≡ chars "0"
unfolding chars decimal digits
sample_zero = refl

sample_ten : decimal 10 ≡ chars "10"
unfolding chars decimal digits
sample_ten = refl

sample_greatest : decimal 0xffff_ffff ≡ chars "4294967295"
unfolding chars decimal digits
sample_greatest = refl

sample_hex : hex (0x00 ∷ 0x09 ∷ 0x7a ∷ 0x9f ∷ 0xa0 ∷ 0xf0 ∷ 0xff ∷ []) ≡ chars "00097a9fa0f0ff"
unfolding chars hex hex_digit
sample_hex = refl

-- a character's code is its byte
sample_chars : chars "0a\n" ≡ 48 ∷ 97 ∷ 10 ∷ []
unfolding chars
sample_chars = refl
