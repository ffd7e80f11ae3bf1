-- Printed texts, computed by the definitions.
use mathlib.Core.Path.{◌≡◌, refl}
use mathlib.Core.List.{[], ◌∷◌, ◌++◌}
use lib.ListN.{replicate}
use Rattle.text.specs.Text.{chars, digits, decimal, hex_digit, hex}
use Rattle.words.specs.Le.{le_at, sum_of}
use Rattle.show.specs.Input.{input_words}
use Rattle.show.specs.Show.{node_line, node_lines, spaced, indices_line, record_text, numbered_line, refusal_text, sound_text}

-- no nodes and no indices
sample_empty : record_text [] 0 [] ≡ chars "indices\n"
unfolding record_text node_lines indices_line spaced chars
sample_empty = refl

-- the second of two nodes
sample_second : node_lines (replicate 80 255 ++ (0x1f ∷ replicate 79 0)) 1 1
    ≡ chars "1 1f" ++ replicate 158 48 ++ (10 ∷ [])
unfolding node_lines node_line chars decimal digits hex hex_digit
sample_second = refl

sample_refused : refusal_text 10 ≡ chars "refused 10\n"
unfolding numbered_line chars decimal digits
sample_refused = refl

sample_sound : sound_text 31 ≡ chars "sound 31\n"
unfolding numbered_line chars decimal digits
sample_sound = refl

sample_words : input_words (9 ∷ 2 ∷ 0 ∷ 0 ∷ 0 ∷ 1 ∷ 2 ∷ 3 ∷ 4 ∷ []) 1 2 ≡ 2 ∷ 0x0403_0201 ∷ []
unfolding input_words le_at sum_of
sample_words = refl
