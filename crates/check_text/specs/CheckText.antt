-- What `checkrecord` prints for what it reads: a little-endian word n, then the bytes of a record.
use Rattle.std.specs.Prelude.{true, false, List, ℕ, ltb, length, drop}
use Rattle.words.specs.Le.{le_at}
use Rattle.show.specs.Show.{sound_text, unsound_text, refusal_text}
use Rattle.record_shape.specs.Check.{Verdict, sound, unsound, refused, check_of}

-- a working word for each of 65,535 nodes and 65,536 positions
abbrev pub all_words : ℕ
all_words = 131071

-- an answer's line
unfoldable pub answer_text : Verdict → List ℕ
answer_text (sound level) = sound_text level
answer_text unsound = unsound_text
answer_text (refused number) = refusal_text number

-- the answer: input that ends within the word is refused 1
unfoldable pub answer_at : List ℕ → Verdict
answer_at input = elim (ltb (length input) 4) [ true ↦ refused 1 | false ↦ check_of (drop 4 input) (le_at 4 input 0) all_words ]

unfoldable pub check_text : List ℕ → List ℕ
unfolding answer_text answer_at
check_text input = answer_text (answer_at input)
