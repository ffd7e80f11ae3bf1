-- What `showrecord` and `checkrecord` print, a byte a character (01, "Samples").
use Rattle.std.specs.Prelude.{List, [], ◌∷◌, ◌++◌, ℕ, zero, suc, ◌*◌, take, drop}
use Rattle.text.specs.Text.{chars, decimal, hex}

-- a node's line: its index, and its bytes in hexadecimal
unfoldable pub node_line : ℕ → List ℕ → List ℕ
node_line i node = decimal i ++ (chars " " ++ (hex node ++ chars "\n"))

-- the lines of k nodes of 80 bytes, from node i on
unfoldable pub node_lines : List ℕ → ℕ → ℕ → List ℕ
unfolding node_line
node_lines bytes i zero = []
node_lines bytes i (suc k) = node_line i (take 80 (drop (80 * i) bytes)) ++ node_lines bytes (suc i) k

-- a list of indices, a space before each
unfoldable pub spaced : List ℕ → List ℕ
spaced [] = []
spaced (x ∷ l) = (chars " " ++ decimal x) ++ spaced l

-- the line of the index list
unfoldable pub indices_line : List ℕ → List ℕ
unfolding spaced
indices_line l = chars "indices" ++ (spaced l ++ chars "\n")

-- a record of m nodes with its index list
unfoldable pub record_text : List ℕ → ℕ → List ℕ → List ℕ
unfolding node_lines indices_line
record_text bytes m indices = node_lines bytes 0 m ++ indices_line indices

-- an answer of one line: a word and a number
unfoldable pub numbered_line : List ℕ → ℕ → List ℕ
numbered_line word k = word ++ (decimal k ++ chars "\n")

-- a refusal, by its number
abbrev pub refusal_text : ℕ → List ℕ
refusal_text k = numbered_line (chars "refused ") k

-- a sound record, with its deepest level
abbrev pub sound_text : ℕ → List ℕ
sound_text level = numbered_line (chars "sound ") level

-- any other record
unfoldable pub unsound_text : List ℕ
unsound_text = chars "unsound\n"
