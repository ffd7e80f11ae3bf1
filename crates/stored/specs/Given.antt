-- What is read of a file whose bytes are known.
use Rattle.std.specs.Prelude.{◌≡◌, ◌==◌, if◌then◌else◌, List, ℕ, ◌++◌, length, Option}
use Rattle.std.specs.Io.KnownBytes.{Consumes}

-- the bytes of the word before a case that tells its length: none in a group that tells one for all its cases
abbrev pub own_length : ℕ → ℕ
own_length words = if words == 0 then 4 else 0

-- so many of the next bytes are read
abbrev pub ConsumesSome : ℕ → Option (List ℕ) → Option (List ℕ) → Type 0
ConsumesSome count before after = (head : List ℕ) × (length head ≡ count) × Consumes before after head

-- these are the next bytes, behind so many others
abbrev pub GivesNext : ℕ → Option (List ℕ) → Option (List ℕ) → List ℕ → Type 0
GivesNext count before after case = (head : List ℕ) × (length head ≡ count) × Consumes before after (head ++ case)
