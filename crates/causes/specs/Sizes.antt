-- The sizes of a record (01, "Causes of refusal", 1 and 2), which every call over one looks at first.
use Rattle.std.specs.Prelude.{Bool, ◌&&◌, List, [], ◌∷◌, ℕ, ◌/◌, ◌%◌, eqb, leb}
use Rattle.causes.specs.Causes.{Condition, ◌unless◌, first_cause}

-- at most 65,536 positions and 65,535 nodes
abbrev pub sizes_fit : (nodes positions : ℕ) → Bool
sizes_fit m n = leb n 65536 && leb m 65535

-- so many bytes are whole nodes of 80, and these and n positions are not too many
unfoldable pub record_conditions : (bytes n : ℕ) → List Condition
record_conditions bytes n = 1 unless eqb (bytes % 80) 0 ∷ 2 unless sizes_fit (bytes / 80) n ∷ []

abbrev pub record_cause : (bytes n : ℕ) → ℕ
record_cause bytes n = first_cause (record_conditions bytes n)
