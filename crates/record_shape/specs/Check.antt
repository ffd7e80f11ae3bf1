-- What the record check answers and what it leaves in its working words (01, "Words, bytes and bounds"; "Causes of refusal").
use Rattle.std.specs.Prelude.{true, false, List, [], ◌∷◌, ◌++◌, ℕ, zero, suc, ◌+◌, ◌/◌, leb, length, replicate, drop}
use Rattle.record_shape.specs.Record.{node_count, nodes_at}
use Rattle.record_shape.specs.Test.{sound_nodes, deepest_nodes}
use Rattle.causes.specs.Causes.{Condition, ◌unless◌, first_cause}
use Rattle.causes.specs.Sizes.{record_conditions}

-- sound with the deepest level, or unsound, or refused with the number of a cause
pub data Verdict : Type 0 where
  sound : ℕ → Verdict
  unsound : Verdict
  refused : ℕ → Verdict

-- for this many bytes, positions and working words: the record's sizes, then a working word for each node and each position
unfoldable pub check_conditions : (long n words : ℕ) → List Condition
unfolding record_conditions
check_conditions long n words = record_conditions long n ++ 4 unless leb (long / 80 + n) words ∷ []

abbrev pub cause_of : (long n words : ℕ) → ℕ
cause_of long n words = first_cause (check_conditions long n words)

-- the answer where no cause of refusal holds
unfoldable pub soundness_of : List ℕ → ℕ → Verdict
unfolding sound_nodes deepest_nodes
soundness_of bytes n = elim (sound_nodes (nodes_at bytes) n) [ true ↦ sound (deepest_nodes (nodes_at bytes) n) | false ↦ unsound ]

unfoldable pub check_of : List ℕ → (n words : ℕ) → Verdict
unfolding check_conditions first_cause soundness_of
check_of bytes n words = elim (cause_of (length bytes) n words) [ zero ↦ soundness_of bytes n | suc c ↦ refused (suc c) ]

-- the working words afterwards: as they were at a refusal, else zero as far as they were needed and as they were past that
unfoldable pub words_after : List ℕ → ℕ → List ℕ → List ℕ
unfolding check_conditions first_cause
words_after bytes n words =
    elim (cause_of (length bytes) n (length words)) [ zero ↦ replicate (node_count bytes + n) 0 ++ drop (node_count bytes + n) words | suc c ↦ words ]
