-- What `showrecord` prints for what it reads (01, "Samples"): the little-endian words n, leaf limit and order, then the tree's words and n index
-- words.
use Rattle.std.specs.Prelude.{Bool, true, false, List, ℕ, zero, suc, ◌+◌, ◌*◌, eqb, leb, ltb, length}
use Rattle.words.specs.Le.{le_at}
use Rattle.bvh2.specs.Words.{tree_nodes}
use Rattle.causes.specs.Causes.{first_cause}
use Rattle.bvh2_tables.specs.Call.{Lengths}
use Rattle.bvh2_tables.specs.Tables.{table_size, record_size}
use Rattle.bvh2_to_cwbvh.specs.Conversion.{record_of, nodes_of, index_list_of, conversion_conditions}
use Rattle.show.specs.Input.{input_words}
use Rattle.show.specs.Show.{record_text, refusal_text}

-- ---- the input

-- the most leaves
abbrev pub most_leaves : ℕ
most_leaves = 256

-- how many words the tree of n leaves has
abbrev pub tree_size : ℕ → ℕ
tree_size n = tree_nodes n * 7

-- how many bytes the input has for n leaves
abbrev pub input_size : ℕ → ℕ
input_size n = 12 + 4 * (tree_size n + n)

-- the tree's words, and the index words behind them
abbrev pub tree_words : List ℕ → ℕ → List ℕ
tree_words input n = input_words input 12 (tree_size n)

abbrev pub index_words : List ℕ → ℕ → List ℕ
index_words input n = input_words input (12 + 4 * tree_size n) n

-- ---- the answer

-- slices as long as n leaves need
abbrev pub needed : ℕ → Lengths
needed n = record { decisions = table_size n; costs = table_size n; bytes = record_size n; list = n }

-- conversion's first cause of refusal where no slice is short; 0 for none
abbrev pub roomy_cause : List ℕ → (n limit : ℕ) → Bool → ℕ
roomy_cause ws n limit ordered = first_cause (conversion_conditions ws n limit ordered (needed n))

-- the record and the index list of a tree, or the number of the cause
unfoldable pub cause_text : (ws indices : List ℕ) (limit : ℕ) → Bool → ℕ → List ℕ
cause_text ws indices limit ordered zero =
    let n = length indices in
    record_text (record_of ws n limit ordered) (nodes_of ws n limit ordered) (index_list_of ws indices limit ordered)
cause_text ws indices limit ordered (suc k) = refusal_text (suc k)

unfoldable pub tree_text : (ws indices : List ℕ) (limit : ℕ) → Bool → List ℕ
unfolding cause_text
tree_text ws indices limit ordered = cause_text ws indices limit ordered (roomy_cause ws (length indices) limit ordered)

-- order is 0 for off or 1 for on
unfoldable pub order_text : (ws indices : List ℕ) (limit order : ℕ) → List ℕ
unfolding tree_text
order_text ws indices limit zero = tree_text ws indices limit false
order_text ws indices limit (suc zero) = tree_text ws indices limit true
order_text ws indices limit (suc (suc k)) = refusal_text 3

-- for n leaves: too many are refused before a wrong length, and that before a wrong order (01, "Samples")
unfoldable pub leaves_text : List ℕ → ℕ → List ℕ
unfolding order_text
leaves_text input n =
    elim (leb n most_leaves) [
      | false ↦ refusal_text 2
      | true ↦ elim (eqb (length input) (input_size n))
          [ false ↦ refusal_text 1 | true ↦ order_text (tree_words input n) (index_words input n) (le_at 4 input 4) (le_at 4 input 8) ]
    ]

-- input that ends within the word n is short
unfoldable pub show_text : List ℕ → List ℕ
unfolding leaves_text
show_text input = elim (ltb (length input) 4) [ true ↦ refusal_text 1 | false ↦ leaves_text input (le_at 4 input 0) ]
