-- The conversion of a binary tree to a record (01, "Words, bytes and bounds"; "Causes of refusal"): what it answers, and what the lent slices
-- hold then. n is the number of index words.
use Rattle.std.specs.Prelude.{Bool, List, [], ◌∷◌, ◌++◌, ℕ, zero, suc, leb, length, Float}
use Rattle.lists.specs.Splice.{splice}
use Rattle.causes.specs.Causes.{Condition, ◌unless◌, first_cause}
use Rattle.float.specs.Compare.{plus_zero}
use Rattle.cost.specs.Table.{word_of, cost_of}
use Rattle.lists.specs.At.{words_at}
use Rattle.wide_layout.specs.Layout.{nodes, index_list, level}
use Rattle.wide_tree.specs.Ordered.{wide_tree_of}
use Rattle.record.specs.Record.{record_bytes}
use Rattle.bvh2_tables.specs.Call.{Call, leaf_count, Lengths, lengths_of}
use Rattle.bvh2_tables.specs.Tables.{prepare_conditions, Prepared, work_after}

-- ---- what an accepted tree becomes

-- its record; without leaves there is none
unfoldable pub record_of : List ℕ → (n limit : ℕ) → Bool → List ℕ
record_of ws zero limit ordered = []
record_of ws (suc n) limit ordered = record_bytes (wide_tree_of ws ordered limit)

-- how many nodes the record has
unfoldable pub nodes_of : List ℕ → (n limit : ℕ) → Bool → ℕ
nodes_of ws zero limit ordered = 0
nodes_of ws (suc n) limit ordered = nodes (wide_tree_of ws ordered limit)

-- its deepest level; 0 without nodes
unfoldable pub level_of : List ℕ → (n limit : ℕ) → Bool → ℕ
level_of ws zero limit ordered = 0
level_of ws (suc n) limit ordered = level (wide_tree_of ws ordered limit)

-- the positions of the tree's leaves in the order in which the record has them
unfoldable pub output_positions : List ℕ → (n limit : ℕ) → Bool → List ℕ
output_positions ws zero limit ordered = []
output_positions ws (suc n) limit ordered = index_list (wide_tree_of ws ordered limit)

-- the index list: the index words at these positions
unfoldable pub index_list_of : List ℕ → List ℕ → ℕ → Bool → List ℕ
unfolding output_positions
index_list_of ws indices limit ordered = words_at indices (output_positions ws (length indices) limit ordered)

-- ---- the same of a call's tree, written or not
abbrev pub defined_record : Call → List ℕ
defined_record c = record_of c.words (leaf_count c) c.limit c.ordered

abbrev pub defined_nodes : Call → ℕ
defined_nodes c = nodes_of c.words (leaf_count c) c.limit c.ordered

abbrev pub deepest_level : Call → ℕ
deepest_level c = level_of c.words (leaf_count c) c.limit c.ordered

abbrev pub defined_list : Call → List ℕ
defined_list c = index_list_of c.words c.indices c.limit c.ordered

-- ---- the causes

-- for the lengths of the lent slices: what the tables ask, and no level over 31
unfoldable pub conversion_conditions : List ℕ → (n limit : ℕ) → Bool → Lengths → List Condition
unfolding prepare_conditions level_of
conversion_conditions ws n limit ordered l =
    let low = leb (level_of ws n limit ordered) 31 in
    prepare_conditions ws n limit l ++ 8 unless low ∷ []

-- none of causes 1 to 7: an accepted tree, a limit to 3, and long enough slices
abbrev pub Convertible : Call → Type 0
Convertible c = Prepared c.words (leaf_count c) c.limit (lengths_of c)

-- the first of causes 1 to 8; 0 where there is none
abbrev pub conversion_cause : Call → ℕ
conversion_cause c = first_cause (conversion_conditions c.words (leaf_count c) c.limit c.ordered (lengths_of c))

-- ---- the outcome

-- a record of so many nodes with its deepest level, or the number of the first cause that holds
pub data ConversionAnswer : Type 0 where
  converted : (nodes level : ℕ) → ConversionAnswer
  refused : ℕ → ConversionAnswer

-- the answer for a cause
unfoldable pub answer_for : Call → ℕ → ConversionAnswer
unfolding nodes_of level_of
answer_for c zero = converted (defined_nodes c) (deepest_level c)
answer_for c (suc k) = refused (suc k)

-- an output at the end: what is written stands in front of what was there, and a refusal leaves it as it was
unfoldable pub output_after : ℕ → List ℕ → List ℕ → List ℕ
output_after zero written before = splice before 0 written
output_after (suc k) written before = before

-- the answer, and the four lent slices at the end
pub record Outcome : Type 0 where
  pub answer : ConversionAnswer
  pub decisions : List ℕ
  pub costs : List Float
  pub bytes : List ℕ
  pub list : List ℕ

-- the outcome for a cause
unfoldable pub outcome_for : Call → ℕ → Outcome
unfolding answer_for record_of index_list_of output_after work_after
outcome_for c cause = record {
  answer = answer_for c cause;
  decisions = work_after 0 (word_of c.limit) c.words (leaf_count c) cause c.decisions;
  costs = work_after plus_zero (cost_of c.limit) c.words (leaf_count c) cause c.costs;
  bytes = output_after cause (defined_record c) c.bytes;
  list = output_after cause (defined_list c) c.list;
}

unfoldable pub conversion_of : Call → Outcome
unfolding conversion_conditions first_cause outcome_for
conversion_of c = outcome_for c (conversion_cause c)
