-- What a call of the conversion leaves (01, "Words, bytes and bounds"; "Causes of refusal"). The contract of `bvh2_to_cwbvh` says that its answer and
-- the slices are `conversionOf` of the call.
use Rattle.std.specs.Prelude.{List, [], ◌≡◌, ℕ, zero, suc, ◌*◌, take}
use Rattle.bvh2.specs.Tree.{positions}
use Rattle.bvh2.specs.Words.{tree_of}
pub use Rattle.bvh2_tables.specs.Call.{Call, leaf_count}
use Rattle.bvh2_to_cwbvh.specs.Conversion.{converted, conversion_of}
pub use Rattle.bvh2_to_cwbvh.specs.Conversion.{defined_record, defined_nodes, defined_list, deepest_level, Convertible}

-- it is answered, with a record of m nodes whose deepest level is d
abbrev pub Answers : Call → ℕ → ℕ → Type 0
Answers c m d = (conversion_of c).answer ≡ converted m d

-- the record: 80 bytes to each of its nodes, from the slice's start on
abbrev pub record_at : Call → ℕ → List ℕ
record_at c m = take (80 * m) (conversion_of c).bytes

-- the index list: a word for each leaf
abbrev pub list_at : Call → List ℕ
list_at c = take (leaf_count c) (conversion_of c).list

-- the positions that the tree's leaves hold
unfoldable pub leaf_positions : List ℕ → ℕ → List ℕ
leaf_positions ws zero = []
leaf_positions ws (suc n) = positions (tree_of ws)

-- the same call with another leaf limit
abbrev pub with_limit : ℕ → Call → Call
with_limit limit c = record {
  words = c.words;
  indices = c.indices;
  limit = limit;
  ordered = c.ordered;
  decisions = c.decisions;
  costs = c.costs;
  bytes = c.bytes;
  list = c.list;
}
