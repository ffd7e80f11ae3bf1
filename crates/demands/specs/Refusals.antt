-- Why a call of the conversion is refused (01, "Causes of refusal"): each constructor is one way for the cause of that number to hold.
use Rattle.std.specs.Prelude.{ℕ, ◌<◌, length}
use Rattle.causes.specs.Causes.{First}
use Rattle.soundness.specs.Shape.{Level}
use Rattle.record_shape.specs.Record.{node_count, shape_at}
use Rattle.bvh2.specs.Causes.{Cause, Accepted}
use Rattle.bvh2_tables.specs.Tables.{table_size, record_size}
use Rattle.demands.specs.Call.{Call, leaf_count, defined_record}

-- Some node of the record that the definition gives has a level over 31 (01, "Words, bytes and bounds"): by the record's bytes, level 0 is the first
-- node's, and any other node's is its parent's plus 1.
pub record LevelOver (c : Call) : Type 0 where
  pub node : ℕ
  pub level : ℕ
  pub there : node < node_count (defined_record c)
  pub has : Level (shape_at (defined_record c) (leaf_count c)) level node
  pub over : 31 < level

pub data Refusal (c : Call) : ℕ → Type 0 where
  -- 1, 2, 5, 6, 7: of the tree
  tree_refused : {k : ℕ} → Cause c.words (leaf_count c) k → Refusal c k
  -- 3
  limit_over : 3 < c.limit → Refusal c 3
  -- 4
  decisions_short : length c.decisions < table_size (leaf_count c) → Refusal c 4
  costs_short : length c.costs < table_size (leaf_count c) → Refusal c 4
  bytes_short : length c.bytes < record_size (leaf_count c) → Refusal c 4
  list_short : length c.list < leaf_count c → Refusal c 4
  -- 8: of the record that an accepted tree would become
  level_over : Accepted c.words (leaf_count c) → LevelOver c → Refusal c 8

-- cause k holds, and none that is looked at before it
abbrev pub FirstRefusal : Call → ℕ → Type 0
FirstRefusal c k = First (Refusal c) k
