-- Internal: what a walk over a record asks of it (01, "Words, bytes and bounds").
use Rattle.std.specs.Prelude.{List, ◌≡◌, ℕ, ◌%◌, ◌≤◌, ◌<◌, length}
use Rattle.record_shape.specs.Record.{node_count}

-- a record of whole nodes, at least one, whose sizes fit, for n positions
pub record RecordSized (bytes : List ℕ) (n : ℕ) : Type 0 where
  pub whole : length bytes % 80 ≡ 0
  pub some : 0 < node_count bytes
  pub nodes : node_count bytes ≤ 65535
  pub positions : n ≤ 65536
