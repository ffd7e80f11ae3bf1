-- Internal: the lent slices are long enough for any tree that `showrecord` takes: 256 leaves, so 511 tree nodes and a record of at most 255 nodes.
use Rattle.std.specs.Prelude.{ℕ, ◌+◌, ◌*◌, ◌≤◌}

pub record TextRoom (decisions costs bytes list out : ℕ) : Type 0 where
  pub decisions_room : 511 * 7 ≤ decisions
  pub costs_room : 511 * 7 ≤ costs
  pub record_room : 80 * 255 ≤ bytes
  pub list_room : 256 ≤ list
  pub out_room : 167 * 255 + 11 * 256 + 8 ≤ out
