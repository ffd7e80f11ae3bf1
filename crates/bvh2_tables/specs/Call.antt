-- A call of the conversion (01, "Words, bytes and bounds").
use Rattle.std.specs.Prelude.{Bool, List, ℕ, length, Float}

-- what it is given: the tree's words and index words, the leaf limit, ordering on or off, and the four lent slices
pub record Call : Type 0 where
  pub words : List ℕ
  pub indices : List ℕ
  pub limit : ℕ
  pub ordered : Bool
  pub decisions : List ℕ
  pub costs : List Float
  pub bytes : List ℕ
  pub list : List ℕ

-- the number of leaves, and so of output positions
abbrev pub leaf_count : Call → ℕ
leaf_count c = length c.indices

-- how long the lent slices are
pub record Lengths : Type 0 where
  pub decisions : ℕ
  pub costs : ℕ
  pub bytes : ℕ
  pub list : ℕ

abbrev pub lengths_of : Call → Lengths
lengths_of c = record { decisions = length c.decisions; costs = length c.costs; bytes = length c.bytes; list = length c.list }
