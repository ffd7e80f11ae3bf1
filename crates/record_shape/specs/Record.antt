-- A record's nodes: its shape, when it is sound, and its deepest level (01, "Words, bytes and bounds"). They may come from anywhere; from bytes they
-- come 80 to each.
use Rattle.std.specs.Prelude.{List, ℕ, zero, suc, ◌+◌, ◌/◌, ◌%◌, length, get_or}
use Rattle.words.specs.Ones.{ones_below}
use Rattle.soundness.specs.Shape.{Shape}
use Rattle.soundness.specs.Sound.{Sound, Deepest}
use Rattle.node.specs.declared.Node.{Node}
use Rattle.node.specs.Node.{node_at, inner_bit, code_count}
use Rattle.node_rule.specs.Rule.{Rule}

-- how many nodes there are, and which node each number is
pub record Nodes : Type 0 where
  pub count : ℕ
  pub node : ℕ → Node

-- the meta byte of slot s
abbrev pub meta_at : Node → ℕ → ℕ
meta_at v s = get_or v.child_meta s 0

-- how many positions a slot has, by its bit of imask and its meta byte: a leaf as many as its code says, a child node and an empty slot none
unfoldable pub slot_positions : ℕ → ℕ → ℕ
slot_positions zero meta = code_count meta
slot_positions (suc bit) meta = 0

-- ---- of nodes, taken to have n positions

module _ (N : Nodes) (n : ℕ) where
  -- Child ranges start at child_base_idx and are as long as imask has ones. A leaf range starts at primitive_base_idx plus the code's low five bits.
  unfoldable pub shape_in : Shape
  unfolding slot_positions
  shape_in = record {
    nodes = N.count;
    positions = n;
    base = λ i. (N.node i).child_base_idx;
    children = λ i. ones_below 8 (N.node i).imask;
    start = λ i s. (N.node i).primitive_base_idx + meta_at (N.node i) s % 32;
    count = λ i s. slot_positions (inner_bit (N.node i).imask s) (meta_at (N.node i) s);
  }

  -- node i meets the node rule
  abbrev pub RuleIn : ℕ → Type 0
  RuleIn i = Rule (N.node i) N.count n i

  -- they are a sound record's
  abbrev pub SoundIn : Type 0
  SoundIn = Sound shape_in RuleIn

-- ---- of a record's bytes

-- how many nodes: each has 80 bytes
abbrev pub node_count : List ℕ → ℕ
node_count bytes = length bytes / 80

abbrev pub nodes_at : List ℕ → Nodes
nodes_at bytes = record { count = node_count bytes; node = node_at bytes }

abbrev pub shape_at : List ℕ → ℕ → Shape
shape_at bytes n = shape_in (nodes_at bytes) n

abbrev pub RuleAt : List ℕ → ℕ → ℕ → Type 0
RuleAt bytes n i = RuleIn (nodes_at bytes) n i

-- a sound record of n positions
abbrev pub SoundRecord : List ℕ → ℕ → Type 0
SoundRecord bytes n = SoundIn (nodes_at bytes) n

-- its deepest level
abbrev pub DeepestLevel : List ℕ → ℕ → ℕ → Type 0
DeepestLevel bytes n d = Deepest (shape_at bytes n) d
