-- The record check's answer computed on small records.
use mathlib.Core.List.{List, [], ◌∷◌, ◌++◌}
use mathlib.Core.Path.{◌≡◌, refl}
use Prim.Native.Nat.{ℕ, zero, suc, ◌+◌}
use lib.Ieee.{of_bits, le}
use lib.ListN.{replicate}
use Rattle.float.specs.Compare.{in_bounds}
use Rattle.lists.specs.Below.{all_below}
use Rattle.lists.specs.Sums.{sum}
use Rattle.words.specs.Le.{le_at, sum_of}
use Rattle.words.specs.Ones.{ones_below}
use Rattle.soundness.specs.Range.{in_range}
use Rattle.node.specs.Node.{node_from}
use Rattle.node_rule.specs.Rule.{point_ok, exponent_ok, head_ok, children_ok, leaf_top, slot_ok, slots_ok, node_rule}
use Rattle.record_shape.specs.Record.{slot_positions, shape_in}
use Rattle.record_shape.specs.Test.{parent_among, level_upto, greatest, sound_test, deepest_of, sound_nodes, deepest_nodes}
use Rattle.record_shape.specs.Check.{sound, unsound, refused, soundness_of, check_of, check_conditions}
use Rattle.causes.specs.Causes.{first_cause}
use Rattle.causes.specs.Sizes.{record_conditions}

-- a node with this mask, these two bases and these metas
abbrev node : ℕ → ℕ → ℕ → List ℕ → List ℕ
node mask children positions metas =
    replicate 12 0 ++ (120 ∷ 120 ∷ 120 ∷ mask ∷ children ∷ 0 ∷ 0 ∷ 0 ∷ positions ∷ 0 ∷ 0 ∷ 0 ∷ []) ++ metas ++ replicate 48 0

abbrev two : ℕ → ℕ → List ℕ
two a b = a ∷ b ∷ 0 ∷ 0 ∷ 0 ∷ 0 ∷ 0 ∷ 0 ∷ []

-- k nodes, the first numbered i, each the only child of the one before it, above a leaf
abbrev chain_of : ℕ → ℕ → List ℕ
chain_of zero i = node 0 (i + 1) 0 (two 32 0)
chain_of (suc k) i = node 1 (i + 1) 0 (two 56 0) ++ chain_of k (i + 1)

pub record Examples : Type 0 where
  -- two leaves of one position each, and a node above a leaf
  pub leaves : check_of (node 0 1 0 (two 32 33)) 2 3 ≡ sound 0
  pub chain : check_of (node 1 1 0 (two 56 0) ++ node 0 2 0 (two 32 0)) 1 3 ≡ sound 1
  -- level 31, and level 32
  pub level_31 : check_of (chain_of 31 0) 1 33 ≡ sound 31
  pub level_32 : check_of (chain_of 32 0) 1 34 ≡ unsound
  -- a position held twice; the same with another lost; a position lost
  pub held_twice : check_of (node 0 1 0 (two 32 32)) 1 2 ≡ unsound
  pub twice_and_lost : check_of (node 0 1 0 (two 32 32)) 2 3 ≡ unsound
  pub lost : check_of (node 0 1 0 (two 32 0)) 2 3 ≡ unsound
  -- a node that two nodes have as a child; a node that none has; a node that has itself
  pub node_twice : check_of (node 3 1 0 (two 56 57) ++ node 1 2 0 (two 56 0) ++ node 0 3 0 (two 32 0)) 1 4 ≡ unsound
  pub node_lost : check_of (node 0 1 0 (two 32 0) ++ node 0 1 1 (two 32 0)) 2 4 ≡ unsound
  pub itself : check_of (node 1 0 0 (two 56 32)) 1 2 ≡ unsound
  -- a slot's meta byte that says another slot; a leaf code 010; an imask bit on an empty slot
  pub other_slot : check_of (node 1 1 0 (two 57 0) ++ node 0 2 0 (two 32 0)) 1 3 ≡ unsound
  pub code_010 : check_of (node 0 1 0 (two 64 0)) 1 2 ≡ unsound
  pub empty_inner : check_of (node 1 1 0 (two 0 32) ++ node 0 2 1 (two 0 0)) 1 3 ≡ unsound
  -- no nodes; bytes that are no whole node; too few working words
  pub none : check_of [] 0 0 ≡ sound 0
  pub none_of_one : check_of [] 1 1 ≡ unsound
  pub bytes_79 : check_of (replicate 79 0) 0 9 ≡ refused 1
  pub words_short : check_of (node 0 1 0 (two 32 33)) 2 2 ≡ refused 4

pub examples : Examples
unfolding check_of check_conditions record_conditions first_cause soundness_of sound_nodes deepest_nodes sound_test deepest_of greatest level_upto
    parent_among shape_in slot_positions all_below sum le_at sum_of ones_below in_range node_from point_ok exponent_ok head_ok children_ok leaf_top
    slot_ok slots_ok
    node_rule in_bounds of_bits le
examples = record {
  leaves = refl;
  chain = refl;
  level_31 = refl;
  level_32 = refl;
  held_twice = refl;
  twice_and_lost = refl;
  lost = refl;
  node_twice = refl;
  node_lost = refl;
  itself = refl;
  other_slot = refl;
  code_010 = refl;
  empty_inner = refl;
  none = refl;
  none_of_one = refl;
  bytes_79 = refl;
  words_short = refl;
}
