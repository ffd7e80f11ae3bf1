-- The tests of a record's nodes tell whether it is sound, and its deepest level.
use mathlib.Core.Bool.{Bool, true, false}
use mathlib.Core.Logic.{◌↔◌}
use mathlib.Core.Path.{◌≡◌}
use Prim.Native.Nat.{ℕ}
use lib.Dec.{T}
use Rattle.lists.proofs.Tells.{Tells, passes, fails}
use Rattle.soundness.specs.Sound.{Deepest}
use Rattle.soundness.proofs.Once.{one_deepest}
use Rattle.node.specs.declared.Node.{Node}
use Rattle.node_rule.specs.Rule.{Rule, node_rule}
use Rattle.node_rule.proofs.RuleLaws.{rule_iff}
use Rattle.record_shape.specs.Record.{Nodes, shape_in, RuleIn, SoundIn}
use Rattle.record_shape.specs.Test.{sound_nodes, deepest_nodes}
use Rattle.record_shape.proofs.Placed.{placed}
use Rattle.record_shape.proofs.Test.{sound_tells, deepest_is}

test_tells : (P : Type 0) (b : Bool) → T b ↔ P → Tells P b
test_tells P true h = passes (h.0 tt)
test_tells P false h = fails h.1

-- a node passes the test exactly if it meets the rule
pub node_tells : (v : Node) (m n i : ℕ) → Tells (Rule v m n i) (node_rule v m n i)
node_tells v m n i = test_tells _ _ (rule_iff v m n i)

module _ (N : Nodes) (n : ℕ) where
  -- the test passes exactly if the record is sound,
  pub record_tells : Tells (SoundIn N n) (sound_nodes N n)
  unfolding sound_nodes
  record_tells =
      sound_tells (shape_in N n) (RuleIn N n) (λ i l r. placed N n i r) (λ i. node_rule (N.node i) N.count n i)
      (λ i. node_tells (N.node i) N.count n i)

  -- and then its deepest level is the one computed
  pub record_deepest : SoundIn N n → Deepest (shape_in N n) (deepest_nodes N n)
  unfolding deepest_nodes
  record_deepest s = deepest_is (shape_in N n) (RuleIn N n) (λ i l r. placed N n i r) s

  pub deepest_one : (d : ℕ) → SoundIn N n → Deepest (shape_in N n) d → deepest_nodes N n ≡ d
  deepest_one d s h = one_deepest (shape_in N n) (deepest_nodes N n) d (record_deepest s) h
