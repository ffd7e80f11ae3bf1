-- Internal: the test of a node (01, "Walking"; "Causes of refusal", 10): its rule first, then its hit mask.
use Rattle.std.specs.Prelude.{cond, ℕ, Option, Some, None}
use Rattle.ray.specs.declared.Ray.{Ray}
use Rattle.gate.specs.Gates.{Gates}
use Rattle.node.specs.declared.Node.{Node}
use Rattle.node_rule.specs.Rule.{node_rule}
use Rattle.node_slot.specs.Mask.{hit_mask}
use Rattle.node_test.specs.declared.Tested.{Tested}

-- what a ray of this octant reads of node v, number i, beside gates
abbrev pub read_by : Gates → Node → (i : ℕ) → Ray → ℕ → Tested
read_by g v i r octant = record {
  mask = hit_mask g i v r octant;
  imask = v.imask;
  child_base_idx = v.child_base_idx;
  primitive_base_idx = v.primitive_base_idx;
}

-- node v, number i of m, of a record of n positions, tested by such a ray: of a node that breaks the rule nothing is read
unfoldable pub tested : Gates → Node → (m n i : ℕ) → Ray → ℕ → Option Tested
tested g v m n i r octant = cond (node_rule v m n i) (Some (read_by g v i r octant)) None
