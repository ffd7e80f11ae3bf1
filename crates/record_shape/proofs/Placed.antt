-- What the node rule says of a node's ranges.
use mathlib.Core.Path.{◌≡◌}
use Prim.Native.Nat.{ℕ, zero, suc, ◌+◌, ◌%◌, ◌<◌, ◌≤◌}
use native.Mathlib.Omega.{arith}
use Rattle.words.specs.Ones.{ones_below}
use Rattle.soundness.specs.Shape.{RangesPlaced}
use Rattle.node.specs.Node.{inner_bit}
use Rattle.node_rule.specs.Rule.{SlotRule, empty, child, leaf}
use Rattle.record_shape.specs.Record.{Nodes, meta_at, slot_positions, shape_in, RuleIn}

leaf_inside : (meta bit s base n : ℕ) → SlotRule meta bit s base n → 0 < slot_positions bit meta → base + meta % 32 + slot_positions bit meta ≤ n
unfolding slot_positions ones_below
leaf_inside meta zero s base n (empty e f) h = let z : slot_positions 0 meta ≡ 0 = rw e in absurd (omega arith)
leaf_inside meta (suc k) s base n (empty e f) h = absurd (omega arith)
leaf_inside meta zero s base n (child e f) h = absurd (omega arith)
leaf_inside meta (suc k) s base n (child e f) h = absurd (omega arith)
leaf_inside meta zero s base n (leaf r f a b) h = b
leaf_inside meta (suc k) s base n (leaf r f a b) h = absurd (omega arith)

some_child : (mask : ℕ) → 0 < ones_below 8 mask → 0 < mask
unfolding ones_below
some_child zero h = absurd (omega arith)
some_child (suc mask) h = omega arith

-- children come later and exist, positions exist
pub placed : (N : Nodes) (n i : ℕ) → RuleIn N n i → RangesPlaced (shape_in N n) i
unfolding shape_in
placed N n i r = record {
  later = λ h. r.children.later (some_child (N.node i).imask h);
  exist = λ h. r.children.exist (some_child (N.node i).imask h);
  inside = λ s l h. leaf_inside (meta_at (N.node i) s) (inner_bit (N.node i).imask s) s (N.node i).primitive_base_idx n (r.slots s l) h;
}
