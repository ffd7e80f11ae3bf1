-- The children that a node shows: child nodes and leaves.
use mathlib.Core.Path.{◌≡◌, refl, sym, ap, ◌∙◌}
use Prim.Native.Nat.{ℕ, zero, suc, ◌+◌, ◌/◌, ◌%◌, ◌^◌, ◌<◌, ◌≤◌, min}
use native.Mathlib.Omega.{arith}
use Rattle.lists.specs.Sums.{sum}
use Rattle.lists.proofs.Sums.{sum_cong, sum-add, sum_most}
use Rattle.words.specs.Ones.{ones_below}
use Rattle.node.specs.declared.Node.{Node}
use Rattle.node.specs.Node.{inner_bit, code_count}
use Rattle.node_rule.specs.Rule.{LeafTop, one, two, three, SlotRule, empty, child, leaf}
use Rattle.record_shape.specs.Record.{Nodes, meta_at, slot_positions, shape_in, RuleIn}
use Rattle.demands.specs.Children.{child_count, leaf_children}

pub at_most_eight : (v : Node) → child_count v ≤ 8
unfolding child_count
at_most_eight v = sum_most _ 1 (λ s. omega arith) 8

-- ---- by the node rule
some : (top : ℕ) → LeafTop top → (0 < top) × (0 < ones_below 3 top)
unfolding ones_below
some top (one e) = rw e (omega arith, omega arith)
some top (two e) = rw e (omega arith, omega arith)
some top (three e) = rw e (omega arith, omega arith)

both_one : (meta count : ℕ) → 0 < meta / 32 → 0 < count → min 1 meta ≡ 0 + min 1 count
both_one meta count h k = omega arith

-- a slot is a child if it holds a node or if it holds positions
slot_child : (meta bit s base n : ℕ) → SlotRule meta bit s base n → min 1 meta ≡ bit + min 1 (slot_positions bit meta)
unfolding slot_positions ones_below
slot_child meta bit s base n (empty e f) = rw (e, f) refl
slot_child meta bit s base n (child e f) = rw (e, f) (omega arith)
slot_child meta bit s base n (leaf t f a b) =
    let k = some (meta / 32) t in
    rw f (both_one meta (code_count meta) k.0 k.1)

ones_sum : (k m : ℕ) → ones_below k m ≡ sum (λ s. inner_bit m s) k
unfolding ones_below sum
ones_sum zero m = refl
ones_sum (suc k) m = ap (λ (x : ℕ). x + m / 2 ^ k % 2) (ones_sum k m)

-- a node's children are its child nodes and its leaves
pub children_are : (N : Nodes) (n v : ℕ) → RuleIn N n v → child_count (N.node v) ≡ (shape_in N n).children v + leaf_children (shape_in N n) v
unfolding child_count leaf_children shape_in
children_are N n v r =
    let p = N.node v in
    let f : ℕ → ℕ = λ s. min 1 (slot_positions (inner_bit p.imask s) (meta_at p s)) in
    sum_cong (λ s. min 1 (meta_at p s)) (λ s. inner_bit p.imask s + f s) 8
    (λ s l. slot_child (meta_at p s) (inner_bit p.imask s) s p.primitive_base_idx n (r.slots s l))
    ∙ sum-add (λ s. inner_bit p.imask s) f 8
    ∙ ap (λ (x : ℕ). x + sum f 8) (sym (ones_sum 8 p.imask))
