-- The measure is how many edges lie below the branch at most. The loop's invariant: the slots that are left, converted from here, give what all
-- eight give.
use mathlib.Core.Path.{◌≡◌}
use Prim.Native.Nat.{◌-◌}
use lib.ListN.{length}
use Rattle.bvh2.specs.Tree.{depth}
use Rattle.children.specs.Branches.{subtree_of}
use Rattle.emit_tree.proofs.Emitting.{Loop}
use Rattle.emit_tree.proofs.+emit_node.Given as goal

abbrev pub decreases-emit_node : goal.decreases-emit_node
decreases-emit_node l = depth (subtree_of l.branch)

abbrev pub invariant-loop-w : goal.invariant-loop-w
invariant-loop-w l =
    (length l.bytes ≡ length l.initial.bytes) × (length l.out ≡ length l.initial.out)
    × Loop l.branch l.indices l.number l.ordered l.initial.bytes l.initial.out l.initial.free l.initial.child
    l.bytes l.out l.free l.child (8 - l.w-index) l.w-index
