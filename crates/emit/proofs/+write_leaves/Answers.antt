use mathlib.Core.Path.{refl}
use Prim.Native.Nat.{ℕ}
use native.Mathlib.Omega.{arith}
use lib.ListN.{length}
use Rattle.bvh2.proofs.Subtree.{node}
use Rattle.children.specs.Tabled.{most_edges}
use Rattle.emit.proofs.LeafSteps.{Down, down, up, Last, last, formed_link}
use Rattle.emit.proofs.+write_leaves.Goals as goal
use Rattle.emit.proofs.+write_leaves.Goals.{In-Children, In-Position}

-- the two links
below : (t : ℕ) (c : In-Children t) → let s = c.args in
    Down s.words.now (length s.indices.now) (length s.out.now) s.at most_edges s.v c.in-Children.first
below t c = down c.requires c.in-Children.ensures

ended : (t : ℕ) (c : In-Position t) → let s = c.args in Last s.words.now s.indices.now s.at most_edges s.v c.in-Position.position s.out.now
ended t c = last c.requires c.in-Position.ensures

pub node_link-requires : goal.node_link-requires
node_link-requires t c = let r = (node c.requires.tree).room in omega arith

pub write_leaves-next-requires : goal.write_leaves-next-requires
write_leaves-next-requires t c =
    let h = below t (goal.at.write_leaves-next-requires t c).In-Children in
    (omega (arith, c.decreases, h.left_shallower), h.left)

pub overflow_add-first : goal.overflow_add-first
overflow_add-first t c =
    let h = below t (goal.at.overflow_add-first t c).In-Children in
    omega (arith, h.second, h.few)

pub write_leaves-requires : goal.write_leaves-requires
write_leaves-requires t c =
    let h = below t (goal.at.write_leaves-requires t c).In-Children in
    (omega (arith, c.decreases, h.right_shallower), rw (c.write_leaves-next.auto.out, c.write_leaves-next.ensures.next) h.right)

pub returns-in-Children : goal.returns-in-Children
returns-in-Children t c =
    up (below t (goal.at.returns-in-Children t c).In-Children) refl c.write_leaves-next.ensures c.write_leaves.ensures

pub offset_bounds-indices-position : goal.offset_bounds-indices-position
offset_bounds-indices-position t c =
    let h = ended t (goal.at.offset_bounds-indices-position t c).In-Position in
    omega (arith, h.held, h.few)

pub bounds-indices-position : goal.bounds-indices-position
bounds-indices-position t c = (ended t (goal.at.bounds-indices-position t c).In-Position).held

pub bounds-out-at : goal.bounds-out-at
bounds-out-at t c = (ended t (goal.at.bounds-out-at t c).In-Position).room

pub returns-in-Position : goal.returns-in-Position
returns-in-Position t c = (ended t (goal.at.returns-in-Position t c).In-Position).written

pub unreachable-requires : goal.unreachable-requires
unreachable-requires t c = formed_link c.requires c.in-Malformed.ensures
