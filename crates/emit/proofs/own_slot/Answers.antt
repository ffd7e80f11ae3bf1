use mathlib.Core.Path.{◌≡◌, ap₂, ◌∙◌}
use Prim.Native.Nat.{◌*◌, ◌/◌}
use native.Mathlib.Omega.{arith}
use lib.ListN.{length, get_or}
use Rattle.std.proofs.Common.{rules}
use Rattle.words.proofs.Masks.{one_shl}
use Rattle.bvh2.proofs.Subtree.{node}
use Rattle.bvh2.specs.Words.{box_at}
use Rattle.children.specs.Tabled.{most_edges, subtree_at}
use Rattle.emit.specs.Grid.{box_on}
use Rattle.emit.specs.Own.{held_in, leaf_words_in, CellReady, as_leaf}
use Rattle.emit.proofs.KindBits.{leaf_bits, node_bits}
use Rattle.emit.proofs.GridBox.{on_grid_lem}
use Rattle.emit.proofs.OwnSteps.{cell_none, cell_leaf, cell_node, leaf_ready, leaf_held, leaf_listed}
use Rattle.emit.proofs.own_slot.Goals as goal
use Rattle.emit.proofs.own_slot.Goals.{Then-eq, Else-eq}

-- the child's kind is Leaf, or it is not
is_leaf : (c : Then-eq) → get_or c.args.tree.now.decisions.now (c.args.v * 7) 0 / 0x4000_0000 ≡ 0
is_leaf c = leaf_bits c.args.tree.now.decisions.now c.args.v c.decision_at.result.kind c.decision_at.ensures.kind (search rules)

no_leaf : (c : Else-eq) → get_or c.args.tree.now.decisions.now (c.args.v * 7) 0 / 0x4000_0000 ≡ 0 → ⊥
no_leaf c = node_bits c.args.tree.now.decisions.now c.args.v c.decision_at.result.kind c.decision_at.ensures.kind (λ e. search rules)

-- a leaf child's words have room, and its place fits the meta byte
ready : (c : Then-eq) → let s = c.args in
    CellReady (length s.out.now) s.start s.at (as_leaf (box_at s.tree.now.words.now s.v) (subtree_at s.tree.now.words.now s.v))
ready c =
    let s = c.args in
    (leaf_ready s.tree.now.words.now s.tree.now.decisions.now most_edges s.v c.if-v-eq4294967295.false (length s.indices.now)
    (length s.out.now) s.start s.at
    c.requires.1 (is_leaf c)).1

pub returns-then-v-eq4294967295 : goal.returns-then-v-eq4294967295
unfolding held_in leaf_words_in
returns-then-v-eq4294967295 c =
    let e = cell_none c.args.tree.now.words.now c.args.tree.now.decisions.now most_edges c.args.v c.if-v-eq4294967295.true in
    record { value = λ b g. rw e; out_after = rw e }

pub node_box-b-requires : goal.node_box-b-requires
node_box-b-requires c = let r = (node (c.requires.1.tree c.if-v-eq4294967295.false)).room in omega arith

pub write_leaves-next-requires : goal.write_leaves-next-requires
write_leaves-next-requires c =
    let s = c.args in
    (leaf_ready s.tree.now.words.now s.tree.now.decisions.now most_edges s.v c.if-v-eq4294967295.false (length s.indices.now)
    (length s.out.now) s.start s.at
    c.requires.1 (is_leaf (goal.at.write_leaves-next-requires c).Then-eq)).0

pub overflow_sub-at : goal.overflow_sub-at
unfolding CellReady
overflow_sub-at c = let k = ready (goal.at.overflow_sub-at c).Then-eq in omega arith

pub leaf_meta-requires : goal.leaf_meta-requires
unfolding CellReady
leaf_meta-requires c =
    let k = ready (goal.at.leaf_meta-requires c).Then-eq in
    let w = c.write_leaves-next.ensures.next in
    omega arith

pub returns-then-eq : goal.returns-then-eq
returns-then-eq c =
    let s = c.args in
    let k = cell_leaf s.tree.now.words.now s.tree.now.decisions.now most_edges s.v c.if-v-eq4294967295.false (is_leaf
    (goal.at.returns-then-eq c).Then-eq) in
    record {
      value =
          λ b q. leaf_held b _ s.start s.i s.at _ _ _ _ _ k c.write_leaves-next.ensures.next c.leaf_meta.ensures
          (c.grid_box-corners.ensures ∙ ap₂ box_on q c.node_box-b.ensures ∙ on_grid_lem b _);
      out_after = leaf_listed _ _ _ _ _ _ _ k c.write_leaves-next.ensures.list;
    }

pub returns : goal.returns
unfolding held_in leaf_words_in
returns c =
    let s = c.args in
    let k = cell_node s.tree.now.words.now s.tree.now.decisions.now most_edges s.v c.if-v-eq4294967295.false (no_leaf (goal.at.returns c).Else-eq) in
    record {
      value = λ b q. rw (k, c.grid_box-corners.ensures, c.node_box-b.ensures, q, on_grid_lem, one_shl 32 s.i (omega arith));
      out_after = rw k;
    }
