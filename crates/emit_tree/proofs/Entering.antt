-- A node's own part: what building it asks, and what writing it leaves.
use mathlib.Core.Path.{◌≡◌, refl, ap, ◌∙◌}
use mathlib.Core.Bool.{Bool, true}
use mathlib.Core.List.{List}
use Prim.Native.Nat.{ℕ, zero, suc, ◌+◌, ◌*◌, ◌^◌, ◌≤◌, ◌<◌}
use native.Mathlib.Omega.{arith}
use lib.ListN.{length, get_or}
use Rattle.lists.specs.Splice.{splice}
use Rattle.aabb.specs.Aabb.{accepted_box}
use Rattle.bvh2.specs.Words.{box_at}
use Rattle.bvh2.proofs.Subtree.{node}
use Rattle.cost.proofs.Bound.{leaves_pos}
use Rattle.children.specs.declared.branch.Branch.{Branch}
use Rattle.children.specs.Tabled.{most_edges}
use Rattle.children.specs.Branches.{words_of, decisions_of, subtree_of}
use Rattle.wide_layout.specs.Wide.{Slots, end, empty, leaf, inner}
use Rattle.wide_layout.specs.Sizes.{inner_children, own_count, own_before, SmallLeaves}
use Rattle.wide_layout.specs.Layout.{entry}
use Rattle.wide_layout.specs.Conversion.{enter}
use Rattle.wide_layout.proofs.Sizes.{own_inside}
use Rattle.wide_tree.proofs.WideTree.{small_leaves}
use Rattle.node.specs.declared.Node.{Node}
use Rattle.node.specs.Node.{node_bytes}
use Rattle.record.specs.Record.{node_of}
use Rattle.wide_layout.specs.Content.{Content, content_at}
use Rattle.record.specs.Children.{child_positions}
use Rattle.record.proofs.Children.{own_next, own_first}
use Rattle.emit.specs.declared.Built.{Built}
use Rattle.emit.specs.Own.{Cell, none, as_leaf, as_node, cell_of, Matches, CellReady, OwnReady, all_slots, BuiltAs}
use Rattle.emit.proofs.LeafSteps.{positions-length}
use Rattle.emit.proofs.Whole.{first_upto, Entered, all_slots_lem}
use Rattle.emit_tree.specs.declared.Next.{Next}
use Rattle.wide_tree.specs.Ordered.{placing}
use Rattle.emit_tree.specs.Emission.{wide_slots_at, slot_words, EmitRoom, Emits, write_entry, progress_of}
use Rattle.emit_tree.proofs.Matching.{slots_match}
use Rattle.emit_tree.proofs.Turns.{slot_most}

-- ---- positions of small leaf children
small_own : {w : ℕ} (s : Slots w) (k : ℕ) → SmallLeaves s → length (child_positions (content_at s k)) ≤ 3
unfolding content_at child_positions
small_own end k h = omega arith
small_own (empty s) zero h = omega arith
small_own (empty s) (suc k) h = small_own s k h
small_own (leaf b ps s) zero h = h.1
small_own (leaf b ps s) (suc k) h = small_own s k h.2
small_own (inner b t s) zero h = omega arith
small_own (inner b t s) (suc k) h = small_own s k h.1

before_few : {w : ℕ} (s : Slots w) (k : ℕ) → SmallLeaves s → own_before s k ≤ 3 * k
before_few s zero h = omega (arith, (own_first s).0)
before_few s (suc k) h = omega (arith, own_next s k, small_own s k h, before_few s k h)

cell_ready : (s : Slots 8) (m start at k : ℕ) (c : Cell) → SmallLeaves s → k < 8 → at ≡ start + own_before s k → start + own_count s ≤ m
    → Matches c (content_at s k) → CellReady m start at c
unfolding CellReady Matches child_positions
cell_ready s m start at k none h l e r q = tt
cell_ready s m start at k (as_leaf b t) h l e r q =
    let p = own_next s k ∙ ap (λ (d : Content). own_before s k + length (child_positions d)) q in
    let u = positions-length t in
    let x = small_own s k h in
    let y = ap (λ (d : Content). length (child_positions d)) q in
    (omega (arith, p, own_inside s (suc k)), omega arith, omega (arith, before_few s k h), omega (arith, leaves_pos t), omega (arith, x, y))
cell_ready s m start at k (as_node b) h l e r q = tt

module _ (root : Branch) (indices bytes out xs : List ℕ) (i : ℕ) (ordered : Bool) (x : Next)
    (h : Emits root (length indices) ordered (length bytes) (length out) i x) (q : xs ≡ slot_words ordered h.at.limit (subtree_of root))
  where
    small : SmallLeaves (wide_slots_at root ordered h.at.limit)
    small = small_leaves (placing ordered) h.at.limit h.at.small (subtree_of root)

    matches : (k : ℕ) → k < 8 → Matches (cell_of (words_of root) (decisions_of root) most_edges (get_or xs k 0)) (content_at
        (wide_slots_at root ordered h.at.limit) k)
    matches k l = rw q (slots_match root (length indices) ordered h.at k l)

    fits : x.positions + own_count (wide_slots_at root ordered h.at.limit) ≤ length out
    fits = omega (arith, h.room.list)

    pub own_ready : OwnReady (words_of root) (decisions_of root) indices xs (box_at (words_of root) root.node) (length out) most_edges x.positions out
    own_ready = record {
      each = λ k l. record {
        tree = λ z. rw q (slot_most root (length indices) ordered h.at k l (rw q at z));
        decided = λ z. (let n = node (slot_most root (length indices) ordered h.at k l (rw q at z)) in rw q
            (omega (arith, n.below, h.at.room)));
        cell = cell_ready (wide_slots_at root ordered h.at.limit) (length out) x.positions _ k
            (cell_of (words_of root) (decisions_of root) most_edges (get_or xs k 0)) small l
            (first_upto indices (box_at (words_of root) root.node) x.positions (wide_slots_at root ordered h.at.limit) out fits
            (λ j. cell_of (words_of root) (decisions_of root) most_edges (get_or xs j 0))
            matches k (omega arith)).at fits (matches k l);
      };
    }

    pub build_asks : (root.node * 7 + 6 < length (words_of root)) × (accepted_box (box_at (words_of root) root.node) ≡ true) × (x.nodes < 2 ^ 32)
        × (x.positions < 2 ^ 32)
    build_asks = let n = node h.at.tree in (omega (arith, n.room), n.box, omega (arith, h.room.few), omega (arith, h.room.short))

    module _ (r : Built) (bytes₁ out₁ : List ℕ) (b : BuiltAs (words_of root) root.node x.nodes x.positions
        (all_slots (words_of root) (decisions_of root) indices xs root.node x.positions most_edges out) r out₁)
        (w : bytes₁ ≡ splice bytes (80 * i) (node_bytes r.node))
      where
        entered : Entered indices (box_at (words_of root) root.node) x.positions (wide_slots_at root ordered h.at.limit) out
            (all_slots (words_of root) (decisions_of root) indices xs root.node x.positions most_edges out)
        entered = all_slots_lem indices (box_at (words_of root) root.node) x.positions (wide_slots_at root ordered h.at.limit) out fits
            (λ j. cell_of (words_of root) (decisions_of root) most_edges (get_or xs j 0)) matches

        node_is : (l p k : ℕ) → r.node ≡ node_of (entry (box_at (words_of root) root.node)
            (wide_slots_at root ordered h.at.limit) l p k i x.nodes x.positions)
        unfolding node_of
        node_is l p k = let e = entered in b.node ∙ rw (e.metas, e.boxes, e.mask) refl

        pub free_nodes : x.nodes + r.inner ≡ x.nodes + inner_children (wide_slots_at root ordered h.at.limit)
        free_nodes = ap (λ (n : ℕ). x.nodes + n) (b.inner ∙ entered.inner)

        pub free_positions : r.at ≡ x.positions + own_count (wide_slots_at root ordered h.at.limit)
        free_positions = b.at ∙ entered.at

        -- what is written, and what is free then
        pub node-entered : (l p k : ℕ) → progress_of bytes₁ out₁ (record { nodes = x.nodes + r.inner; positions = r.at })
            ≡ enter (write_entry indices) (box_at (words_of root) root.node) (wide_slots_at root ordered h.at.limit) l p k i (progress_of bytes out x)
        unfolding write_entry
        node-entered l p k =
            let a : bytes₁ ≡ splice bytes (80 * i) (node_bytes
            (node_of (entry (box_at (words_of root) root.node) (wide_slots_at root ordered h.at.limit) l p k i x.nodes x.positions))) =
            w ∙ ap (λ (y : Node). splice bytes (80 * i) (node_bytes y)) (node_is l p k) in
            let c = b.list ∙ entered.list in
            let m = free_nodes in
            let o = free_positions in
            λ j. record { written = record { bytes = a j; list = c j }; nodes = m j; positions = o j }

        pub room_begun : length bytes₁ ≡ length bytes → length out₁ ≡ length out
            → EmitRoom (wide_slots_at root ordered h.at.limit) (length bytes₁) (length out₁) x.nodes
            (record { nodes = x.nodes + r.inner; positions = r.at })
        room_begun e f =
            let m = free_nodes in
            let o = free_positions in
            let z = h.room in
            record {
              mine = omega (arith, m);
              nodes = omega (arith, m, e, z.nodes);
              few = omega (arith, m, z.few);
              list = omega (arith, o, f, z.list);
              short = omega (arith, o, z.short);
            }
