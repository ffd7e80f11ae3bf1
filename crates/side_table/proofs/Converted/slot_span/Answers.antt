use mathlib.Core.List.{List}
use mathlib.Core.Path.{◌≡◌, sym, ap, ◌∙◌}
use Prim.Native.Nat.{ℕ, ◌+◌, ◌-◌}
use native.Mathlib.Omega.{arith}
use lib.ListN.{length, take, drop, length-drop}
use lib.Seq.{length-take-le}
use Rattle.std.proofs.Common.{rules}
use Rattle.lists.specs.At.{words_at}
use Rattle.span.specs.Hull.{hull}
use Rattle.span.proofs.Hulls.{hull_none}
use Rattle.node.specs.Node.{node_from}
use Rattle.wide_layout.specs.Content.{Content}
use Rattle.wide_layout.specs.Shape.{layout_entry}
use Rattle.record.specs.Record.{node_of}
use Rattle.side_table.specs.SideTable.{positions_under, panes_under, slot_span}
use Rattle.side_table.specs.Laid.{Laid}
use Rattle.side_table.proofs.Corner.{word_corner}
use Rattle.side_table.proofs.Seen.{bytes_room, node_laid, small_laid, none_seen, LeafRange, leaf_range, ChildAt, child_at}
use Rattle.side_table.proofs.Converted.slot_span.Goals as goal
use Rattle.side_table.proofs.Converted.slot_span.Goals.{After-child_meta-meta, After-child_primitives-held, After-child_base_idx}

-- the node of the record
read : (c : After-child_meta-meta) → let a = c.args in (h : Laid a.self.bytes.now a.self.list.now a.self.spans.now a.self.nodes)
    → node_from c.node_ref-node.result.bytes.now 0 ≡ word_corner (node_of (layout_entry h.tree a.v))
read c h = c.node_ref-node.ensures ∙ node_laid h c.args.v c.requires.1

-- a leaf child's panes
leaf : (c : After-child_primitives-held) → let a = c.args in (h : Laid a.self.bytes.now a.self.list.now a.self.spans.now a.self.nodes)
    → LeafRange h a.v a.slot c.child_primitives-held.result.start c.child_primitives-held.result.count
leaf c h =
    let p = c.child_primitives-held.ensures in
    leaf_range h (node_from c.node_ref-node.result.bytes.now 0) c.args.v c.requires.1
    (read (goal.at.After-child_primitives-held c).After-child_meta-meta h) c.args.slot c.requires.3 c.child_meta-meta.result c.imask-imask.result
    c.primitive_base_idx.result c.child_primitives-held.result.start c.child_primitives-held.result.count c.child_meta-meta.ensures
    c.imask-imask.ensures c.primitive_base_idx.ensures c.if-meta-eq0.false (sym c.is_leaf.ensures ∙ c.if-is_leaf.true) p.0 p.1

-- an inner child's node
child : (c : After-child_base_idx) → let a = c.args in (h : Laid a.self.bytes.now a.self.list.now a.self.spans.now a.self.nodes)
    → ChildAt h a.v a.slot (c.child_base_idx.result + c.rank-rank.result)
child c h =
    child_at h (node_from c.node_ref-node.result.bytes.now 0) c.args.v c.requires.1
    (read (goal.at.After-child_base_idx c).After-child_meta-meta h) c.args.slot c.requires.3 c.imask-imask.result c.child_base_idx.result
    c.rank-rank.result c.imask-imask.ensures c.child_base_idx.ensures (sym c.is_leaf.ensures ∙ c.if-is_leaf.false) c.rank-rank.ensures

pub node_ref-node-requires : goal.node_ref-node-requires
node_ref-node-requires c = omega (arith, bytes_room c.requires.0)

pub returns-then-meta-eq0 : goal.returns-then-meta-eq0
unfolding slot_span panes_under positions_under
returns-then-meta-eq0 c = λ h s.
    let S = c.args.self.spans.now in
    let n = node_from c.node_ref-node.result.bytes.now 0 in
    let same : n ≡ word_corner (node_of (layout_entry h.tree c.args.v)) = read (goal.at.returns-then-meta-eq0 c).After-child_meta-meta h in
    let none = none_seen (layout_entry h.tree c.args.v) (small_laid h c.args.v c.requires.1) n same c.args.slot c.requires.3
    (sym c.child_meta-meta.ensures ∙ c.if-meta-eq0.true) in
    sym (ap (λ (x : Content). hull S (words_at h.indices (positions_under x))) none ∙ hull_none S)

pub slice_bounds-hull-end : goal.slice_bounds-hull-end
slice_bounds-hull-end c =
    let r = leaf (goal.at.slice_bounds-hull-end c).After-child_primitives-held c.requires.0 in
    let within = r.within in
    search rules

pub hull-requires : goal.hull-requires
hull-requires c =
    let r = leaf (goal.at.hull-requires c).After-child_primitives-held c.requires.0 in
    let L = c.args.self.list.now in
    let start = c.child_primitives-held.result.start in
    let count = c.child_primitives-held.result.count in
    let size : start + count - start ≡ count = omega arith in
    let long : length (take count (drop start L)) ≡ count = length-take-le count (drop start L) (omega (arith, r.within, length-drop start L)) in
    rw size (omega (arith, long, r.some), λ i j. r.spanned i (omega (arith, long)))

pub returns-then-is_leaf : goal.returns-then-is_leaf
unfolding slot_span panes_under
returns-then-is_leaf c = λ h s.
    let r = leaf (goal.at.returns-then-is_leaf c).After-child_primitives-held h in
    let S = c.args.self.spans.now in
    let L = c.args.self.list.now in
    let start = c.child_primitives-held.result.start in
    let count = c.child_primitives-held.result.count in
    let size : start + count - start ≡ count = omega arith in
    c.hull.ensures ∙ ap (λ (k : ℕ). hull S (take k (drop start L))) size
    ∙ ap (hull S) (r.panes ∙ ap (words_at h.indices) (sym r.under))

pub span_under-requires : goal.span_under-requires
span_under-requires c = let r = child (goal.at.span_under-requires c).After-child_base_idx c.requires.0 in (c.requires.0, r.there, c.requires.2)

pub returns : goal.returns
unfolding slot_span panes_under
returns c = λ h s.
    let r = child (goal.at.returns c).After-child_base_idx h in
    let S = c.args.self.spans.now in
    let v = c.child_base_idx.result + c.rank-rank.result in
    c.span_under.ensures h (s v (omega (arith, r.later)) (omega (arith, r.there, h.nodes_are)))
    ∙ ap (λ (ps : List ℕ). hull S (words_at h.indices ps)) (sym r.under)
