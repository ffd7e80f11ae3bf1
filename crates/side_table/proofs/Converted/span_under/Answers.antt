use mathlib.Core.List.{◌++◌}
use mathlib.Core.Path.{◌≡◌, refl, sym, ap, ◌∙◌, subst}
use Prim.Native.Nat.{ℕ, ◌+◌, ◌<◌}
use native.Mathlib.Numerals.{add-one}
use native.Mathlib.Omega.{arith}
use lib.ListN.{get_or, length-map}
use Rattle.std.proofs.Common.{Option}
use Rattle.lists.specs.At.{words_at}
use Rattle.span.specs.declared.Span.{Span}
use Rattle.span.specs.Hull.{hull}
use Rattle.node.specs.Node.{node_from}
use Rattle.wide_layout.specs.Content.{Content, content_at}
use Rattle.wide_layout.specs.Shape.{layout_entry}
use Rattle.record.specs.Record.{node_of, joined_below}
use Rattle.side_table.specs.SideTable.{positions_under, panes_under, slot_span}
use Rattle.side_table.proofs.Table.{span_read}
use Rattle.side_table.proofs.Under.{panes_before, panes_all}
use Rattle.side_table.proofs.Corner.{word_corner}
use Rattle.side_table.proofs.Seen.{bytes_room, node_laid, small_laid, some_laid, none_seen, some_seen}
use Rattle.side_table.proofs.Found.{FoundOver, found_more, found_same, found_all}
use Rattle.side_table.proofs.Converted.span_under.Goals as goal
use Rattle.side_table.proofs.Converted.span_under.Goals.{then-meta-ne0, else-meta-ne0}

pub node_ref-node-requires : goal.node_ref-node-requires
node_ref-node-requires c = omega (arith, bytes_room c.requires.0)

pub loop-slot-init : goal.loop-slot-init
unfolding joined_below
loop-slot-init c = λ h s. refl

pub loop-slot-preserved : goal.loop-slot-preserved
unfolding joined_below panes_under positions_under slot_span
loop-slot-preserved c = λ h s.
    let S = c.args.self.spans.now in
    let v = c.args.v in
    let k = c.loop-slot.slot in
    let l : k < 8 = c.loop-slot-test.true in
    let e = layout_entry h.tree v in
    let n = node_from c.node_ref-node.result.bytes.now 0 in
    let same : n ≡ word_corner (node_of e) = c.node_ref-node.ensures ∙ node_laid h v c.requires.1 in
    let small = small_laid h v c.requires.1 in
    let before = panes_before h.indices e.slots k in
    let here = panes_under h.indices e.slots k in
    let f = c.loop-slot.invariant h s in
    let next : (o o' : Option Span) → o' ≡ o → FoundOver S o (before ++ here) → FoundOver S o' (panes_before h.indices e.slots (k + 1)) =
    λ o o' q g. subst (λ (x : Option Span). FoundOver S x (panes_before h.indices e.slots (k + 1))) (sym q)
    (subst (λ (j : ℕ). FoundOver S o (panes_before h.indices e.slots j)) (sym (add-one k)) g) in
    elim c.if-meta-ne0.branch [
      | then-meta-ne0 w ↦
          let some = some_seen e small n same k l (some_laid h v c.requires.1 k) (λ z. w.if-meta-ne0.true (c.child_meta-meta.ensures ∙ z)) in
          next _ _ w.found-is
          (found_more S c.loop-slot.found before here w.span_at.result w.widened.result f
          (omega (arith, some, length-map (positions_under (content_at e.slots k)) (λ (p : ℕ). get_or h.indices p 0)))
          (w.span_at.ensures ∙ span_read S h.indices c.args.side.now v e s k l) w.widened.ensures.none w.widened.ensures.some)
      | else-meta-ne0 w ↦
          let none = none_seen e small n same k l (sym c.child_meta-meta.ensures ∙ w.if-meta-ne0.false) in
          next _ _ w.found-is
          (found_same S c.loop-slot.found before here f (ap (λ (x : Content). words_at h.indices (positions_under x)) none))
    ]

pub returns : goal.returns
returns c = λ h s.
    let S = c.args.self.spans.now in
    let e = layout_entry h.tree c.args.v in
    let k : c.loop-slot.slot ≡ 8 = omega (arith, c.loop-slot.auto.slot-end, c.loop-slot-test.false) in
    let all = subst (λ (j : ℕ). FoundOver S c.loop-slot.found (panes_before h.indices e.slots j)) k (c.loop-slot.invariant h s) in
    c.unwrap_or.ensures ∙ found_all S c.loop-slot.found (panes_before h.indices e.slots 8) all ∙ ap (hull S) (panes_all h.indices e.slots)
