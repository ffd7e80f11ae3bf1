use mathlib.Core.Path.{◌≡◌, refl, sym, ap, ◌∙◌}
use Prim.Native.Nat.{ℕ}
use native.Mathlib.Omega.{arith}
use lib.ListN.{replicate}
use Rattle.lists.specs.Splice.{splice}
use Rattle.lists.proofs.Splice.{splice_none}
use Rattle.span.specs.declared.Span.{Span}
use Rattle.wide_layout.specs.Shape.{layout_entry}
use Rattle.record.specs.Record.{joined_below}
use Rattle.side_table.specs.SideTable.{slot_span, span_bytes, node_spans}
use Rattle.side_table.proofs.Written.{span_written, spans_written}
use Rattle.side_table.proofs.Converted.node_spans.Goals as goal

pub loop-slot-init : goal.loop-slot-init
unfolding joined_below
loop-slot-init c = λ h s. sym (splice_none (replicate 16 0) 0)

pub loop-slot-preserved : goal.loop-slot-preserved
loop-slot-preserved c = λ h s.
    let f : ℕ → Span = slot_span c.args.self.spans.now h.indices (layout_entry h.tree c.args.v).slots in
    span_written f (replicate 16 0) refl c.loop-slot.slot c.loop-slot-test.true c.loop-slot.bytes c.slot_span-s.result (c.loop-slot.invariant h s)
    (c.slot_span-s.ensures h s)

pub returns : goal.returns
unfolding node_spans
returns c = λ h s.
    let f : ℕ → Span = slot_span c.args.self.spans.now h.indices (layout_entry h.tree c.args.v).slots in
    let k : c.loop-slot.slot ≡ 8 = omega (arith, c.loop-slot.auto.slot-end, c.loop-slot-test.false) in
    spans_written f (replicate 16 0) refl c.loop-slot.bytes
    (c.loop-slot.invariant h s ∙ ap (λ (i : ℕ). splice (replicate 16 0) 0 (joined_below i (λ j. span_bytes (f j)))) k)
