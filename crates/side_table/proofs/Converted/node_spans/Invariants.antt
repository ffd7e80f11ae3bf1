use mathlib.Core.Path.{◌≡◌}
use Prim.Native.Nat.{◌+◌}
use Rattle.lists.specs.Splice.{splice}
use Rattle.wide_layout.specs.Shape.{layout_entry}
use Rattle.record.specs.Record.{joined_below}
use Rattle.side_table.specs.SideTable.{slot_span, span_bytes}
use Rattle.side_table.specs.Laid.{Laid, StandFrom}
use Rattle.side_table.proofs.Converted.node_spans.Given as goal

-- the spans of the slots so far stand in front
abbrev pub invariant-loop-slot : goal.invariant-loop-slot
invariant-loop-slot l =
    (h : Laid l.self.bytes.now l.self.list.now l.self.spans.now l.self.nodes)
    → StandFrom l.self.spans.now h.indices h.tree l.side (l.v + 1)
    → l.bytes ≡ splice l.initial.bytes 0
    (joined_below l.slot (λ i. span_bytes (slot_span l.self.spans.now h.indices (layout_entry h.tree l.v).slots i)))
