use Rattle.wide_layout.specs.Shape.{layout_entry}
use Rattle.side_table.specs.Laid.{Laid, StandsAt}
use Rattle.side_table.proofs.Under.{panes_before}
use Rattle.side_table.proofs.Found.{FoundOver}
use Rattle.side_table.proofs.Converted.span_under.Given as goal

-- over the panes below the slots so far
abbrev pub invariant-loop-slot : goal.invariant-loop-slot
invariant-loop-slot l =
    (h : Laid l.self.bytes.now l.self.list.now l.self.spans.now l.self.nodes)
    → StandsAt l.self.spans.now h.indices l.side l.v (layout_entry h.tree l.v)
    → FoundOver l.self.spans.now l.found (panes_before h.indices (layout_entry h.tree l.v).slots l.slot)
