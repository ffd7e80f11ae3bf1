-- What makes a span the narrowest over some panes.
use Rattle.std.specs.Prelude.{List, ◌≡◌, ℕ, ◌<◌, ◌≤◌, length}
use Rattle.lists.specs.Counts.{count}
use Rattle.span.specs.declared.Span.{Span}
use Rattle.span.specs.Span.{span_at}

-- s begins no later and ends no earlier than the span of any of the panes; some pane's begins where s does, and some pane's ends there; and over no
-- pane s is 0 and 0
pub record Narrowest (spans panes : List ℕ) (s : Span) : Type 0 where
  pub wide : (k : ℕ) → 0 < count k panes → (s.first ≤ (span_at spans k).first) × ((span_at spans k).last ≤ s.last)
  pub first : 0 < length panes → (k : ℕ) × (0 < count k panes) × ((span_at spans k).first ≡ s.first)
  pub last : 0 < length panes → (k : ℕ) × (0 < count k panes) × ((span_at spans k).last ≡ s.last)
  pub none : length panes ≡ 0 → (s.first ≡ 0) × (s.last ≡ 0)
