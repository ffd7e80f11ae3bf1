use mathlib.Core.Path.{◌≡◌}
use Rattle.lists.specs.Below.{all_below}
use Rattle.span.specs.Span.{span_at, span_fits}
use Rattle.span.proofs.spans_fit.Given as goal

-- whether all spans so far fit
abbrev pub invariant-loop-pair : goal.invariant-loop-pair
invariant-loop-pair l = l.fit ≡ all_below (λ k. span_fits (span_at l.spans k)) l.pair-index
