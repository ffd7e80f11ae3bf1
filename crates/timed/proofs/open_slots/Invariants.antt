use mathlib.Core.Bool.{cond}
use mathlib.Core.Path.{◌≡◌}
use Prim.Native.Nat.{ℕ, ◌+◌, ◌<◌}
use lib.ListN.{length, get_or}
use Rattle.span.specs.Span.{holds, span_at}
use Rattle.timed.proofs.open_slots.Given as goal

abbrev pub invariant-loop-k : goal.invariant-loop-k
invariant-loop-k l =
    (length l.masks ≡ 8) × ((j : ℕ) → j < l.k → get_or l.masks j 0 ≡ cond (holds (span_at l.side (l.at + j)) l.quarter) 255 0)
