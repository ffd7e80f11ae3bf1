use Rattle.std.proofs.Common.{◌≡◌, ◌^◌, ◌<◌}
use Rattle.words.specs.Ones.{ones_below}
use Rattle.walk.specs.Words.{past_skipped}
use Rattle.advance.specs.Turn.{group_of}
use Rattle.walk_step.specs.Parts.{passes_over}
use Rattle.walk_step.proofs.past_skipped.Given as goal

abbrev pub invariant-loop-held : goal.invariant-loop-held
invariant-loop-held g l =
    let skips = passes_over (g.G.Gate.gates l.gate) in
    (l.held.bits < 2 ^ 32) × (past_skipped skips 32 (group_of l.held) ≡ past_skipped skips 32 (record { base = l.base; bits = l.bits }))

abbrev pub decreases-loop-held : goal.decreases-loop-held
decreases-loop-held g l = ones_below 32 l.held.bits
