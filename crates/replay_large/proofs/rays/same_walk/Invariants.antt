-- `same_walk`: no more positions were reported than steps made.
use Rattle.std.proofs.Common.{◌≤◌}
use Rattle.replay_large.proofs.rays.same_walk.Given as goal

abbrev pub invariant-loop-steps : goal.invariant-loop-steps
invariant-loop-steps l = l.reports ≤ l.steps
