-- `replay_group`: of the cases so far, no more agreed than were run.
use Rattle.std.proofs.Common.{◌≤◌}
use Rattle.stored.proofs.replay_group.Given as goal

abbrev pub invariant-loop-i : goal.invariant-loop-i
invariant-loop-i g l = l.agreed ≤ l.i-counter
