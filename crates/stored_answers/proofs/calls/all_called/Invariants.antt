-- `all_called`: the measure is the words that are left.
use Rattle.std.proofs.Common.{◌-◌}
use Rattle.stored_answers.proofs.calls.all_called.Given as goal

abbrev pub decreases-loop-at : goal.decreases-loop-at
decreases-loop-at g l = l.count - l.at
