use native.Mathlib.Omega.{arith}
use lib.Count.{ones-le}
use Rattle.words.proofs.Ranks.{ones_word}
use Rattle.node_rule.proofs.child_count.Goals as goal

pub returns : goal.returns
returns c = (ones_word 8 _ (omega arith), ones-le 8 _ (omega arith))
