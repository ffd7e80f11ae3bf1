use native.Mathlib.Omega.{arith}
use Rattle.node_rule.proofs.MetaWords.{spread_is}
use Rattle.node_rule.proofs.spread.Goals as goal

pub returns : goal.returns
returns c = spread_is _ _ _ (omega arith) c.common-x.ensures.0 c.common.ensures.0 c.common.ensures.1
