use Rattle.node_rule.proofs.MetaWords.{metas_fail, metas_tell}
use Rattle.node_rule.proofs.metas_ok.Goals as goal

pub returns-else-inner_ok : goal.returns-else-inner_ok
returns-else-inner_ok c = rw c.if-inner_ok.false (metas_fail _ _ _ _ c.inner_ok.ensures c.if-inner_ok.false)

pub returns-then-inner_ok : goal.returns-then-inner_ok
returns-then-inner_ok c =
    metas_tell _ _ _ _ _ _ _ c.inner_ok.ensures c.if-inner_ok.true
    c.spread-inner.ensures c.rest.ensures c.leaves_ok.ensures
