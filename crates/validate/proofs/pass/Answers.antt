use native.Mathlib.Omega.{arith}
use Rattle.validate.proofs.Answering.{passing_begins, rule_fails, parent_missing, level_over, node_ready, word_twice, passing_next}
use Rattle.validate.proofs.Answering.{ended_says}
use Rattle.validate.proofs.pass.Goals as goal
use Rattle.validate.proofs.pass.Goals.{then-v-eq0-via-then-v-eq0, then-v-eq0-via-else-v-eq0+then-v-gt32}

pub loop-i-init : goal.loop-i-init
loop-i-init c = passing_begins _ _ _ _ c.requires

pub returns-then-not-node_rule : goal.returns-then-not-node_rule
returns-then-not-node_rule c =
    rule_fails _ _ _ _ c.requires _ _ _ c.loop-i.invariant
    c.loop-i-test.true _ c.node_rule.ensures c.if-not-node_rule.true

pub returns-then-v-eq0 : goal.returns-then-v-eq0
returns-then-v-eq0 c =
    elim c.then-v-eq0.branch [
      | then-v-eq0-via-then-v-eq0 w ↦
          parent_missing _ _ _ _ c.requires _ _ _ c.loop-i.invariant c.loop-i-test.true w.if-v-eq0.true
      | then-v-eq0-via-else-v-eq0+then-v-gt32 w ↦
          level_over _ _ _ _ c.requires _ _ _ c.loop-i.invariant c.loop-i-test.true (omega (arith, w.if-v-gt32.true))
    ]

pub mark_node-requires : goal.mark_node-requires
mark_node-requires c = (
  node_ready _ _ _ _ c.requires _ _ _
      c.loop-i.invariant c.loop-i-test.true _
      c.node_rule.ensures c.if-not-node_rule.false,
  omega
      (arith, c.if-v-gt32.false),
)

pub returns-then-not-mark_node : goal.returns-then-not-mark_node
returns-then-not-mark_node c =
    word_twice _ _ _ _
    c.requires _ _ _
    c.loop-i.invariant
    c.loop-i-test.true _ _
    c.mark_node.ensures c.if-not-mark_node.true

pub loop-i-preserved : goal.loop-i-preserved
loop-i-preserved c =
    passing_next _ _ _ _
    c.requires _ _ _
    c.loop-i.invariant
    c.loop-i-test.true _ _
    c.mark_node.ensures _ _
    c.node_rule.ensures
    c.if-not-node_rule.false
    c.if-v-eq0.false c.if-v-gt32.false
    c.if-not-mark_node.false c.mark_node.auto.work c.max-deepest.ensures

pub returns : goal.returns
returns c =
    ended_says _ _ _ _ c.requires _ _ _ c.loop-i.invariant c.loop-i.auto.i-end c.loop-i-test.false
    _ c.all_marked.ensures _ c.then_some.ensures
