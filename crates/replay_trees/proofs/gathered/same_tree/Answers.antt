-- `same_tree`: the words are an accepted tree's, its tables have room, and hold its decision words once they are filled.
use Rattle.std.proofs.Common.{arith}
use Rattle.children.proofs.Start.{tabled_most}
use Rattle.replay_trees.proofs.Accepted.{tables_ready}
use Rattle.replay_trees.proofs.Below.{tabled}
use Rattle.replay_trees.proofs.gathered.same_tree.Goals as goal

pub calculate_cost-requires : goal.calculate_cost-requires
calculate_cost-requires c = tables_ready _ _ _ _ c.requires.1 c.args.accepted.accepted (omega arith) (omega arith)

pub invariant_of-root : goal.invariant_of-root
invariant_of-root c =
    let t = tabled _ _ _ _ _ c.requires.1 c.args.accepted.accepted (omega arith) c.calculate_cost.ensures.decisions_after in
    record { tabled = ∣ tabled_most t ∣₁ }
