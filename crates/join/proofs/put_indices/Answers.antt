use Rattle.join.proofs.Parts.{both_moved}
use Rattle.join.proofs.put_indices.Goals as goal

pub returns : goal.returns
returns c =
    both_moved c.args.list.now c.args.panes c.args.moved.now _ _ _ c.requires.0 c.put_front.ensures c.put_moved.ensures
