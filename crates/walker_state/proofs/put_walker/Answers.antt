use Rattle.walker_state.proofs.put_walker.Goals as goal

pub returns : goal.returns
returns c = c.head_of.ensures _
