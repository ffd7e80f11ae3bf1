use mathlib.Core.Path.{ap, ◌∙◌}
use Rattle.lists.specs.Splice.{splice}
use Rattle.node.specs.Node.{put_slots, head_bytes, node_bytes}
use Rattle.node.proofs.bytes_of.Goals as goal

pub returns : goal.returns
unfolding node_bytes splice head_bytes
returns c = c.write_slots.ensures ∙ ap (λ s. put_slots 8 s 0 c.args.n.slots) c.write_head.ensures
