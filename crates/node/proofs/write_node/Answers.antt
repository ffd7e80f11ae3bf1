use mathlib.Core.Path.{◌≡◌, ◌∙◌}
use native.Mathlib.Omega.{arith}
use Rattle.node.specs.Node.{node_bytes}
use Rattle.node.proofs.RoundTrip.{length-node}
use Rattle.node.proofs.Splice.{put-splice}
use Rattle.node.proofs.write_node.Goals as goal

pub returns : goal.returns
returns c =
    let e : c.copy_from_slice.new.self ≡ node_bytes c.args.n = c.copy_from_slice.ensures.after ∙ c.bytes_of.ensures in
    rw e (put-splice _ _ _ _ (omega (arith, length-node c.args.n)))
