-- A record has 80 bytes to a node.
use mathlib.Core.Path.{◌≡◌}
use Prim.Native.Nat.{◌*◌}
use lib.ListN.{length}
use Rattle.node.specs.Node.{node_bytes}
use Rattle.node.proofs.RoundTrip.{length-node}
use Rattle.wide_layout.specs.Wide.{Wide}
use Rattle.wide_layout.specs.Layout.{nodes}
use Rattle.wide_layout.specs.Shape.{layout_entry}
use Rattle.record.specs.Record.{node_of, record_bytes}
use Rattle.record.proofs.Joined.{joined_length}

pub record-length : (t : Wide) → length (record_bytes t) ≡ 80 * nodes t
unfolding record_bytes
record-length t = joined_length 80 (λ i. node_bytes (node_of (layout_entry t i))) (λ i. length-node (node_of (layout_entry t i))) (nodes t)
