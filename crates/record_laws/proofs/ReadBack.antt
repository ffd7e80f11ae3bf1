-- The nodes of a wide tree's record are read back from its bytes.
use mathlib.Core.Path.{◌≡◌, sym, ap, ◌∙◌}
use mathlib.Core.List.{List, ◌++◌}
use Prim.Native.Nat.{ℕ, ◌+◌, ◌*◌, ◌<◌}
use native.Mathlib.Nat.{zero-add, mul-le-mul_left, mul-suc}
use native.Mathlib.Omega.{arith}
use lib.ListN.{get_or, get_or-append}
use Rattle.node.specs.Node.{node_from, node_at, node_bytes, NodeFits}
use Rattle.node.proofs.RoundTrip.{length-node, same-node, node_of_bytes}
use Rattle.wide_layout.specs.Wide.{Wide}
use Rattle.wide_layout.specs.Layout.{nodes}
use Rattle.wide_layout.specs.Shape as shape
use Rattle.record.specs.Record.{node_of, record_bytes}
use Rattle.record.proofs.Joined.{joined_at}
use Rattle.record.proofs.Length.{record-length}
use Rattle.record_shape.specs.Record.{node_count}

module _ (t : Wide) where
  pub record-count : node_count (record_bytes t) ≡ nodes t
  record-count = omega (arith, record-length t)

  -- byte j of node v
  pub record_byte : (v j : ℕ) → v < nodes t → j < 80 → get_or (record_bytes t) (80 * v + j) 0
      ≡ get_or (node_bytes (node_of (shape.layout_entry t v))) j 0
  unfolding record_bytes
  record_byte v j h l =
      joined_at 80 (λ i. node_bytes (node_of (shape.layout_entry t i))) (λ i. length-node (node_of (shape.layout_entry t i))) (nodes t)
      v j 0 h l

  -- node v of the bytes is read from the bytes of the layout's node, whatever follows them
  pub record_read : (rest : List ℕ) (v : ℕ) → v < nodes t → node_at (record_bytes t ++ rest) v
      ≡ node_from (node_bytes (node_of (shape.layout_entry t v))) 0
  record_read rest v h =
      let e = node_of (shape.layout_entry t v) in
      same-node (record_bytes t ++ rest) (80 * v) (node_bytes e) 0
      (λ k l.
      get_or-append (record_bytes t) rest 0 (80 * v + k) (omega (arith, record-length t, mul-le-mul_left 80 h, mul-suc 80 v))
      ∙ record_byte v k h l ∙ ap (λ (x : ℕ). get_or (node_bytes e) x 0) (sym (zero-add k)))

  -- and so is that node, if its numbers fit
  pub record-node : (rest : List ℕ) (v : ℕ) → v < nodes t → NodeFits (node_of (shape.layout_entry t v)) → node_at (record_bytes t ++ rest) v
      ≡ node_of (shape.layout_entry t v)
  record-node rest v h r = record_read rest v h ∙ node_of_bytes (node_of (shape.layout_entry t v)) r
