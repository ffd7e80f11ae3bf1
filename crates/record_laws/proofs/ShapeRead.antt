-- The bytes of an accepted tree's record have the layout's shape.
use mathlib.Core.Path.{◌≡◌, refl, sym, ap, ◌∙◌}
use mathlib.Core.List.{[], append-nil}
use Prim.Native.Nat.{ℕ, ◌+◌, ◌%◌, ◌<◌}
use Rattle.words.specs.Ones.{ones_below}
use Rattle.node.specs.declared.Node.{Node}
use Rattle.node.specs.Node.{node_at, inner_bit}
use Rattle.wide_layout.specs.Wide.{Wide}
use Rattle.wide_layout.specs.Layout.{nodes, index_count}
use Rattle.wide_layout.specs.Shape as shape
use Rattle.wide_layout.specs.Shape.{ReadsNode, Reads}
use Rattle.wide_layout.proofs.Shape.{reads_by_number}
use Rattle.wide_layout.proofs.Each.{node-number}
use Rattle.record.specs.Record.{node_of, record_bytes}
use Rattle.record_shape.specs.Record.{meta_at, slot_positions, shape_in, shape_at}
use Rattle.record_laws.specs.Writable.{Writable}
use Rattle.record_laws.proofs.ReadBack.{record-count, record-node}
use Rattle.record_laws.proofs.Codes.{mask_ones}
use Rattle.record_laws.proofs.Slots.{slot_count, slot_start}
use Rattle.record_laws.proofs.Range.{node_of_lem, in_range_lem}

module _ (t : Wide) (h : Writable t) where
  -- node v of the bytes
  pub node_read : (v : ℕ) → v < nodes t → node_at (record_bytes t) v ≡ node_of (shape.layout_entry t v)
  node_read v l = ap (λ b. node_at b v) (sym (append-nil (record_bytes t))) ∙ record-node t [] v l (in_range_lem t h v l)

  reads_node : (v : ℕ) → v < nodes t → ReadsNode (shape_at (record_bytes t) (index_count t)) (shape.layout_entry t v)
  unfolding shape_in node_of
  reads_node v l =
      let e = shape.layout_entry t v in
      let k : node_at (record_bytes t) e.number ≡ node_of e = ap (node_at (record_bytes t)) (node-number t v l) ∙ node_read v l in
      let r = node_of_lem t h v l in record {
        base = ap (λ (n : Node). n.child_base_idx) k;
        children = ap (λ (n : Node). ones_below 8 n.imask) k ∙ mask_ones e.slots;
        count = λ s m. ap (λ (n : Node). slot_positions (inner_bit n.imask s) (meta_at n s)) k ∙ slot_count e.slots r.small s m;
        start = λ s m p.
            ap (λ (n : Node). n.primitive_base_idx + meta_at n s % 32) k
            ∙ ap (λ (x : ℕ). e.position_base + x) (slot_start e.slots r.small s m p);
      }

  pub record_reads : Reads (shape_at (record_bytes t) (index_count t)) t
  unfolding shape_in
  record_reads = reads_by_number (shape_at (record_bytes t) (index_count t)) t (record-count t) refl reads_node
