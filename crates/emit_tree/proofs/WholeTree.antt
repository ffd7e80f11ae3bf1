-- From the threaded conversion of a whole tree to its record and index list.
use mathlib.Core.Path.{◌≡◌, refl, sym, ap, ◌∙◌}
use mathlib.Core.Bool.{Bool}
use mathlib.Core.List.{List, [], ◌∷◌, ◌++◌, map}
use Prim.Native.Nat.{ℕ}
use native.Mathlib.Nat.{zero-add}
use native.Mathlib.Omega.{arith}
use lib.ListN.{length, get_or, drop, length-map}
use Rattle.lists.specs.Splice.{splice}
use Rattle.bvh2.specs.Words.{box_at}
use Rattle.bvh2.proofs.Reading.{box_is}
use Rattle.children.specs.declared.branch.Branch.{Branch}
use Rattle.children.specs.Branches.{words_of, subtree_of}
use Rattle.children.specs.Tabled.{most_edges}
use Rattle.children.proofs.Deeper.{tree_most, subtree_most}
use Rattle.wide_layout.specs.Layout.{Entry, layout, index_list}
use Rattle.wide_layout.specs.Conversion.{State, convert_node, write_all, write_positions}
use Rattle.wide_layout.proofs.Conversion.{converted}
use Rattle.wide_layout.proofs.Sizes.{index_length}
use Rattle.wide_layout.proofs.Written.{positions-all}
use Rattle.wide_tree.specs.WideTree.{wide_of}
use Rattle.wide_tree.specs.Ordered.{wide_tree}
use Rattle.node.specs.Node.{node_bytes}
use Rattle.node.proofs.RoundTrip.{length-node}
use Rattle.record.specs.Record.{node_of, record_bytes}
use Rattle.record.proofs.Written.{put, written}
use Rattle.emit_tree.specs.declared.Next.{Next}
use Rattle.emit_tree.specs.Emission.{wide_slots_at, Emits, EmitTree, Emitted, Written, write_entry, progress_of}

block : Entry → List ℕ
block e = node_bytes (node_of e)

block_size : (e : Entry) → length (block e) ≡ 80
unfolding block
block_size e = length-node (node_of e)

both : (indices : List ℕ) (es : List Entry) (z : Written)
    → ((write_all (write_entry indices) z es).bytes ≡ write_all (put 80 block) z.bytes es)
    × ((write_all (write_entry indices) z es).list ≡ write_all (write_positions (λ p. get_or indices p 0)) z.list es)
unfolding write_entry block
both indices [] z = (refl, refl)
both indices (e ∷ es) z = both indices es (write_entry indices e z)

-- what is asked with d edges is so with the most
unfoldable pub emit_most : {b : Branch} {n d : ℕ} {ordered : Bool} {m l : ℕ} → EmitTree b n d ordered m l → EmitTree b n most_edges ordered m l
emit_most h = let e = tree_most h.at.tree in record {
  at = record { tree = subtree_most h.at.tree; room = h.at.room; limit = h.at.limit; small = h.at.small; holds = rw e h.at.holds };
  record_room = rw e h.record_room;
  list_room = rw e h.list_room;
  few = rw e h.few;
  short = rw e h.short;
}

-- what the root's emission asks
pub whole_ready : (root : Branch) (n : ℕ) (ordered : Bool) (m l : ℕ) → EmitTree root n most_edges ordered m l
    → Emits root n ordered m l 0 (record { nodes = 1; positions = 0 })
unfolding wide_of
whole_ready root n ordered m l h =
    let a = h.record_room in
    let b = h.list_room in
    let c = h.few in
    let e = h.short in
    record {
      at = h.at;
      room = record { mine = omega arith; nodes = omega arith; few = omega arith; list = omega arith; short = omega arith };
    }

pub whole_done : (root : Branch) (indices : List ℕ) (ordered : Bool) (bytes list bytes₁ list₁ : List ℕ) (x : Next)
    (h : EmitTree root (length indices) most_edges ordered (length bytes) (length list))
    → ((e : Emits root (length indices) ordered (length bytes) (length list) 0 (record { nodes = 1; positions = 0 })) (l p k : ℕ)
    → progress_of bytes₁ list₁ x ≡ convert_node (write_entry indices) (box_at (words_of root) root.node)
    (wide_slots_at root ordered e.at.limit) l p k 0 (progress_of bytes list (record { nodes = 1; positions = 0 })))
    → Emitted indices (wide_tree ordered h.at.limit (subtree_of root)) bytes list bytes₁ list₁ x
unfolding wide_of record_bytes splice block whole_ready
whole_done root indices ordered bytes list bytes₁ list₁ x h g =
    let e = g (whole_ready root (length indices) ordered (length bytes) (length list) h) 0 0 0 in
    let t = wide_tree ordered h.at.limit (subtree_of root) in
    let z : Written = record { bytes = bytes; list = list } in
    let c = e ∙ ap (λ (b : _). convert_node (write_entry indices) b (wide_slots_at root ordered h.at.limit) 0 0 0 0
    (progress_of bytes list (record { nodes = 1; positions = 0 }))) (sym (box_is (words_of root) most_edges root.node))
    ∙ converted (write_entry indices) t z in
    let w = both indices (layout t) z in
    record {
      bytes_are = ap (λ (s : State Written). s.written.bytes) c ∙ w.0 ∙ written 80 block block_size t bytes h.record_room;
      list_is =
          ap (λ (s : State Written). s.written.list) c ∙ w.1 ∙ positions-all (λ p. get_or indices p 0) t list h.list_room
          ∙ ap (λ (n : ℕ). map (λ p. get_or indices p 0) (index_list t) ++ drop n list)
          (sym (zero-add _ ∙ length-map (index_list t) (λ p. get_or indices p 0) ∙ index_length t));
      nodes_are = ap (λ (s : State Written). s.nodes) c;
      positions_are = ap (λ (s : State Written). s.positions) c;
    }
