-- Internal: conversion of a binary tree in words with the tables of its decisions (01, "Corners of each file", bvh2_to_cwbvh.rs): the slots of a
-- node, and the record and index list that are written from a node on.
use Rattle.std.specs.Prelude.{◌≡◌, Bool, not, ◌&&◌, List, map, ℕ, ◌+◌, ◌*◌, ◌/◌, ◌^◌, ◌<◌, ◌≤◌, eqb, length, get_or}
use Rattle.lists.specs.Splice.{splice}
use Rattle.bvh2.specs.Tree.{Tree, label_of, box_of}
use Rattle.bvh2.specs.Words.{tree_nodes, tree_at}
use Rattle.bvh2.specs.Decoded.{Subtree}
use Rattle.cost.specs.Table.{word_of}
use Rattle.cost.specs.Rows.{RowsHold}
use Rattle.children.specs.declared.branch.Branch.{Branch}
use Rattle.children.specs.Branches.{words_of, decisions_of, subtree_of}
use Rattle.children.specs.Gather.{gather}
use Rattle.children.specs.Tabled.{most_edges}
use Rattle.order.specs.Order.{slots_of, placed}
use Rattle.wide_layout.specs.Wide.{Slots, Wide}
use Rattle.wide_layout.specs.Sizes.{inner_children, nodes_below, own_count, count_below}
use Rattle.lists.specs.At.{words_at}
use Rattle.wide_layout.specs.Layout.{Entry, nodes, index_count, index_list}
use Rattle.wide_layout.specs.Conversion.{State, write_positions}
use Rattle.wide_tree.specs.WideTree.{root_slots}
use Rattle.wide_tree.specs.Ordered.{placing, wide_tree}
use Rattle.node.specs.Node.{node_bytes}
use Rattle.record.specs.Record.{node_of, record_bytes}
use Rattle.emit_tree.specs.declared.Next.{Next}

-- the numbers of a node's children by slots, all ones in a slot without a child
unfoldable pub slot_words : Bool → ℕ → Tree ℕ → List ℕ
slot_words ordered limit t =
    let g = gather limit t 0 in
    placed 0xffff_ffff (slots_of ordered (box_of t) (map box_of g)) (map label_of g)

-- a branch of an accepted tree of n leaves, with d edges left, and the decision words for a limit of at most 3
pub record EmitNode (b : Branch) (n d : ℕ) : Type 0 where
  pub tree : Subtree (words_of b) n d b.node
  pub room : tree_nodes n * 7 ≤ length (decisions_of b)
  pub limit : ℕ
  pub small : limit ≤ 3
  pub holds : RowsHold (word_of limit) 0 (decisions_of b) (tree_at (words_of b) d b.node)

-- a slot's word stands for a child that becomes a node
unfoldable pub is_inner : List ℕ → ℕ → Bool
is_inner ds v = not (eqb v 0xffff_ffff) && not (eqb (get_or ds (v * 7) 0 / 0x4000_0000) 0)

-- the slots of the wide node that a branch's node becomes
abbrev pub wide_slots_at : Branch → Bool → ℕ → Slots 8
wide_slots_at b ordered limit = root_slots (placing ordered) limit (subtree_of b)

-- ---- what is written
pub record Written : Type 0 where
  pub bytes : List ℕ
  pub list : List ℕ

-- a node's 80 bytes at its number, and its own index words from its place on
unfoldable pub write_entry : List ℕ → Entry → Written → Written
write_entry indices e z = record {
  bytes = splice z.bytes (80 * e.number) (node_bytes (node_of e));
  list = write_positions (λ p. get_or indices p 0) e z.list;
}

abbrev pub progress_of : List ℕ → List ℕ → Next → State Written
progress_of bytes list x = record { written = record { bytes = bytes; list = list }; nodes = x.nodes; positions = x.positions }

-- m bytes and l index words have room for all below some slots, whose first inner child has number i
pub record EmitRoom {w : ℕ} (s : Slots w) (m l i : ℕ) (x : Next) : Type 0 where
  pub mine : i + inner_children s ≤ x.nodes
  pub nodes : 80 * (x.nodes + nodes_below s) ≤ m
  pub few : x.nodes + nodes_below s < 2 ^ 32
  pub list : x.positions + count_below s ≤ l
  pub short : x.positions + count_below s < 2 ^ 32

-- the same for a node that is still to be written, with its slots
pub record NodeRoom (s : Slots 8) (m l i : ℕ) (x : Next) : Type 0 where
  pub mine : i < x.nodes
  pub nodes : 80 * (x.nodes + (inner_children s + nodes_below s)) ≤ m
  pub few : x.nodes + (inner_children s + nodes_below s) < 2 ^ 32
  pub list : x.positions + (own_count s + count_below s) ≤ l
  pub short : x.positions + (own_count s + count_below s) < 2 ^ 32

-- what emission of a branch's node as node i asks: m bytes and l index words have room
pub record Emits (b : Branch) (n : ℕ) (ordered : Bool) (m l i : ℕ) (x : Next) : Type 0 where
  pub at : EmitNode b n most_edges
  pub room : NodeRoom (wide_slots_at b ordered at.limit) m l i x

-- what emission of a whole tree of n leaves, read with d edges, asks
pub record EmitTree (b : Branch) (n d : ℕ) (ordered : Bool) (m l : ℕ) : Type 0 where
  pub at : EmitNode b n d
  pub record_room : 80 * nodes (wide_tree ordered at.limit (tree_at (words_of b) d b.node)) ≤ m
  pub list_room : index_count (wide_tree ordered at.limit (tree_at (words_of b) d b.node)) ≤ l
  pub few : nodes (wide_tree ordered at.limit (tree_at (words_of b) d b.node)) < 2 ^ 32
  pub short : index_count (wide_tree ordered at.limit (tree_at (words_of b) d b.node)) < 2 ^ 32

-- the record and the index list of a wide tree stand before what was there, and x is how many nodes and positions they have
pub record Emitted (indices : List ℕ) (t : Wide) (bytes list bytes₁ list₁ : List ℕ) (x : Next) : Type 0 where
  pub bytes_are : bytes₁ ≡ splice bytes 0 (record_bytes t)
  pub list_is : list₁ ≡ splice list 0 (words_at indices (index_list t))
  pub nodes_are : x.nodes ≡ nodes t
  pub positions_are : x.positions ≡ index_count t
