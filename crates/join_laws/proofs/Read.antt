-- Words in which two accepted trees stand in order under a new root are read as the joined tree, and are accepted.
use mathlib.Core.Bool.{true}
use mathlib.Core.List.{List, Perm}
use mathlib.Core.Path.{◌≡◌, refl, sym, ap, ap₂, ◌∙◌}
use Prim.Native.Nat.{ℕ, zero, suc, ◌+◌, ◌*◌, ◌<◌, ◌≤◌, max}
use native.Mathlib.Nat.{add-zero, zero-add}
use native.Mathlib.Omega.{arith}
use lib.Dec.{T}
use lib.Ieee.{binary32, fits}
use lib.Ieee.Bits.{of_bits-fits}
use lib.ListN.{length, get_or}
use Rattle.lists.specs.Counts.{upto}
use Rattle.float.specs.Compare.{min_of, max_of, unsigned_zero}
use Rattle.aabb.specs.Aabb.{union_of, accepted_box}
use Rattle.aabb.proofs.Union.{lower_fits, upper_fits, union_accepted}
use Rattle.bvh2.specs.Tree.{Tree, label_of, box_of, leaves, depth, labels, positions, relabel, reposition}
use Rattle.bvh2.specs.Words.{tree_nodes, children, link_of, word_at, link_at, float_at, box_at, tree_of}
use Rattle.bvh2.specs.Causes.{Accepted}
use Rattle.bvh2.specs.Decoded.{BoxesAccepted, Decoded}
use Rattle.bvh2.specs.Words.{boxed_words}
use Rattle.bvh2.proofs.Encode.{boxed_back}
use Rattle.bvh2.proofs.Decoded.{accepted_decoded, decoded_leaves, labels_length}
use Rattle.bvh2.proofs.First.{accepted_facts}
use Rattle.bvh2.proofs.Moved.{label_relabel, label_reposition}
use Rattle.bvh2.proofs.Moved.{boxes_relabel, boxes_reposition, reposition_none}
use Rattle.bvh2.proofs.Reading.{label_is, box_is}
use Rattle.bvh2.proofs.Stands.{Stands, stands_decodes, stands_accepted}
use Rattle.join.specs.Join.{moved_node}
use Rattle.join_laws.specs.Joined.{seven_words, moved_label, joined_tree, InOrder}
use Rattle.join_laws.proofs.MovedNodes.{node_box, node_link}
use Rattle.join_laws.proofs.Tree.{leaves_joined, depth_joined, positions_once, labels_once}
use Rattle.join_laws.proofs.Standing.{tree_stands}

-- ---- the new root
float_fits : (ws : List ℕ) (i : ℕ) → T (fits binary32 (float_at ws 0 i))
float_fits ws i = of_bits-fits binary32 (word_at ws 0 i)

module _ (ws us : List ℕ) where
  low_fits : (i : ℕ) → T (fits binary32 (unsigned_zero (min_of (float_at ws 0 i) (float_at us 0 i))))
  low_fits i = lower_fits (float_at ws 0 i) (float_at us 0 i) (float_fits ws i) (float_fits us i)

  high_fits : (i : ℕ) → T (fits binary32 (unsigned_zero (max_of (float_at ws 0 i) (float_at us 0 i))))
  high_fits i = upper_fits (float_at ws 0 i) (float_at us 0 i) (float_fits ws i) (float_fits us i)

  union_back : (link : ℕ) → box_at (boxed_words (union_of (box_at ws 0) (box_at us 0)) link) 0 ≡ union_of (box_at ws 0) (box_at us 0)
  unfolding union_of box_at
  union_back link =
      let b = union_of (box_at ws 0) (box_at us 0) in
      boxed_back (boxed_words b link) 0 b link (λ i h. ap (λ (k : ℕ). get_or (boxed_words b link) k 0) (zero-add i))
      (low_fits 0, low_fits 1, low_fits 2) (high_fits 3, high_fits 4, high_fits 5)

pub root_accepted : (ws : List ℕ) (n : ℕ) → Accepted ws n → 0 < n → accepted_box (box_of (tree_of ws)) ≡ true
root_accepted ws n a p = rw (box_is ws 127 0) ((accepted_facts ws n a p).boxes 0 (omega arith))

-- ---- two accepted trees, of n and m leaves
module _ (ws : List ℕ) (n : ℕ) (us : List ℕ) (m : ℕ) (a : Accepted ws n) (b : Accepted us m) (p : 0 < n) (q : 0 < m) (few : n + m ≤ 65536) where
  abbrev first_moved : Tree ℕ
  first_moved = relabel (moved_label 1 2) (tree_of ws)

  abbrev second_moved : Tree ℕ
  second_moved = reposition (λ k. k + n) (relabel (moved_label 2 (2 * n)) (tree_of us))

  abbrev tree : Tree ℕ
  tree = joined_tree n (tree_of ws) (tree_of us)

  D : Decoded ws n
  D = (accepted_decoded ws n p).0 a

  E : Decoded us m
  E = (accepted_decoded us m q).0 b

  tree_leaves : leaves tree ≡ n + m
  tree_leaves = leaves_joined n (tree_of ws) (tree_of us) ∙ rw (decoded_leaves ws n D, decoded_leaves us m E)

  tree_nodes_lem : length (labels tree) ≡ tree_nodes (n + m)
  tree_nodes_lem = let e = tree_leaves in let f = labels_length tree in omega arith

  tree_labels : Perm (labels tree) (upto 0 (tree_nodes (n + m)))
  tree_labels = labels_once n (tree_of ws) (tree_of us) m p q D.nodes E.nodes

  tree_positions : Perm (positions tree) (upto 0 (n + m))
  tree_positions = positions_once n (tree_of ws) (tree_of us) m D.held E.held

  tree_boxes : BoxesAccepted tree
  unfolding joined_tree BoxesAccepted
  tree_boxes = (
    union_accepted (box_of (tree_of ws)) (box_of (tree_of us)) (root_accepted ws n a p) (root_accepted us m b q),
    boxes_relabel (moved_label 1 2) (tree_of ws) D.boxes,
    boxes_reposition (λ k. k + n) (relabel (moved_label 2 (2 * n)) (tree_of us)) (boxes_relabel (moved_label 2 (2 * n)) (tree_of us) E.boxes),
  )

  tree_label : label_of tree ≡ 0
  unfolding joined_tree label_of
  tree_label = refl

  first_label : label_of first_moved ≡ 1
  first_label = label_relabel (moved_label 1 2) (tree_of ws) ∙ ap (moved_label 1 2) (label_is ws 127 0)

  second_label : label_of second_moved ≡ 2
  second_label =
      label_reposition (λ k. k + n) (relabel (moved_label 2 (2 * n)) (tree_of us)) ∙ label_relabel (moved_label 2 (2 * n)) (tree_of us)
      ∙ ap (moved_label 2 (2 * n)) (label_is us 127 0)

  -- words in which the nodes of both stand in order
  module _ (both : List ℕ) (o : InOrder ws n us m both) where
    root_box : box_at both 0 ≡ union_of (box_of (tree_of ws)) (box_of (tree_of us))
    root_box =
        sym (node_box both 0) ∙ ap (λ (l : List ℕ). box_at l 0) o.root ∙ union_back ws us 1
        ∙ ap₂ union_of (sym (box_is ws 127 0)) (sym (box_is us 127 0))

    root_link : link_at both 0 ≡ children 1
    unfolding link_of
    root_link = sym (node_link both 0) ∙ ap (λ (l : List ℕ). link_at l 0) o.root

    first_there : (v : ℕ) → v < tree_nodes n → seven_words both (moved_label 1 2 v) ≡ moved_node ws 2 0 v
    first_there zero h = o.first_root
    first_there (suc v) h = o.first_rest (suc v) (omega arith) h

    second_there : (v : ℕ) → v < tree_nodes m → seven_words both (moved_label 2 (2 * n) v) ≡ moved_node us (2 * n) n v
    second_there zero h = o.second_root
    second_there (suc v) h = o.second_rest (suc v) (omega arith) h

    first_stands : Stands both first_moved
    first_stands =
        rw (reposition_none (λ k. k + 0) add-zero first_moved) at (tree_stands ws n a p both 1 2 0 (omega arith) (omega arith) first_there)

    second_stands : Stands both second_moved
    second_stands = tree_stands us m b q both 2 (2 * n) n (omega arith) (omega arith) second_there

    joined_stands : Stands both tree
    unfolding joined_tree Stands
    joined_stands = (
      root_box,
      root_link ∙ ap children (sym first_label),
      second_label ∙ ap (λ (k : ℕ). k + 1) (sym first_label),
      first_stands,
      second_stands,
    )

    module _ (shallow : suc (max (depth (tree_of ws)) (depth (tree_of us))) ≤ 127) where
      tree_depth : depth tree ≤ 127
      tree_depth = rw (depth_joined n (tree_of ws) (tree_of us)) shallow

      pub order_decodes : tree_of both ≡ tree
      order_decodes = stands_decodes both tree joined_stands tree_label tree_depth

      pub order_accepted : length both ≡ tree_nodes (n + m) * 7 → Accepted both (n + m)
      order_accepted e =
          rw tree_leaves at (stands_accepted both tree joined_stands tree_label tree_depth (rw tree_nodes_lem e) (rw tree_nodes_lem tree_labels)
          (rw tree_leaves few) (rw tree_leaves tree_positions) tree_boxes)
