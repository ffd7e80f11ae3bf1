-- A tree is accepted exactly if its words decode to a tree of depth at most 127 with each node number and each position once and accepted boxes.
use mathlib.Core.Path.{◌≡◌, refl, sym, ◌∙◌}
use mathlib.Core.Logic.{◌↔◌}
use mathlib.Core.List.{List}
use Prim.Native.Nat.{ℕ, zero, suc, ◌+◌, ◌*◌, ◌<◌, ◌≤◌}
use native.Mathlib.Omega.{arith}
use lib.ListN.{length, length-append}
use Rattle.lists.specs.Counts.{count}
use Rattle.lists.proofs.Perms.{perm_upto}
use Rattle.lists.proofs.Sums.{once_length, distinct_length}
use Rattle.bvh2.specs.Tree.{Tree, leaf, inner, leaves, depth, labels, positions}
use Rattle.bvh2.specs.Words.{tree_nodes, Link, children, position, malformed, link_at, read_link, tree_at, tree_of}
use Rattle.bvh2.specs.Causes.{LinkInside, Accepted}
use Rattle.bvh2.specs.Decoded.{LabelsWithin, BoxesAccepted, Decoded, Subtree}
use Rattle.bvh2.proofs.Reading.{depth_most}
use Rattle.bvh2.proofs.Counts.{count-labels, count-positions, label_past, position_past}
use Rattle.bvh2.proofs.Paths.{AllInside, within_inside}
use Rattle.bvh2.proofs.PathCounts.{some_path}
use Rattle.bvh2.proofs.First.{AllAccepted, Facts, facts_accepted, accepted_facts}
use Rattle.bvh2.proofs.Subtree.{root, node, descend, inside}

-- the boxes of the tree are those of the words
boxes_read : (ws : List ℕ) (n : ℕ) → AllInside ws n → AllAccepted ws n → (d v : ℕ) (l : Link) → v < tree_nodes n → LinkInside n l
    → BoxesAccepted (read_link ws d v l)
unfolding LinkInside read_link BoxesAccepted
boxes_read ws n f a zero v (children i) hv hl = a v hv
boxes_read ws n f a zero v (position p) hv hl = a v hv
boxes_read ws n f a zero v malformed hv hl = a v hv
boxes_read ws n f a (suc d) v (children i) hv hl =
    let k : i < tree_nodes n = omega arith in
    (a v hv, boxes_read ws n f a d i (link_at ws i) k (f i k), boxes_read ws n f a d (i + 1) (link_at ws (i + 1)) hl (f (i + 1) hl))
boxes_read ws n f a (suc d) v (position p) hv hl = a v hv
boxes_read ws n f a (suc d) v malformed hv hl = a v hv

facts_decoded : (ws : List ℕ) (n : ℕ) → 0 < n → Facts ws n → Decoded ws n
facts_decoded ws n p h =
    let w : LabelsWithin (tree_nodes n) n (tree_of ws) = within_inside ws n h.inside 127 0 (omega arith) in
    record {
      fit = h.sized.fit;
      few = h.sized.few;
      whole = h.once.whole;
      nodes = (perm_upto (labels (tree_of ws)) (tree_nodes n)).1
          (h.once.nodes, λ x l. count-labels x (tree_of ws) ∙ label_past (tree_nodes n) n x (tree_of ws) w l);
      held = (perm_upto (positions (tree_of ws)) n).1 (
        h.once.held,
        λ y l. count-positions y (tree_of ws) ∙ position_past (tree_nodes n) n y
            (tree_of ws) w l,
      );
      boxes = boxes_read ws n h.inside h.boxes 127 0 (link_at ws 0) (omega arith) (h.inside 0 (omega arith));
    }

-- the two permutations by counts
pub node_once : (ws : List ℕ) (n : ℕ) → Decoded ws n → (v : ℕ) → v < tree_nodes n → count v (labels (tree_of ws)) ≡ 1
node_once ws n h = ((perm_upto (labels (tree_of ws)) (tree_nodes n)).0 h.nodes).0

pub position_once : (ws : List ℕ) (n : ℕ) → Decoded ws n → (p : ℕ) → p < n → count p (positions (tree_of ws)) ≡ 1
position_once ws n h = ((perm_upto (positions (tree_of ws)) n).0 h.held).0

-- each node of the words is one of the tree
reached : (ws : List ℕ) (n : ℕ) → Decoded ws n → (v : ℕ) → v < tree_nodes n → (e : ℕ) × Subtree ws n e v
reached ws n h v l =
    let c = node_once ws n h v l in
    let q = some_path (tree_of ws) v (omega (arith, count-labels v (tree_of ws))) in
    descend ws n 127 0 (root ws n h) q.0 v q.1

decoded_facts : (ws : List ℕ) (n : ℕ) → Decoded ws n → Facts ws n
decoded_facts ws n h = record {
  sized = record { fit = h.fit; few = h.few };
  inside = λ v l. let u = reached ws n h v l in inside ws n u.0 v u.1;
  boxes = λ v l. let u = reached ws n h v l in (node u.1).box;
  once = record { whole = h.whole; nodes = node_once ws n h; held = position_once ws n h };
}

-- ACCEPTED: exactly if the words decode so
pub accepted_decoded : (ws : List ℕ) (n : ℕ) → 0 < n → Accepted ws n ↔ Decoded ws n
accepted_decoded ws n p = (λ a. facts_decoded ws n p (accepted_facts ws n a p), λ d. facts_accepted ws n (decoded_facts ws n d))

pub decoded_depth : (ws : List ℕ) → depth (tree_of ws) ≤ 127
decoded_depth ws = depth_most ws 127 0

-- how many leaves and nodes a tree has
pub positions-length : {A : Type 0} (t : Tree A) → length (positions t) ≡ leaves t
unfolding positions leaves
positions-length (leaf v b p) = refl
positions-length (inner v b l r) = length-append (positions l) (positions r) ∙ rw (positions-length l, positions-length r)

pub labels_length : {A : Type 0} (t : Tree A) → length (labels t) + 1 ≡ 2 * leaves t
unfolding labels leaves
labels_length (leaf v b p) = refl
labels_length (inner v b l r) =
    let e = length-append (labels l) (labels r) in
    let i = labels_length l in
    let j = labels_length r in
    omega arith

pub decoded_leaves : (ws : List ℕ) (n : ℕ) → Decoded ws n → leaves (tree_of ws) ≡ n
decoded_leaves ws n h =
    let u = (perm_upto (positions (tree_of ws)) n).0 h.held in
    sym (positions-length (tree_of ws)) ∙ once_length n (positions (tree_of ws)) u.0 u.1

-- a subtree has no more leaves than the tree
pub subtree_leaves : {ws : List ℕ} {n d v : ℕ} → Subtree ws n d v → leaves (tree_at ws d v) ≤ n
subtree_leaves {ws} {n} {d} {v} s =
    let i = distinct_length (tree_nodes n) (labels (tree_at ws d v)) s.distinct
    (λ x l. count-labels x (tree_at ws d v) ∙ label_past (tree_nodes n) n x (tree_at ws d v) s.within l) in
    let j = labels_length (tree_at ws d v) in
    let k = (node s).below in
    omega arith
