-- Going down an accepted tree: what holds at its root holds at each child, with one edge less.
use mathlib.Core.Path.{◌≡◌, refl, sym, subst, ◌∙◌}
use mathlib.Core.Bool.{true}
use mathlib.Core.List.{List, [], ◌∷◌}
use Prim.Native.Nat.{ℕ, zero, suc, ◌+◌, ◌*◌, ◌-◌, ◌/◌, ◌%◌, ◌<◌, ◌≤◌}
use native.Mathlib.Decide.{ℕ_discrete, dec_lt}
use native.Mathlib.Omega.{arith}
use native.Mathlib.Numerals.{sub-one}
use lib.ListN.{length}
use Rattle.lists.specs.Counts.{same, count}
use Rattle.lists.proofs.Counts.{same_self}
use Rattle.lists.proofs.Perms.{perm_upto}
use Rattle.aabb.specs.declared.Aabb.{Aabb}
use Rattle.aabb.specs.Aabb.{accepted_box}
use Rattle.bvh2.specs.Tree.{Tree, leaf, inner, labels, positions}
use Rattle.bvh2.specs.Words.{tree_nodes, Link, children, position, malformed, word_at, link_at, box_at, read_link, tree_at, tree_of}
use Rattle.bvh2.specs.Causes.{LinkInside, Turn, left, right, turn}
use Rattle.bvh2.specs.Decoded.{AllRead, LabelsWithin, BoxesAccepted, Decoded, Subtree}
use Rattle.bvh2.proofs.Reading.{word-children, word_position, word_malformed, children_position, position_malformed, tree_leaf, tree_inner}
use Rattle.bvh2.proofs.Reading.{tree_cut}
use Rattle.bvh2.proofs.Paths.{At}
use Rattle.bvh2.proofs.Counts.{label_count, count-labels, count-positions, in_range_lem}

-- the whole tree
pub root : (ws : List ℕ) (n : ℕ) → Decoded ws n → Subtree ws n 127 0
root ws n h =
    let a = (perm_upto (labels (tree_of ws)) (tree_nodes n)).0 h.nodes in
    let b = (perm_upto (positions (tree_of ws)) n).0 h.held in
    record {
      fit = h.fit;
      few = h.few;
      whole = h.whole;
      within = in_range_lem (tree_nodes n) n (tree_of ws) (λ x l. sym (count-labels x (tree_of ws)) ∙ a.1 x l)
          (λ y l. sym (count-positions y (tree_of ws)) ∙ b.1 y l);
      distinct = λ x. pick x (dec_lt x (tree_nodes n)) a;
      boxes = h.boxes;
    }
  where
    pick : (x : ℕ) → Dec (x < tree_nodes n)
        → ((x : ℕ) → x < tree_nodes n → count x (labels (tree_of ws)) ≡ 1) × ((x : ℕ) → tree_nodes n ≤ x → count x (labels (tree_of ws)) ≡ 0)
        → count x (labels (tree_of ws)) ≤ 1
    pick x (yes l) a = let i = a.0 x l in omega arith
    pick x (no l) a = let i = a.1 x (omega arith) in omega arith

-- the node itself
pub record Node (ws : List ℕ) (n v : ℕ) : Type 0 where
  pub below : v < tree_nodes n
  pub room : v * 7 + 7 ≤ length ws
  pub box : accepted_box (box_at ws v) ≡ true

node_read : (ws : List ℕ) (m n d v : ℕ) (l : Link) → LabelsWithin m n (read_link ws d v l) → BoxesAccepted (read_link ws d v l) → (v < m)
    × (accepted_box (box_at ws v) ≡ true)
unfolding LabelsWithin BoxesAccepted read_link
node_read ws m n zero v (children f) w b = (w.0, b)
node_read ws m n zero v (position p) w b = (w.0, b)
node_read ws m n zero v malformed w b = (w.0, b)
node_read ws m n (suc d) v (children f) w b = (w.0, b.0)
node_read ws m n (suc d) v (position p) w b = (w.0, b)
node_read ws m n (suc d) v malformed w b = (w.0, b)

pub node : {ws : List ℕ} {n d v : ℕ} → Subtree ws n d v → Node ws n v
node {ws} {n} {d} {v} s =
    let h = node_read ws (tree_nodes n) n d v (link_at ws v) s.within s.boxes in
    let e = s.fit in
    record { below = h.0; room = omega (arith, h.0); box = h.1 }

-- a leaf: its link's kind is 1
pub record Leaf (ws : List ℕ) (n d v p : ℕ) : Type 0 where
  pub held : p < n
  pub link : link_at ws v ≡ position p
  pub tree : tree_at ws d v ≡ leaf v (box_at ws v) p

pub leaf_link : {ws : List ℕ} {n d v p : ℕ} → Subtree ws n d v → link_at ws v ≡ position p → Leaf ws n d v p
unfolding LabelsWithin
leaf_link {ws} {n} {d} {v} {p} s e =
    let t = tree_leaf ws d v p e in
    let w : LabelsWithin (tree_nodes n) n (leaf v (box_at ws v) p) = rw t at s.within in
    record { held = w.1; link = e; tree = t }

-- no link is malformed
pub formed : (ws : List ℕ) (d v : ℕ) → link_at ws v ≡ malformed → AllRead ws (tree_at ws d v) → ⊥
unfolding AllRead read_link
formed ws zero v e w = position_malformed (rw e at w) e
formed ws (suc d) v e w = position_malformed (rw e at w) e

-- a link whose kind is not 0 is a leaf's
pub at_leaf : {ws : List ℕ} {n d v : ℕ} → Subtree ws n d v → (word_at ws v 6 / 0x4000_0000 ≡ 0 → ⊥) → Leaf ws n d v (word_at ws v 6 % 0x4000_0000)
at_leaf {ws} {n} {d} {v} s h = pick (ℕ_discrete (word_at ws v 6 / 0x4000_0000) 1)
  where
    pick : Dec (word_at ws v 6 / 0x4000_0000 ≡ 1) → Leaf ws n d v (word_at ws v 6 % 0x4000_0000)
    pick (yes e) = leaf_link s (word_position (word_at ws v 6) e)
    pick (no e) = absurd (formed ws d v (word_malformed (word_at ws v 6) h e) s.whole)

-- two subtrees of node v with no label in common, and none that is v
pub record Apart (v : ℕ) (l r : Tree ℕ) : Type 0 where
  pub not_left : count v (labels l) ≡ 0
  pub not_right : count v (labels r) ≡ 0
  pub not_both : (x : ℕ) → 1 ≤ count x (labels l) → count x (labels r) ≡ 0

-- an inner node: its link's kind is 0
pub record Inner (ws : List ℕ) (n d v f : ℕ) : Type 0 where
  pub deep : 0 < d
  pub second : f + 1 < tree_nodes n
  pub link : link_at ws v ≡ children f
  pub tree : tree_at ws d v ≡ inner v (box_at ws v) (tree_at ws (d - 1) f) (tree_at ws (d - 1) (f + 1))
  pub left : Subtree ws n (d - 1) f
  pub right : Subtree ws n (d - 1) (f + 1)
  pub apart : Apart v (tree_at ws (d - 1) f) (tree_at ws (d - 1) (f + 1))

-- the counts below an inner node
below_inner : (v : ℕ) (b : Aabb) (l r : Tree ℕ) (x : ℕ) → count x (labels (inner v b l r)) ≡ same x v + (count x (labels l) + count x (labels r))
unfolding label_count
below_inner v b l r x = count-labels x (inner v b l r) ∙ rw (count-labels x l, count-labels x r)

apart_inner : (v : ℕ) (b : Aabb) (l r : Tree ℕ) → ((x : ℕ) → count x (labels (inner v b l r)) ≤ 1) → Apart v l r
apart_inner v b l r h =
    let s = same_self v in
    let i = h v in
    let j = below_inner v b l r v in
    record { not_left = omega arith; not_right = omega arith; not_both = λ x k. let m = h x in let o = below_inner v b l r x in omega arith }

pub inner_link : (ws : List ℕ) (n d v f : ℕ) → Subtree ws n d v → link_at ws v ≡ children f → Inner ws n d v f
unfolding AllRead LabelsWithin BoxesAccepted
inner_link ws n zero v f s e = let w : AllRead ws (leaf v (box_at ws v) 0) = rw (tree_cut ws v f e) at s.whole in children_position e w
inner_link ws n (suc d) v f s e =
    let l = tree_at ws d f in
    let r = tree_at ws d (f + 1) in
    let t = tree_inner ws d v f e in
    let whole : AllRead ws l × AllRead ws r = rw t at s.whole in
    let within : (v < tree_nodes n) × LabelsWithin (tree_nodes n) n l × LabelsWithin (tree_nodes n) n r = rw t at s.within in
    let boxes : (accepted_box (box_at ws v) ≡ true) × BoxesAccepted l × BoxesAccepted r = rw t at s.boxes in
    let distinct : (x : ℕ) → count x (labels (inner v (box_at ws v) l r)) ≤ 1 = rw t at s.distinct in
    let left : Subtree ws n d f = record {
      fit = s.fit;
      few = s.few;
      whole = whole.0;
      within = within.1;
      distinct = λ x. let i = distinct x in
          let j = below_inner v (box_at ws v) l r x in omega arith;
      boxes = boxes.1;
    } in
    let right : Subtree ws n d (f + 1) = record {
      fit = s.fit;
      few = s.few;
      whole = whole.1;
      within = within.2;
      distinct = λ x. let i = distinct
          x in let j = below_inner v (box_at ws v) l r x in omega arith;
      boxes = boxes.2;
    } in
    record {
      deep = omega arith;
      second = (node right).below;
      link = e;
      tree = rw (sub-one (suc d)) t;
      left = rw (sub-one (suc d)) left;
      right = rw (sub-one (suc d)) right;
      apart = rw (sub-one (suc d)) (apart_inner v (box_at ws v) l r distinct);
    }

pub at_inner : {ws : List ℕ} {n d v : ℕ} → Subtree ws n d v → word_at ws v 6 / 0x4000_0000 ≡ 0 → Inner ws n d v (word_at ws v 6 % 0x4000_0000)
at_inner {ws} {n} {d} {v} s h = inner_link ws n d v (word_at ws v 6 % 0x4000_0000) s (word-children (word_at ws v 6) h)

-- a path of the tree leads to a subtree
step : (ws : List ℕ) (n d v : ℕ) (l : Link) → link_at ws v ≡ l → Subtree ws n d v → (t : Turn) (q : List Turn) (x : ℕ) → At (tree_at ws d v) (t ∷ q) x
    → ((f : ℕ) → Inner ws n d v f → At (tree_at ws (d - 1) (turn t f)) q x → (e : ℕ) × Subtree ws n e x) → (e : ℕ) × Subtree ws n e x
unfolding At
step ws n d v (position p) e s t q x h k = let i : At (leaf v (box_at ws v) p) (t ∷ q) x = rw (tree_leaf ws d v p e) at h in absurd i
step ws n d v malformed e s t q x h k = absurd (formed ws d v e s.whole)
step ws n d v (children f) e s left q x h k = let i = inner_link ws n d v f s e in k f i (rw i.tree at h)
step ws n d v (children f) e s right q x h k = let i = inner_link ws n d v f s e in k f i (rw i.tree at h)

below_turn : (ws : List ℕ) (n d v f : ℕ) (t : Turn) → Inner ws n d v f → Subtree ws n (d - 1) (turn t f)
below_turn ws n d v f left i = i.left
below_turn ws n d v f right i = i.right

at_root : (ws : List ℕ) (d v : ℕ) (l : Link) (x : ℕ) → At (read_link ws d v l) [] x → v ≡ x
unfolding At read_link
at_root ws zero v (children f) x h = h
at_root ws zero v (position p) x h = h
at_root ws zero v malformed x h = h
at_root ws (suc d) v (children f) x h = h
at_root ws (suc d) v (position p) x h = h
at_root ws (suc d) v malformed x h = h

pub descend : (ws : List ℕ) (n d v : ℕ) → Subtree ws n d v → (q : List Turn) (x : ℕ) → At (tree_at ws d v) q x → (e : ℕ) × Subtree ws n e x
descend ws n d v s [] x h = (d, subst (λ (u : ℕ). Subtree ws n d u) (at_root ws d v (link_at ws v) x h) s)
descend ws n d v s (t ∷ q) x h = step ws n d v (link_at ws v) refl s t q x h
    (λ f i k. descend ws n (d - 1) (turn t f) (below_turn ws n d v f t i) q x k)

-- the link of a subtree's root stays inside
pub inside : (ws : List ℕ) (n d v : ℕ) → Subtree ws n d v → LinkInside n (link_at ws v)
unfolding LinkInside
inside ws n d v s = pick (link_at ws v) refl
  where
    pick : (l : Link) → link_at ws v ≡ l → LinkInside n (link_at ws v)
    pick (children f) e = rw e (inner_link ws n d v f s e).second
    pick (position p) e = rw e (leaf_link s e).held
    pick malformed e = absurd (formed ws d v e s.whole)
