-- A tree that stands in the words, node by node, is the one read from them, and a tree read whole stands in its words.
use mathlib.Core.Path.{◌≡◌, refl, sym, ap, subst, ◌∙◌}
use mathlib.Core.Logic.{◌↔◌}
use mathlib.Core.List.{List, Perm}
use Prim.Native.Nat.{ℕ, zero, suc, ◌+◌, ◌*◌, ◌<◌, ◌≤◌}
use native.Mathlib.Decide.{dec_lt}
use native.Mathlib.Omega.{arith}
use lib.ListN.{length}
use Rattle.lists.specs.Counts.{upto}
use Rattle.aabb.specs.declared.Aabb.{Aabb}
use Rattle.bvh2.specs.Tree.{Tree, leaf, inner, label_of, leaves, depth, labels, positions}
use Rattle.bvh2.specs.Words.{tree_nodes, Link, children, position, malformed, link_at, box_at, read_link, tree_at, tree_of}
use Rattle.bvh2.specs.Causes.{Accepted}
use Rattle.bvh2.specs.Decoded.{AllRead, BoxesAccepted}
use Rattle.bvh2.proofs.Reading.{children_position, position_malformed, tree_leaf, tree_inner, label_is, depth_most}
use Rattle.bvh2.proofs.Decoded.{accepted_decoded, labels_length}

-- each node of the tree stands in the words at its label, and the children of one at adjacent numbers
unfoldable pub Stands : List ℕ → Tree ℕ → Type 0
Stands ws (leaf v b p) = (box_at ws v ≡ b) × (link_at ws v ≡ position p)
Stands ws (inner v b l r) =
    (box_at ws v ≡ b) × (link_at ws v ≡ children (label_of l)) × (label_of r ≡ label_of l + 1) × Stands ws l × Stands ws r

-- it is read back, from its root down to its depth or further
pub stands_read : (ws : List ℕ) (t : Tree ℕ) (d : ℕ) → Stands ws t → depth t ≤ d → tree_at ws d (label_of t) ≡ t
unfolding Stands depth label_of
stands_read ws (leaf v b p) d s h = tree_leaf ws d v p s.1 ∙ ap (λ (x : Aabb). leaf v x p) s.0
stands_read ws (inner v b l r) zero s h = absurd (omega arith)
stands_read ws (inner v b l r) (suc d) s h =
    let f = label_of l in
    let x : box_at ws v ≡ b = s.0 in
    let y : tree_at ws d f ≡ l = stands_read ws l d s.3 (omega arith) in
    let z : tree_at ws d (f + 1) ≡ r = subst (λ (u : ℕ). tree_at ws d u ≡ r) s.2 (stands_read ws r d s.4 (omega arith)) in
    tree_inner ws d v f s.1 ∙ (λ i. inner v (x i) (y i) (z i))

-- and nothing below its leaves is left unread
stands_whole : (ws : List ℕ) (t : Tree ℕ) → Stands ws t → AllRead ws t
unfolding Stands AllRead
stands_whole ws (leaf v b p) s = s.1
stands_whole ws (inner v b l r) s = (stands_whole ws l s.3, stands_whole ws r s.4)

-- the tree has its root at node 0 and is no deeper than 127 edges
module _ (ws : List ℕ) (t : Tree ℕ) (s : Stands ws t) (first : label_of t ≡ 0) (h : depth t ≤ 127) where
  pub stands_decodes : tree_of ws ≡ t
  stands_decodes = subst (λ (v : ℕ). tree_at ws 127 v ≡ t) first (stands_read ws t 127 s h)

  -- the words are accepted, if the tree is one that the other causes leave standing
  pub stands_accepted : length ws ≡ length (labels t) * 7 → Perm (labels t) (upto 0 (length (labels t))) → leaves t ≤ 65536
      → Perm (positions t) (upto 0 (leaves t)) → BoxesAccepted t → Accepted ws (leaves t)
  stands_accepted fit all few p b =
      let e : tree_of ws ≡ t = stands_decodes in
      let l = labels_length t in
      let c : length (labels t) ≡ tree_nodes (leaves t) = omega arith in
      (accepted_decoded ws (leaves t) (omega arith)).1 (record {
        fit = fit ∙ ap (λ (k : ℕ). k * 7) c;
        few = few;
        whole = rw e (stands_whole ws t s);
        nodes = rw (e, ← c) all;
        held = rw e p;
        boxes = rw e b;
      })

-- ---- a tree that is read whole stands in its words
whole_stands_link : (ws : List ℕ) (d v : ℕ) (l : Link) → link_at ws v ≡ l → AllRead ws (read_link ws d v l) → Stands ws (read_link ws d v l)
unfolding read_link AllRead Stands
whole_stands_link ws zero v (children f) e w = children_position e w
whole_stands_link ws zero v (position p) e w = (refl, w)
whole_stands_link ws zero v malformed e w = position_malformed w e
whole_stands_link ws (suc d) v (children f) e w =
    let i = label_is ws d f in (
      refl,
      e ∙ ap children (sym i),
      label_is ws d (f + 1) ∙ ap (λ (k : ℕ). k + 1) (sym i),
      whole_stands_link ws d f (link_at ws f) refl w.0,
      whole_stands_link ws d (f + 1) (link_at ws (f + 1)) refl w.1,
    )
whole_stands_link ws (suc d) v (position p) e w = (refl, w)
whole_stands_link ws (suc d) v malformed e w = position_malformed w e

pub whole_stands : (ws : List ℕ) (d v : ℕ) → AllRead ws (tree_at ws d v) → Stands ws (tree_at ws d v)
whole_stands ws d v w = whole_stands_link ws d v (link_at ws v) refl w

-- read whole to one depth, it is the same tree to any depth that it does not pass
pub read_again : (ws : List ℕ) (d e v : ℕ) → AllRead ws (tree_at ws d v) → depth (tree_at ws d v) ≤ e → tree_at ws e v ≡ tree_at ws d v
read_again ws d e v w h =
    subst (λ (u : ℕ). tree_at ws e u ≡ tree_at ws d v) (label_is ws d v) (stands_read ws (tree_at ws d v) e (whole_stands ws d v w) h)

-- and to no other is it read whole
pub depth_tells : (ws : List ℕ) (d e v : ℕ) → AllRead ws (tree_at ws d v) → AllRead ws (tree_at ws e v) ↔ depth (tree_at ws d v) ≤ e
depth_tells ws d e v w = (λ o. go o (dec_lt d e), λ h. rw (read_again ws d e v w h) w)
  where
    go : AllRead ws (tree_at ws e v) → Dec (d < e) → depth (tree_at ws d v) ≤ e
    go o (yes l) = let i = depth_most ws d v in omega arith
    go o (no l) =
        let i = depth_most ws e v in
        rw (read_again ws e d v o (omega arith)) i
