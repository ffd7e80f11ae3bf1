-- How words are read: links by their kinds, trees by their links.
use mathlib.Core.Path.{◌≡◌, refl}
use mathlib.Core.List.{List}
use Prim.Native.Nat.{ℕ, zero, suc, ◌+◌, ◌-◌, ◌/◌, ◌%◌, ◌≤◌, ◌<◌, max}
use native.Mathlib.Omega.{arith}
use native.Mathlib.Numerals.{sub-one}
use Rattle.aabb.specs.declared.Aabb.{Aabb}
use Rattle.bvh2.specs.Tree.{Tree, leaf, inner, label_of, box_of, depth}
use Rattle.bvh2.specs.Words.{Link, children, position, malformed, link_of, link_at, box_at, read_link, tree_at}

-- a link word by its kind
pub word-children : (w : ℕ) → w / 0x4000_0000 ≡ 0 → link_of w ≡ children (w % 0x4000_0000)
unfolding link_of
word-children w e = rw (e, link_of)

pub word_position : (w : ℕ) → w / 0x4000_0000 ≡ 1 → link_of w ≡ position (w % 0x4000_0000)
unfolding link_of
word_position w e = rw (e, link_of)

pub word_malformed : (w : ℕ) → (w / 0x4000_0000 ≡ 0 → ⊥) → (w / 0x4000_0000 ≡ 1 → ⊥) → link_of w ≡ malformed
unfolding link_of
word_malformed w a b = pick (w / 0x4000_0000) refl
  where
    pick : (k : ℕ) → w / 0x4000_0000 ≡ k → link_of w ≡ malformed
    pick zero e = absurd (a e)
    pick (suc zero) e = absurd (b e)
    pick (suc (suc k)) e = rw (e, link_of)

-- links that are equal, and such as are not
pub same-children : {l : Link} {f g : ℕ} → l ≡ children f → l ≡ children g → f ≡ g
same-children a b = cc

pub same_position : {l : Link} {p q : ℕ} → l ≡ position p → l ≡ position q → p ≡ q
same_position a b = cc

pub children_position : {A : Type 0} {l : Link} {f p : ℕ} → l ≡ children f → l ≡ position p → A
children_position a b = let z : ◌≡◌ {A = ℕ} 0 1 = cc in absurd (omega arith)

pub position_malformed : {A : Type 0} {l : Link} {p : ℕ} → l ≡ position p → l ≡ malformed → A
position_malformed a b = let z : ◌≡◌ {A = ℕ} 0 1 = cc in absurd (omega arith)

-- a tree by the link of its root
pub tree_leaf : (ws : List ℕ) (d v p : ℕ) → link_at ws v ≡ position p → tree_at ws d v ≡ leaf v (box_at ws v) p
unfolding read_link
tree_leaf ws zero v p e = rw e
tree_leaf ws (suc d) v p e = rw e

pub tree_inner : (ws : List ℕ) (d v f : ℕ) → link_at ws v ≡ children f → tree_at ws (suc d) v
    ≡ inner v (box_at ws v) (tree_at ws d f) (tree_at ws d (f + 1))
unfolding read_link
tree_inner ws d v f e = rw e

pub tree_down : (ws : List ℕ) (d v f : ℕ) → link_at ws v ≡ children f → 0 < d → tree_at ws d v
    ≡ inner v (box_at ws v) (tree_at ws (d - 1) f) (tree_at ws (d - 1) (f + 1))
tree_down ws zero v f e h = absurd (omega arith)
tree_down ws (suc d) v f e h = rw (sub-one (suc d)) (tree_inner ws d v f e)

pub tree_cut : (ws : List ℕ) (v f : ℕ) → link_at ws v ≡ children f → tree_at ws 0 v ≡ leaf v (box_at ws v) 0
unfolding read_link
tree_cut ws v f e = rw e

-- the root is the node read, and the depth is at most the one read to
label_read : (ws : List ℕ) (d v : ℕ) (l : Link) → label_of (read_link ws d v l) ≡ v
unfolding label_of read_link
label_read ws zero v (children f) = refl
label_read ws zero v (position p) = refl
label_read ws zero v malformed = refl
label_read ws (suc d) v (children f) = refl
label_read ws (suc d) v (position p) = refl
label_read ws (suc d) v malformed = refl

pub label_is : (ws : List ℕ) (d v : ℕ) → label_of (tree_at ws d v) ≡ v
label_is ws d v = label_read ws d v (link_at ws v)

box_read : (ws : List ℕ) (d v : ℕ) (l : Link) → box_of (read_link ws d v l) ≡ box_at ws v
unfolding box_of read_link
box_read ws zero v (children f) = refl
box_read ws zero v (position p) = refl
box_read ws zero v malformed = refl
box_read ws (suc d) v (children f) = refl
box_read ws (suc d) v (position p) = refl
box_read ws (suc d) v malformed = refl

pub box_is : (ws : List ℕ) (d v : ℕ) → box_of (tree_at ws d v) ≡ box_at ws v
box_is ws d v = box_read ws d v (link_at ws v)

-- a tree is deeper than its children
pub depth_inner : {A : Type 0} (v : A) (b : Aabb) (l r : Tree A) → depth (inner v b l r) ≡ suc (max (depth l) (depth r))
unfolding depth
depth_inner v b l r = refl

depth_read : (ws : List ℕ) (d v : ℕ) (l : Link) → depth (read_link ws d v l) ≤ d
unfolding depth read_link
depth_read ws zero v (children f) = omega arith
depth_read ws zero v (position p) = omega arith
depth_read ws zero v malformed = omega arith
depth_read ws (suc d) v (children f) = let i = depth_read ws d f (link_at ws f) in let j = depth_read ws d (f + 1) (link_at ws (f + 1)) in omega arith
depth_read ws (suc d) v (position p) = omega arith
depth_read ws (suc d) v malformed = omega arith

pub depth_most : (ws : List ℕ) (d v : ℕ) → depth (tree_at ws d v) ≤ d
depth_most ws d v = depth_read ws d v (link_at ws v)
