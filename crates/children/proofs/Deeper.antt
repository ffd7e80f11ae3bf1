-- Going down an accepted tree with as many edges left at each child as at its parent: what reads whole is the same with any number of edges that its
-- depth allows, so with any greater number, and with `most_edges`, since a tree of at most 65536 leaves is no deeper.
use mathlib.Core.Path.{◌≡◌, sym, ap, ap₂, ◌∙◌}
use mathlib.Core.List.{List}
use Prim.Native.Nat.{ℕ, ◌+◌, ◌-◌, ◌≤◌, ◌<◌}
use native.Mathlib.Omega.{arith}
use Rattle.bvh2.specs.Tree.{Tree, leaf, inner, leaves, depth}
use Rattle.bvh2.specs.Words.{tree_nodes, children, link_at, box_at, tree_at}
use Rattle.bvh2.specs.Decoded.{Subtree}
use Rattle.bvh2.proofs.Decoded.{subtree_leaves}
use Rattle.bvh2.proofs.Reading.{depth_most, depth_inner}
use Rattle.bvh2.proofs.Stands.{read_again}
use Rattle.bvh2.proofs.Subtree.{inner_link}
use Rattle.children.specs.Tabled.{most_edges, subtree_at}

-- what is known of a subtree, with any number of edges that its depth allows
pub subtree_again : {ws : List ℕ} {n d v : ℕ} (e : ℕ) → depth (tree_at ws d v) ≤ e → Subtree ws n d v → Subtree ws n e v
subtree_again {ws} {d = d} {v = v} e l s = let q = read_again ws d e v s.whole l in record {
  fit = s.fit;
  few = s.few;
  whole = rw q s.whole;
  within = rw q s.within;
  distinct = rw q s.distinct;
  boxes = rw q s.boxes;
}

-- ---- with more edges
-- the tree
pub tree_deeper : {ws : List ℕ} {n d e v : ℕ} → d ≤ e → Subtree ws n d v → tree_at ws e v ≡ tree_at ws d v
tree_deeper {ws} {d = d} {e} {v} l s = read_again ws d e v s.whole (omega (arith, depth_most ws d v, l))

-- and what is known of it
pub subtree_deeper : {ws : List ℕ} {n d e v : ℕ} → d ≤ e → Subtree ws n d v → Subtree ws n e v
subtree_deeper {ws} {d = d} {e} {v} l s = subtree_again e (omega (arith, depth_most ws d v, l)) s

-- ---- with the most
-- a path has fewer edges than its tree has leaves
depth_leaves : {A : Type 0} (t : Tree A) → depth t < leaves t
unfolding depth leaves
depth_leaves (leaf v b p) = omega arith
depth_leaves (inner v b l r) = omega (arith, depth_leaves l, depth_leaves r)

enough : {ws : List ℕ} {n d v : ℕ} → Subtree ws n d v → depth (tree_at ws d v) ≤ most_edges
enough {ws} {d = d} {v = v} s = omega (arith, depth_leaves (tree_at ws d v), subtree_leaves s, s.few)

-- the tree
pub tree_most : {ws : List ℕ} {n d v : ℕ} → Subtree ws n d v → subtree_at ws v ≡ tree_at ws d v
tree_most {ws} {d = d} {v = v} s = read_again ws d most_edges v s.whole (enough s)

-- and what is known of it
pub subtree_most : {ws : List ℕ} {n d v : ℕ} → Subtree ws n d v → Subtree ws n most_edges v
subtree_most s = subtree_again most_edges (enough s) s

-- ---- an inner node, with d edges left at its children too
pub record Fork (ws : List ℕ) (n d v f : ℕ) : Type 0 where
  pub second : f + 1 < tree_nodes n
  pub tree : tree_at ws d v ≡ inner v (box_at ws v) (tree_at ws d f) (tree_at ws d (f + 1))
  pub left : Subtree ws n d f
  pub right : Subtree ws n d (f + 1)
  pub left_shallower : depth (tree_at ws d f) < depth (tree_at ws d v)
  pub right_shallower : depth (tree_at ws d (f + 1)) < depth (tree_at ws d v)

pub fork : (ws : List ℕ) (n d v f : ℕ) → Subtree ws n d v → link_at ws v ≡ children f → Fork ws n d v f
fork ws n d v f s e =
    let i = inner_link ws n d v f s e in
    let l : d - 1 ≤ d = omega arith in
    let t : tree_at ws d v ≡ inner v (box_at ws v) (tree_at ws d f) (tree_at ws d (f + 1)) =
    i.tree ∙ ap₂ (λ (a b : Tree ℕ). inner v (box_at ws v) a b) (sym (tree_deeper l i.left)) (sym (tree_deeper l i.right)) in
    let q = ap depth t ∙ depth_inner v (box_at ws v) (tree_at ws d f) (tree_at ws d (f + 1)) in
    record {
      second = i.second;
      tree = t;
      left = subtree_deeper l i.left;
      right = subtree_deeper l i.right;
      left_shallower = omega (arith, q);
      right_shallower = omega (arith, q);
    }
