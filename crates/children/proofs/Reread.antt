-- A gathered node read anew, with as many edges left as its parent had, gives the gathered subtree: so conversion can go on from its number.
use mathlib.Core.Path.{◌≡◌, refl, sym, ap, subst, ◌∙◌}
use mathlib.Core.List.{List}
use Prim.Native.Nat.{ℕ, ◌+◌, ◌/◌, ◌%◌}
use native.Mathlib.Decide.{ℕ_discrete}
use native.Mathlib.Omega.{arith}
use Rattle.aabb.specs.declared.Aabb.{Aabb}
use Rattle.bvh2.specs.Tree.{Tree, leaf, inner, label_of}
use Rattle.bvh2.specs.Words.{word_at, tree_at}
use Rattle.bvh2.specs.Decoded.{Subtree}
use Rattle.bvh2.proofs.Reading.{word-children, label_is}
use Rattle.bvh2.proofs.Subtree.{at_leaf}
use Rattle.cost.specs.Table.{word_of}
use Rattle.cost.specs.Rows.{RowsHold}
use Rattle.children.specs.Gather.{gather, EachTree}
use Rattle.children.proofs.Deeper.{fork}
use Rattle.children.proofs.Gather.{gather-each}

-- the tree, part of one of n leaves, is what its own number reads as with d edges left, and its decision words for a limit stand in ds
pub record Reread (ws ds : List ℕ) (n limit d : ℕ) (t : Tree ℕ) : Type 0 where
  pub tree : tree_at ws d (label_of t) ≡ t
  pub subtree : Subtree ws n d (label_of t)
  pub holds : RowsHold (word_of limit) 0 ds t

leaf_inner : {A : Type 0} {v u p : ℕ} {b c : Aabb} {l r t : Tree ℕ} → t ≡ leaf v b p → t ≡ inner u c l r → A
leaf_inner x y = let z : ◌≡◌ {A = ℕ} 0 1 = cc in absurd (omega arith)

-- a tree read as an inner one has an inner link
inner_kind : {ws : List ℕ} {n d v u : ℕ} {box : Aabb} {a b : Tree ℕ} → Subtree ws n d v → tree_at ws d v ≡ inner u box a b
    → word_at ws v 6 / 0x4000_0000 ≡ 0
inner_kind {ws} {v = v} h q = pick (ℕ_discrete (word_at ws v 6 / 0x4000_0000) 0)
  where
    pick : Dec (word_at ws v 6 / 0x4000_0000 ≡ 0) → word_at ws v 6 / 0x4000_0000 ≡ 0
    pick (yes k) = k
    pick (no k) = leaf_inner (at_leaf h k).tree q

reread_at : (ws ds : List ℕ) (n limit d f : ℕ) (t : Tree ℕ) → Subtree ws n d f → t ≡ tree_at ws d f → RowsHold (word_of limit) 0 ds t
    → Reread ws ds n limit d t
reread_at ws ds n limit d f t h q k =
    let e : label_of t ≡ f = ap label_of q ∙ label_is ws d f in
    record { tree = ap (tree_at ws d) e ∙ sym q; subtree = subst (λ (x : ℕ). Subtree ws n d x) (sym e) h; holds = k }

same_left : {v u : ℕ} {b c : Aabb} {l r l' r' t : Tree ℕ} → t ≡ inner v b l r → t ≡ inner u c l' r' → l ≡ l'
same_left x y = cc

same_right : {v u : ℕ} {b c : Aabb} {l r l' r' t : Tree ℕ} → t ≡ inner v b l r → t ≡ inner u c l' r' → r ≡ r'
same_right x y = cc

-- both children
below : (ws ds : List ℕ) (n limit d v : ℕ) (box : Aabb) (a b : Tree ℕ) → Reread ws ds n limit d (inner v box a b) → Reread ws ds n limit d a
    × Reread ws ds n limit d b
unfolding RowsHold
below ws ds n limit d v box a b h =
    let u = label_of (inner v box a b) in
    let f = word_at ws u 6 % 0x4000_0000 in
    let p = fork ws n d u f h.subtree (word-children (word_at ws u 6) (inner_kind h.subtree h.tree)) in (
      reread_at ws ds n limit d f a p.left (same_left h.tree p.tree) h.holds.1,
      reread_at ws ds n limit d (f + 1) b p.right (same_right h.tree p.tree) h.holds.2,
    )

-- every node that one opens into
pub gather_here : (ws ds : List ℕ) (n limit d v : ℕ) → Subtree ws n d v → RowsHold (word_of limit) 0 ds (tree_at ws d v) → (i : ℕ)
    → EachTree (Reread ws ds n limit d) (gather limit (tree_at ws d v) i)
gather_here ws ds n limit d v h k i =
    gather-each limit (Reread ws ds n limit d) (below ws ds n limit d) (tree_at ws d v) i (reread_at ws ds n limit d v (tree_at ws d v) h refl k)
