-- One step of the level pass, as the code takes it.
use mathlib.Core.Path.{◌≡◌, sym, ap, ap₂, ◌∙◌}
use mathlib.Core.Bool.{Bool}
use mathlib.Core.List.{List}
use mathlib.Core.Logic.{∥∥₁_elim}
use Prim.Native.Nat.{ℕ, ◌+◌, ◌*◌, ◌/◌, ◌%◌, ◌≤◌, max}
use native.Mathlib.Omega.{arith}
use lib.ListN.{get_or}
use Rattle.std.proofs.Props.{props}
use Rattle.aabb.specs.declared.Aabb.{Aabb}
use Rattle.bvh2.specs.Tree.{Tree, leaf, inner}
use Rattle.bvh2.specs.declared.Link.{Link as Read}
use Rattle.bvh2.specs.declared.Link.TheVariants as V
use Rattle.bvh2.specs.Said.{said}
use Rattle.bvh2.specs.Words.{children, position, link_at, box_at}
use Rattle.bvh2.proofs.Decoded.{subtree_leaves}
use Rattle.bvh2.proofs.Reading.{tree_leaf}
use Rattle.cost.specs.declared.Kind.{Kind as Told}
use Rattle.cost.specs.declared.Kind.TheVariants as K
use Rattle.cost.specs.Said.{kind_said, kind_in}
use Rattle.cost.specs.Table.{Kind, LEAF, table, word_of}
use Rattle.cost.specs.Rows.{RowsHold}
use Rattle.cost.proofs.Splits.{leaf_distribute, internal_leaf, leaf_kind}
use Rattle.cost.proofs.Steps.{no_children}
use Rattle.children.specs.declared.branch.Branch.{Branch}
use Rattle.children.specs.Branches.{words_of, decisions_of, subtree_of, DecidedBy, BranchAt}
use Rattle.children.specs.Tabled.{most_edges, subtree_at, Tabled}
use Rattle.children.proofs.Deeper.{fork}
use Rattle.children.proofs.Branches.{of_branch, word_kind}
use Rattle.children.proofs.Steps.{says, told}
use Rattle.wide_layout.specs.Layout.{level}
use Rattle.wide_tree.specs.Ordered.{placing, wide_tree}
use Rattle.wide_tree.proofs.WideTree.{Fine}
use Rattle.wide_tree.proofs.Ordered.{places}
use Rattle.wide_level.specs.Levels.{added_as, levels, added}
use Rattle.wide_level.proofs.Levels.{wide_level}

-- r is what a tree adds at entry i, by the tables that ds holds
abbrev pub Adds : (i r : ℕ) → List ℕ → Tree ℕ → Type 0
Adds i r ds t = (limit : ℕ) → RowsHold (word_of limit) 0 ds t → r ≡ added limit t i

-- the rows below an inner tree
rows_below : (limit : ℕ) (ds : List ℕ) (t : Tree ℕ) (v : ℕ) (box : Aabb) (a b : Tree ℕ) → t ≡ inner v box a b → RowsHold (word_of limit) 0 ds t
    → RowsHold (word_of limit) 0 ds a × RowsHold (word_of limit) 0 ds b
unfolding RowsHold
rows_below limit ds t v box a b q k = let z : RowsHold (word_of limit) 0 ds (inner v box a b) = rw q at k in (z.1, z.2)

-- the levels of an inner tree
levels_inner : (limit : ℕ) (t : Tree ℕ) (v : ℕ) (box : Aabb) (a b : Tree ℕ) (i : ℕ) → t ≡ inner v box a b
    → levels limit t i ≡ max (added limit a (table limit t i).left) (added limit b (table limit t i).right)
unfolding levels
levels_inner limit t v box a b i q = rw q

-- and those of a leaf
levels_leaf : (limit : ℕ) (t : Tree ℕ) (v : ℕ) (box : Aabb) (p i : ℕ) → t ≡ leaf v box p → levels limit t i ≡ 0
unfolding levels
levels_leaf limit t v box p i q = rw q

-- the levels of a node that is opened, from what its two children add
pub joined : {b L R : Branch} {f l r i x y : ℕ} → i ≤ 6 → children f ≡ link_at (words_of b) b.node
    → l ≡ get_or (decisions_of b) (b.node * 7 + i) 0 / 256 % 256 → r ≡ get_or (decisions_of b) (b.node * 7 + i) 0 % 256
    → BranchAt b f L → Adds l x (decisions_of L) (subtree_of L) → BranchAt b (f + 1) R → Adds r y (decisions_of R) (subtree_of R)
    → (limit : ℕ) → DecidedBy limit b → max x y ≡ levels limit (subtree_of b) i
joined {b} {f = f} {l} {r} {i} {x} {y} u q c d m g n k limit z = ∥∥₁_elim b.tabled (hlevel props) (λ h.
    let ws = words_of b in
    let T = subtree_at ws f in
    let U = subtree_at ws (f + 1) in
    let p = fork ws h.n most_edges b.node f h.tree (sym q) in
    let s = says h limit z i u in
    let w = rows_below limit (decisions_of b) (subtree_of b) b.node (box_at ws b.node) T U p.tree z in
    ap₂ (λ (m n : ℕ). max m n) (of_branch m (Adds l x) g limit w.0 ∙ ap (added limit T) (c ∙ s.left))
    (of_branch n (Adds r y) k limit w.1 ∙ ap (added limit U) (d ∙ s.right))
    ∙ sym (levels_inner limit (subtree_of b) b.node (box_at ws b.node) T U i p.tree))

-- a node whose link is none to children is a leaf child
childless_leaf : {ws ds : List ℕ} {v : ℕ} {l : Read} → Tabled ws ds most_edges v → (i : ℕ) → i ≤ 6 → said l ≡ link_at ws v
    → ((f : ℕ) → l ≡ V.Children f → ⊥) → kind_in (get_or ds (v * 7 + i) 0) ≡ LEAF
childless_leaf {ws} {ds} {v} h i u q k =
    told h h.limit h.holds i u ∙ leaf_said (subtree_at ws v) (box_at ws v) _ (no_children h.tree q k).1.tree
  where
    leaf_said : (t : Tree ℕ) (box : Aabb) (p : ℕ) → t ≡ leaf v box p → (table h.limit t i).kind ≡ LEAF
    leaf_said t box p q = rw q (leaf_kind h.limit v box p i)

-- ---- what a node adds by its kind: the levels of its own
pub record Own (kind : Told) (n : ℕ) : Type 0 where
  pub few : n ≤ 1
  pub no_leaf : kind_said kind ≡ LEAF → ⊥
  pub adds : (m : ℕ) → m + n ≡ added_as (kind_said kind) m

pub own_inner : {kind : Told} {n : ℕ} → kind ≡ K.Internal → n ≡ 1 → Own kind n
own_inner q z = rw (q, z) (record { few = omega arith; no_leaf = internal_leaf; adds = λ m. omega arith })

pub own_opened : {kind : Told} {n : ℕ} → kind ≡ K.Distribute → n ≡ 0 → Own kind n
own_opened q z = rw (q, z) (record { few = omega arith; no_leaf = λ y. leaf_distribute (sym y); adds = λ m. omega arith })

table_kind : (b : Branch) {i : ℕ} (kind : Told) → i ≤ 6 → kind_said kind ≡ kind_in (get_or (decisions_of b) (b.node * 7 + i) 0)
    → (limit : ℕ) → DecidedBy limit b → kind_said kind ≡ (table limit (subtree_of b) i).kind
table_kind b {i} kind u read limit k = read ∙ word_kind b limit k i u

module _ (b : Branch) {i : ℕ} {kind : Told} (u : i ≤ 6) (read : kind_said kind ≡ kind_in (get_or (decisions_of b) (b.node * 7 + i) 0)) where
  pub as_leaf_lem : kind ≡ K.Leaf → Adds i 0 (decisions_of b) (subtree_of b)
  as_leaf_lem z limit k = ap (λ (x : Kind). added_as x (levels limit (subtree_of b) i)) (sym (ap kind_said z) ∙ table_kind b kind u read limit k)

  pub has_children : {n : ℕ} {l : Read} → Own kind n → said l ≡ link_at (words_of b) b.node → ((f : ℕ) → l ≡ V.Children f → ⊥) → ⊥
  has_children o q k = ∥∥₁_elim b.tabled (hlevel props) (λ h. o.no_leaf (read ∙ childless_leaf h i u q k))

  pub as_own : {n m : ℕ} → Own kind n → ((limit : ℕ) → DecidedBy limit b → m ≡ levels limit (subtree_of b) i)
      → Adds i (m + n) (decisions_of b) (subtree_of b)
  as_own {n} o d limit k =
      let x = levels limit (subtree_of b) i in
      ap (λ (z : ℕ). z + n) (d limit k) ∙ o.adds x ∙ ap (λ (z : Kind). added_as z x) (table_kind b kind u read limit k)

-- ---- the root, opened whatever its decision says
root_fine : {ws ds : List ℕ} {v : ℕ} → Tabled ws ds most_edges v → Fine (subtree_at ws v)
root_fine h = record { boxes = h.tree.boxes; few = omega (arith, subtree_leaves h.tree, h.tree.few) }

root_level : (b : Branch) (limit : ℕ) (ordered : Bool) → level (wide_tree ordered limit (subtree_of b)) ≡ levels limit (subtree_of b) 0
root_level b limit ordered = ∥∥₁_elim b.tabled (hlevel props)
    (λ h. wide_level (placing ordered) limit (places ordered) (subtree_of b) (root_fine h))

pub root_leaf : (b : Branch) {p : ℕ} → position p ≡ link_at (words_of b) b.node
    → (limit : ℕ) (ordered : Bool) → 0 ≡ level (wide_tree ordered limit (subtree_of b))
root_leaf b {p} q limit ordered =
    sym (root_level b limit ordered
    ∙ levels_leaf limit (subtree_of b) b.node (box_at (words_of b) b.node) p 0 (tree_leaf (words_of b) most_edges b.node p (sym q)))

pub root_joined : (b : Branch) {m : ℕ} → ((limit : ℕ) → DecidedBy limit b → m ≡ levels limit (subtree_of b) 0)
    → (limit : ℕ) (ordered : Bool) → DecidedBy limit b → m ≡ level (wide_tree ordered limit (subtree_of b))
root_joined b d limit ordered k = d limit k ∙ sym (root_level b limit ordered)
