-- A wide tree holds the positions of the binary tree, each as often, and has at most max(1, n − 1) nodes for n leaves.
use mathlib.Core.Path.{◌≡◌, refl, sym, ap₂, ◌∙◌}
use mathlib.Core.List.{List, [], ◌∷◌, ◌++◌, map, Perm}
use Prim.Native.Nat.{ℕ, ◌+◌, ◌-◌, ◌≤◌, max}
use native.Mathlib.Omega.{arith}
use lib.ListN.{length, length-append}
use Rattle.lists.specs.Counts.{count}
use Rattle.lists.proofs.Counts.{count-append}
use Rattle.lists.proofs.Perms.{counts_perm}
use Rattle.aabb.specs.declared.Aabb.{Aabb}
use Rattle.bvh2.specs.Tree.{Tree, leaf, inner, box_of, leaves, positions}
use Rattle.bvh2.proofs.Decoded.{positions-length}
use Rattle.cost.specs.Table.{Kind, LEAF, INTERNAL, DISTRIBUTE, table}
use Rattle.wide_layout.specs.Wide.{Slots}
use Rattle.wide_layout.specs.Sizes as S
use Rattle.wide_layout.specs.Layout as L
use Rattle.wide_layout.proofs.Sizes as Z
use Rattle.wide_tree.specs.WideTree.{Child, leaf_child, inner_child, child_box, hold, Placing, filled_slots, child_as, contributed, wide_children}
use Rattle.wide_tree.specs.WideTree.{root_slots, wide_of}
use Rattle.wide_tree.proofs.Slots.{OneToOne, total, total_append, slots_total, EachChild, slots_each}
use Rattle.wide_tree.proofs.Gathered.{child_of, share}
use Rattle.wide_tree.proofs.WideTree.{Fine, below_fine, Places, one_to_one, small_leaves, branching, two_slots}

abbrev child_positions : Child → List ℕ
child_positions (leaf_child b ps) = ps
child_positions (inner_child b s) = S.slots_positions s

-- any measure of lists that adds up over `++`: how often x stands in it, and its length
module _ (μ : List ℕ → ℕ) (μ-none : μ [] ≡ 0) (μ-append : (a b : List ℕ) → μ (a ++ b) ≡ μ a + μ b) where
  of_child : Child → ℕ
  of_child c = μ (child_positions c)

  total_contributed : (k : Kind) (c : Child) (cs : List Child) (m : ℕ) → of_child c ≡ m → total of_child cs ≡ m
      → total of_child (contributed k c cs) ≡ m
  unfolding total
  total_contributed LEAF c cs m p q = omega arith
  total_contributed INTERNAL c cs m p q = omega arith
  total_contributed DISTRIBUTE c cs m p q = q

  -- the slots measure what the children do
  slots_measure : (place : Placing) (box : Aabb) (cs : List Child) → OneToOne (length cs) (place box (map child_box cs))
      → μ (S.slots_positions (filled_slots place box cs)) ≡ total of_child cs
  unfolding of_child
  slots_measure place box cs h = slots_total (λ w s. μ (S.slots_positions s)) of_child μ-none (λ w s. refl) holds (place box (map child_box cs)) cs h
    where
      holds : (w : ℕ) (c : Child) (s : Slots w) → μ (S.slots_positions (hold c s)) ≡ μ (child_positions c) + μ (S.slots_positions s)
      holds w (leaf_child b ps) s = μ-append ps (S.slots_positions s)
      holds w (inner_child b t) s = μ-append (S.slots_positions t) (S.slots_positions s)

  module _ {A : Type 0} (place : Placing) (limit : ℕ) (places : Places place) where
    child_measure : (t : Tree A) → Fine t → total of_child (wide_children place limit t 0) ≡ μ (positions t) → of_child (child_of place limit t)
        ≡ μ (positions t)
    unfolding of_child
    child_measure t o h = go (table limit t 0).kind
      where
        inside : μ (S.slots_positions (root_slots place limit t)) ≡ μ (positions t)
        inside = slots_measure place (box_of t) (wide_children place limit t 0) (one_to_one place limit places t o) ∙ h

        go : (k : Kind) → μ (child_positions (child_as place k t (wide_children place limit t 0))) ≡ μ (positions t)
        go LEAF = refl
        go INTERNAL = inside
        go DISTRIBUTE = inside

    children_measure : (t : Tree A) (i : ℕ) → Fine t → total of_child (wide_children place limit t i) ≡ μ (positions t)
    unfolding wide_children total positions of_child
    children_measure (leaf v box p) i o = omega arith
    children_measure (inner v box a b) i o =
        let d = table limit (inner v box a b) i in
        let q = below_fine v box a b o in
        let x =
        total_contributed (table limit a d.left).kind (child_of place limit a) (wide_children place limit a d.left) (μ (positions a))
        (child_measure a q.0 (children_measure a 0 q.0)) (children_measure a d.left q.0) in
        let y =
        total_contributed (table limit b d.right).kind (child_of place limit b) (wide_children place limit b d.right) (μ (positions b))
        (child_measure b q.1 (children_measure b 0 q.1)) (children_measure b d.right q.1) in
        total_append of_child (share place limit a d.left) (share place limit b d.right) ∙ ap₂ (λ (m n : ℕ). m + n) x y ∙ sym
        (μ-append (positions a) (positions b))

    wide_measure : (t : Tree A) → Fine t → μ (S.slots_positions (root_slots place limit t)) ≡ μ (positions t)
    wide_measure t o = slots_measure place (box_of t) (wide_children place limit t 0) (one_to_one place limit places t o) ∙ children_measure t 0 o

module _ {A : Type 0} (place : Placing) (limit : ℕ) (places : Places place) (t : Tree A) (o : Fine t) where
  -- each position as often as in the tree
  pub wide_count : (x : ℕ) → count x (S.slots_positions (root_slots place limit t)) ≡ count x (positions t)
  unfolding count
  wide_count x = wide_measure (count x) refl (count-append x) place limit places t o

  pub wide_positions : Perm (S.slots_positions (root_slots place limit t)) (positions t)
  wide_positions = (counts_perm (S.slots_positions (root_slots place limit t)) (positions t)).1 wide_count

  pub wide_length : length (S.slots_positions (root_slots place limit t)) ≡ leaves t
  wide_length = wide_measure length refl length-append place limit places t o ∙ positions-length t

-- ---- how many nodes
abbrev LeafChild : Child → Type 0
LeafChild (leaf_child b ps) = Unit {0}
LeafChild (inner_child b s) = ⊥

leaf_hold : (w : ℕ) (c : Child) (s : Slots w) → LeafChild c → S.inner_children s + S.nodes_below s ≡ 0
    → S.inner_children (hold c s) + S.nodes_below (hold c s) ≡ 0
leaf_hold w (leaf_child b ps) s k q = q
leaf_hold w (inner_child b t) s k q = absurd k

module _ {A : Type 0} (place : Placing) (limit : ℕ) (places : Places place) where
  -- positions of the wide tree in all
  pub wide_index : (t : Tree A) → Fine t → L.index_count (wide_of place limit t) ≡ leaves t
  unfolding wide_of
  wide_index t o = sym (Z.positions-length (root_slots place limit t)) ∙ wide_length place limit places t o

  -- a tree of one leaf has one node
  leaf_nodes : (v : A) (box : Aabb) (p : ℕ) → L.nodes (wide_of place limit (leaf v box p)) ≡ 1
  unfolding wide_of wide_children box_of EachChild
  leaf_nodes v box p =
      let h = slots_each (λ w s. S.inner_children s + S.nodes_below s ≡ 0) LeafChild refl (λ w s q. q) leaf_hold (place box (box ∷ []))
      (leaf_child box (p ∷ []) ∷ []) 0 8 (tt, tt) in
      omega arith

  inner_nodes : (v : A) (box : Aabb) (a b : Tree A) → limit ≤ 3 → Fine (inner v box a b)
      → L.nodes (wide_of place limit (inner v box a b)) + 1 ≤ leaves (inner v box a b)
  unfolding wide_of
  inner_nodes v box a b u o =
      let t = inner v box a b in
      let h = Z.nodes_few (wide_of place limit t) (small_leaves place limit u t) (branching place limit places t o)
      (two_slots place limit places v box a b o) in
      omega (arith, wide_index t o)

  -- at most max(1, n − 1) nodes for n leaves
  pub wide_nodes : (t : Tree A) → limit ≤ 3 → Fine t → L.nodes (wide_of place limit t) ≤ max 1 (leaves t - 1)
  wide_nodes (leaf v box p) u o = omega (arith, leaf_nodes v box p)
  wide_nodes (inner v box a b) u o = omega (arith, inner_nodes v box a b u o)
