-- What holds of the wide tree of a binary tree with accepted boxes: it holds the tree's positions, one to three in each leaf child; each inner
-- child has two children or more; it has at most max(1, n − 1) nodes for n leaves; its boxes are the tree's.
use mathlib.Core.Path.{◌≡◌, refl, ◌∙◌}
use mathlib.Core.Bool.{true}
use mathlib.Core.List.{List, [], ◌∷◌, ◌++◌, map}
use Prim.Native.Nat.{ℕ, ◌+◌, ◌^◌, ◌≤◌, ◌<◌}
use native.Mathlib.Omega.{arith}
use lib.ListN.{length, length-map}
use Rattle.aabb.specs.declared.Aabb.{Aabb}
use Rattle.aabb.specs.Aabb.{accepted_box}
use Rattle.bvh2.specs.Tree.{Tree, leaf, inner, box_of, leaves, positions}
use Rattle.bvh2.specs.Decoded.{BoxesAccepted}
use Rattle.bvh2.proofs.Decoded.{positions-length}
use Rattle.cost.specs.Table.{Kind, LEAF, INTERNAL, DISTRIBUTE, table}
use Rattle.cost.proofs.Bound.{leaves_pos}
use Rattle.cost.proofs.Splits.{leaf_kind, leaf_limit}
use Rattle.children.specs.Gather.{gather, EachTree}
use Rattle.children.proofs.Gather.{gather-each, gather_width, two-children}
use Rattle.wide_layout.specs.Wide.{Slots}
use Rattle.wide_layout.specs.Sizes as S
use Rattle.wide_tree.specs.WideTree.{Child, leaf_child, inner_child, child_box, hold, Placing, filled_slots, child_as, contributed, wide_children}
use Rattle.wide_tree.specs.WideTree.{root_slots}
use Rattle.wide_tree.proofs.Slots.{OneToOne, total, slots_total, EachChild, slots_each}
use Rattle.wide_tree.proofs.Gathered.{child_of, share, children_boxes, children-length}

-- ---- the children that a tree opens into, by induction on the tree
each_append : (K : Child → Type 0) (s t : List Child) → EachChild K s → EachChild K t → EachChild K (s ++ t)
unfolding EachChild
each_append K [] t h k = k
each_append K (x ∷ s) t h k = (h.0, each_append K s t h.1 k)

each-contributed : (K : Child → Type 0) (k : Kind) (c : Child) (cs : List Child) → K c → EachChild K cs → EachChild K (contributed k c cs)
unfolding EachChild
each-contributed K LEAF c cs p q = (p, tt)
each-contributed K INTERNAL c cs p q = (p, tt)
each-contributed K DISTRIBUTE c cs p q = q

module _ {A : Type 0} (place : Placing) (limit : ℕ) (K : Child → Type 0) (Ok : Tree A → Type 0)
    (below : (v : A) (box : Aabb) (a b : Tree A) → Ok (inner v box a b) → Ok a × Ok b)
    (as_leaf_lem : (t : Tree A) → Ok t → (table limit t 0).kind ≡ LEAF → K (leaf_child (box_of t) (positions t)))
    (as_inner : (v : A) (box : Aabb) (a b : Tree A) → Ok (inner v box a b) → EachChild K (wide_children place limit (inner v box a b) 0)
    → K (inner_child box (root_slots place limit (inner v box a b))))
  where
    child_each : (t : Tree A) → Ok t → EachChild K (wide_children place limit t 0) → K (child_of place limit t)
    unfolding box_of
    child_each (leaf v box p) o h = rw (leaf_kind limit v box p 0) (as_leaf_lem (leaf v box p) o (leaf_kind limit v box p 0))
    child_each (inner v box a b) o h = by_kind (table limit (inner v box a b) 0).kind refl
      where
        by_kind : (k : Kind) → (table limit (inner v box a b) 0).kind ≡ k
            → K (child_as place k (inner v box a b) (wide_children place limit (inner v box a b) 0))
        by_kind LEAF e = as_leaf_lem (inner v box a b) o e
        by_kind INTERNAL e = as_inner v box a b o h
        by_kind DISTRIBUTE e = as_inner v box a b o h

    pub children-each : (t : Tree A) (i : ℕ) → Ok t → EachChild K (wide_children place limit t i)
    unfolding wide_children EachChild box_of positions
    children-each (leaf v box p) i o = (as_leaf_lem (leaf v box p) o (leaf_kind limit v box p 0), tt)
    children-each (inner v box a b) i o =
        let d = table limit (inner v box a b) i in
        let q = below v box a b o in
        each_append K (share place limit a d.left) (share place limit b d.right)
        (each-contributed K (table limit a d.left).kind (child_of place limit a) (wide_children place limit a d.left)
        (child_each a q.0 (children-each a 0 q.0)) (children-each a d.left q.0))
        (each-contributed K (table limit b d.right).kind (child_of place limit b) (wide_children place limit b d.right)
        (child_each b q.1 (children-each b 0 q.1)) (children-each b d.right q.1))

-- ---- leaf children have one to three positions
SmallChild : Child → Type 0
SmallChild (leaf_child b ps) = (1 ≤ length ps) × (length ps ≤ 3)
SmallChild (inner_child b s) = S.SmallLeaves s

small_hold : (w : ℕ) (c : Child) (s : Slots w) → SmallChild c → S.SmallLeaves s → S.SmallLeaves (hold c s)
unfolding SmallChild
small_hold w (leaf_child b ps) s k q = (k.0, k.1, q)
small_hold w (inner_child b t) s k q = (k, q)

slots_small : (place : Placing) (box : Aabb) (cs : List Child) → EachChild SmallChild cs → S.SmallLeaves (filled_slots place box cs)
slots_small place box cs h = slots_each (λ w s. S.SmallLeaves s) SmallChild tt (λ w s q. q) small_hold (place box (map child_box cs)) cs 0 8 h

children_small : {A : Type 0} (place : Placing) (limit : ℕ) → limit ≤ 3 → (t : Tree A) (i : ℕ) → EachChild SmallChild (wide_children place limit t i)
unfolding SmallChild box_of
children_small {A} place limit u t i =
    children-each place limit SmallChild (λ t. Unit {0}) (λ v box a b o. (tt, tt))
    (λ t o e. (let l = leaf_limit limit t e in (omega (arith, positions-length t, leaves_pos t), omega (arith, positions-length t))))
    (λ v box a b o h. slots_small place box (wide_children place limit (inner v box a b) 0) h) t i tt

pub small_leaves : {A : Type 0} (place : Placing) (limit : ℕ) → limit ≤ 3 → (t : Tree A) → S.SmallLeaves (root_slots place limit t)
small_leaves place limit u t = slots_small place (box_of t) (wide_children place limit t 0) (children_small place limit u t 0)

-- ---- each child of a wide node has a slot of its own
-- every box of a list is accepted
unfoldable pub AllAccepted : List Aabb → Type 0
AllAccepted [] = Unit {0}
AllAccepted (b ∷ bs) = (accepted_box b ≡ true) × AllAccepted bs

-- up to eight children with accepted boxes get slots one to one
abbrev pub Places : Placing → Type 0
Places place = (box : Aabb) (boxes : List Aabb) → length boxes ≤ 8 → accepted_box box ≡ true → AllAccepted boxes
    → OneToOne (length boxes) (place box boxes)

pub root_accepted : {A : Type 0} (t : Tree A) → BoxesAccepted t → accepted_box (box_of t) ≡ true
unfolding BoxesAccepted box_of
root_accepted (leaf v box p) h = h
root_accepted (inner v box a b) h = h.0

boxes_accepted_lem : {A : Type 0} (g : List (Tree A)) → EachTree BoxesAccepted g → AllAccepted (map box_of g)
unfolding AllAccepted EachTree
boxes_accepted_lem [] h = tt
boxes_accepted_lem (t ∷ g) h = (root_accepted t h.0, boxes_accepted_lem g h.1)

pub below_accepted : {A : Type 0} (v : A) (box : Aabb) (a b : Tree A) → BoxesAccepted (inner v box a b) → BoxesAccepted a × BoxesAccepted b
unfolding BoxesAccepted
below_accepted v box a b h = (h.1, h.2)

BranchingChild : Child → Type 0
BranchingChild (leaf_child b ps) = Unit {0}
BranchingChild (inner_child b s) = (2 ≤ S.children s) × S.Branching s

slots_branching : (place : Placing) (box : Aabb) (cs : List Child) → EachChild BranchingChild cs → S.Branching (filled_slots place box cs)
unfolding BranchingChild
slots_branching place box cs h = slots_each (λ w s. S.Branching s) BranchingChild tt (λ w s q. q) holds (place box (map child_box cs)) cs 0 8 h
  where
    holds : (w : ℕ) (c : Child) (s : Slots w) → BranchingChild c → S.Branching s → S.Branching (hold c s)
    holds w (leaf_child b ps) s k q = q
    holds w (inner_child b t) s k q = (k.0, k.1, q)

-- the boxes are accepted, and the leaves are few enough for every cost to be finite
pub record Fine {A : Type 0} (t : Tree A) : Type 0 where
  pub boxes : BoxesAccepted t
  pub few : leaves t < 2 ^ 23

pub below_fine : {A : Type 0} (v : A) (box : Aabb) (a b : Tree A) → Fine (inner v box a b) → Fine a × Fine b
unfolding BoxesAccepted leaves
below_fine v box a b o = let u = o.few in (record { boxes = o.boxes.1; few = omega arith }, record { boxes = o.boxes.2; few = omega arith })

module _ {A : Type 0} (place : Placing) (limit : ℕ) (places : Places place) where
  pub one_to_one : (t : Tree A) → Fine t → OneToOne (length (wide_children place limit t 0))
      (place (box_of t) (map child_box (wide_children place limit t 0)))
  one_to_one t o =
      let g = gather limit t 0 in
      rw (children_boxes place limit t 0, children-length place limit t 0, ← (length-map g box_of))
      (places (box_of t) (map box_of g) (rw (length-map g box_of) (gather_width limit t o.boxes o.few)) (root_accepted t o.boxes)
      (boxes_accepted_lem g (gather-each limit BoxesAccepted below_accepted t 0 o.boxes)))

  -- ---- each inner child has two children or more
  pub children-number : (t : Tree A) → Fine t → S.children (root_slots place limit t) ≡ length (gather limit t 0)
  unfolding total
  children-number t o =
      slots_total (λ w s. S.children s) (λ c. 1) refl (λ w s. refl) one (place (box_of t) (map child_box (wide_children place limit t 0)))
      (wide_children place limit t 0) (one_to_one t o)
      ∙ ones (wide_children place limit t 0) ∙ children-length place limit t 0
    where
      one : (w : ℕ) (c : Child) (s : Slots w) → S.children (hold c s) ≡ 1 + S.children s
      one w (leaf_child b ps) s = omega arith
      one w (inner_child b t) s = omega arith

      ones : (cs : List Child) → total (λ c. 1) cs ≡ length cs
      ones [] = refl
      ones (c ∷ cs) = omega (arith, ones cs)

  pub two_slots : (v : A) (box : Aabb) (a b : Tree A) → Fine (inner v box a b) → 2 ≤ S.children (root_slots place limit (inner v box a b))
  two_slots v box a b o = rw (children-number (inner v box a b) o) (two-children limit v box a b 0)

  children_branching : (t : Tree A) (i : ℕ) → Fine t → EachChild BranchingChild (wide_children place limit t i)
  unfolding BranchingChild box_of
  children_branching t i o =
      children-each place limit BranchingChild Fine below_fine (λ t o e. tt)
      (λ v box a b o h. (two_slots v box a b o, slots_branching place box (wide_children place limit (inner v box a b) 0) h)) t i o

  pub branching : (t : Tree A) → Fine t → S.Branching (root_slots place limit t)
  branching t o = slots_branching place (box_of t) (wide_children place limit t 0) (children_branching t 0 o)
