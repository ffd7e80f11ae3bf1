-- Every box of a wide tree is one of the binary tree's, so what holds of all of those holds of it.
use mathlib.Core.List.{List, map}
use Prim.Native.Nat.{ℕ}
use Rattle.aabb.specs.declared.Aabb.{Aabb}
use Rattle.bvh2.specs.Tree.{Tree, leaf, inner, box_of}
use Rattle.wide_layout.specs.Wide.{Slots, end, empty}
use Rattle.wide_layout.specs.Wide as W
use Rattle.wide_tree.specs.WideTree.{Child, leaf_child, inner_child, child_box, hold, Placing, filled_slots, wide_children, root_slots}
use Rattle.wide_tree.proofs.Slots.{EachChild, slots_each}
use Rattle.wide_tree.proofs.WideTree.{children-each}

-- every box of a binary tree
unfoldable pub EachBox : {A : Type 0} → (Aabb → Type 0) → Tree A → Type 0
EachBox P (leaf v b p) = P b
EachBox P (inner v b l r) = P b × EachBox P l × EachBox P r

-- the boxes of the children, here and further down
unfoldable pub EachSlotBox : {w : ℕ} → (Aabb → Type 0) → Slots w → Type 0
EachSlotBox P end = Unit {0}
EachSlotBox P (empty s) = EachSlotBox P s
EachSlotBox P (W.leaf b ps s) = P b × EachSlotBox P s
EachSlotBox P (W.inner b t s) = P b × EachSlotBox P t × EachSlotBox P s

module _ (P : Aabb → Type 0) where
  ChildBoxes : Child → Type 0
  ChildBoxes (leaf_child b ps) = P b
  ChildBoxes (inner_child b s) = P b × EachSlotBox P s

  root_box : {A : Type 0} (t : Tree A) → EachBox P t → P (box_of t)
  unfolding EachBox box_of
  root_box (leaf v b p) h = h
  root_box (inner v b l r) h = h.0

  below_boxes : {A : Type 0} (v : A) (box : Aabb) (a b : Tree A) → EachBox P (inner v box a b) → EachBox P a × EachBox P b
  unfolding EachBox
  below_boxes v box a b h = (h.1, h.2)

  slots_boxes : (place : Placing) (box : Aabb) (cs : List Child) → EachChild ChildBoxes cs → EachSlotBox P (filled_slots place box cs)
  unfolding EachSlotBox ChildBoxes
  slots_boxes place box cs h = slots_each (λ w s. EachSlotBox P s) ChildBoxes tt (λ w s q. q) holds (place box (map child_box cs)) cs 0 8 h
    where
      holds : (w : ℕ) (c : Child) (s : Slots w) → ChildBoxes c → EachSlotBox P s → EachSlotBox P (hold c s)
      holds w (leaf_child b ps) s k q = (k, q)
      holds w (inner_child b t) s k q = (k.0, k.1, q)

  children_boxes : {A : Type 0} (place : Placing) (limit : ℕ) (t : Tree A) (i : ℕ) → EachBox P t
      → EachChild ChildBoxes (wide_children place limit t i)
  unfolding ChildBoxes box_of
  children_boxes place limit t i h =
      children-each place limit ChildBoxes (EachBox P) below_boxes (λ t o e. root_box t o)
      (λ v box a b o k. (root_box (inner v box a b) o, slots_boxes place box (wide_children place limit (inner v box a b) 0) k)) t i h

  pub wide_boxes : {A : Type 0} (place : Placing) (limit : ℕ) (t : Tree A) → EachBox P t → P (box_of t) × EachSlotBox P (root_slots place limit t)
  wide_boxes place limit t h = (root_box t h, slots_boxes place (box_of t) (wide_children place limit t 0) (children_boxes place limit t 0 h))
