-- The children of a wide node are the gathered subtrees, each as a child; labels do not matter.
use mathlib.Core.Path.{◌≡◌, refl, sym, ap, ap₂, ◌∙◌}
use mathlib.Core.List.{List, [], ◌∷◌, ◌++◌, map, map-append}
use Prim.Native.Nat.{ℕ}
use lib.ListN.{length, length-map}
use Rattle.aabb.specs.declared.Aabb.{Aabb}
use Rattle.bvh2.specs.Tree.{Tree, leaf, inner, box_of, positions, relabel}
use Rattle.bvh2.proofs.Moved.{box_relabel, positions-relabel}
use Rattle.cost.specs.Table.{Kind, LEAF, INTERNAL, DISTRIBUTE, table}
use Rattle.cost.proofs.Labels.{table-relabel}
use Rattle.children.specs.Gather.{opened, gather, part}
use Rattle.wide_tree.specs.WideTree.{Child, leaf_child, child_box, Placing, filled_slots, child_as, contributed, wide_children, root_slots, wide_of}

-- a gathered subtree as a child
abbrev pub child_of : {A : Type 0} → Placing → ℕ → Tree A → Child
child_of place limit t = child_as place (table limit t 0).kind t (wide_children place limit t 0)

-- what a binary node contributes at entry i
abbrev pub share : {A : Type 0} → Placing → ℕ → Tree A → ℕ → List Child
share place limit t i = contributed (table limit t i).kind (child_of place limit t) (wide_children place limit t i)

part-children : {A : Type 0} (place : Placing) (limit : ℕ) (k : Kind) (t : Tree A) (g : List (Tree A)) (cs : List Child) → cs
    ≡ map (child_of place limit) g
    → contributed k (child_of place limit t) cs ≡ map (child_of place limit) (opened k t g)
part-children place limit LEAF t g cs e = refl
part-children place limit INTERNAL t g cs e = refl
part-children place limit DISTRIBUTE t g cs e = e

module _ {A : Type 0} (place : Placing) (limit : ℕ) where
  leaf_child_lem : (v : A) (box : Aabb) (p : ℕ) → child_of place limit (leaf v box p) ≡ leaf_child box (p ∷ [])
  unfolding table box_of positions
  leaf_child_lem v box p = refl

  pub children_gathered : (t : Tree A) (i : ℕ) → wide_children place limit t i ≡ map (child_of place limit) (gather limit t i)
  unfolding wide_children gather
  children_gathered (leaf v box p) i = ap (λ (c : Child). c ∷ []) (sym (leaf_child_lem v box p))
  children_gathered (inner v box a b) i =
      let d = table limit (inner v box a b) i in
      ap₂ (λ (x y : List Child). x ++ y)
      (part-children place limit (table limit a d.left).kind a (gather limit a d.left) (wide_children place limit a d.left)
      (children_gathered a d.left))
      (part-children place limit (table limit b d.right).kind b (gather limit b d.right) (wide_children place limit b d.right)
      (children_gathered b d.right))
      ∙ sym (map-append (child_of place limit) (part limit a d.left) (part limit b d.right))

  child_box_lem : (k : Kind) (t : Tree A) (cs : List Child) → child_box (child_as place k t cs) ≡ box_of t
  child_box_lem LEAF t cs = refl
  child_box_lem INTERNAL t cs = refl
  child_box_lem DISTRIBUTE t cs = refl

  boxes_of : (g : List (Tree A)) → map child_box (map (child_of place limit) g) ≡ map box_of g
  boxes_of [] = refl
  boxes_of (t ∷ g) = ap₂ (λ (x : Aabb) (y : List Aabb). x ∷ y) (child_box_lem (table limit t 0).kind t (wide_children place limit t 0)) (boxes_of g)

  -- their boxes, and how many they are
  pub children_boxes : (t : Tree A) (i : ℕ) → map child_box (wide_children place limit t i) ≡ map box_of (gather limit t i)
  children_boxes t i = ap (map child_box) (children_gathered t i) ∙ boxes_of (gather limit t i)

  pub children-length : (t : Tree A) (i : ℕ) → length (wide_children place limit t i) ≡ length (gather limit t i)
  children-length t i = ap length (children_gathered t i) ∙ length-map (gather limit t i) (child_of place limit)

  -- the slots of the wide node that a tree becomes, by what is gathered
  pub slots_gathered : (t : Tree A) → root_slots place limit t ≡ filled_slots place (box_of t) (map (child_of place limit) (gather limit t 0))
  slots_gathered t = ap (filled_slots place (box_of t)) (children_gathered t 0)

-- ---- other labels
child_relabel : {A B : Type 0} (place : Placing) (limit : ℕ) (f : A → B) (t : Tree A) (k : Kind) (cs : List Child)
    → child_as place k (relabel f t) cs ≡ child_as place k t cs
child_relabel place limit f t LEAF cs = rw (box_relabel f t, positions-relabel f t)
child_relabel place limit f t INTERNAL cs = rw (box_relabel f t)
child_relabel place limit f t DISTRIBUTE cs = rw (box_relabel f t)

pub children-relabel : {A B : Type 0} (place : Placing) (limit : ℕ) (f : A → B) (t : Tree A) (i : ℕ) → wide_children place limit (relabel f t) i
    ≡ wide_children place limit t i
unfolding wide_children relabel
children-relabel place limit f (leaf v box p) i = refl
children-relabel place limit f (inner v box a b) i =
    let d = table limit (inner v box a b) i in
    rw (table-relabel limit f (inner v box a b) i)
    (ap₂ (λ (x y : List Child). x ++ y)
    (same a d.left (children-relabel place limit f a d.left) (children-relabel place limit f a 0))
    (same b d.right (children-relabel place limit f b d.right) (children-relabel place limit f b 0)))
  where
    same : (t : _) (j : ℕ) → wide_children place limit (relabel f t) j ≡ wide_children place limit t j → wide_children place limit (relabel f t) 0
        ≡ wide_children place limit t 0
        → share place limit (relabel f t) j ≡ share place limit t j
    same t j p q = rw (
      table-relabel limit f t j,
      table-relabel limit f t 0,
      p,
      q,
      child_relabel place limit f t (table limit t 0).kind
          (wide_children place limit t 0),
    )

-- a wide tree holds no label
pub wide_relabel : {A B : Type 0} (place : Placing) (limit : ℕ) (f : A → B) (t : Tree A) → wide_of place limit (relabel f t) ≡ wide_of place limit t
unfolding wide_of
wide_relabel place limit f t = rw (children-relabel place limit f t 0, box_relabel f t)
