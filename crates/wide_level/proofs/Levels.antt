-- The levels found by the decisions are those of the wide tree, however its children go to slots.
use mathlib.Core.Path.{◌≡◌, refl, sym, ap, ap₂, ◌∙◌}
use mathlib.Core.List.{List, [], ◌∷◌, map}
use Prim.Native.Nat.{ℕ, suc, max}
use native.Mathlib.Omega.{arith}
use Rattle.bvh2.specs.Tree.{Tree, leaf, inner, box_of}
use Rattle.cost.specs.Table.{Kind, LEAF, INTERNAL, DISTRIBUTE, Decision, table}
use Rattle.cost.proofs.Splits.{leaf_distribute, not_distribute}
use Rattle.wide_layout.specs.Sizes.{levels_below}
use Rattle.wide_layout.specs.Layout.{level}
use Rattle.wide_tree.specs.WideTree.{Child, child_box, Placing, filled_slots, child_as, contributed, wide_children, root_slots, wide_of}
use Rattle.wide_tree.proofs.Gathered.{child_of, share}
use Rattle.wide_tree.proofs.WideTree.{Places, Fine, below_fine, one_to_one}
use Rattle.wide_level.specs.Levels.{added_as, levels, added}
use Rattle.wide_level.proofs.Deepest.{deepest, deepest_one, deepest_append, slots_deepest}

-- the same splits, the same levels
same_splits : {A : Type 0} (limit : ℕ) (t : Tree A) (i j : ℕ) → table limit t i ≡ table limit t j → levels limit t i ≡ levels limit t j
unfolding levels
same_splits limit (leaf v box p) i j e = refl
same_splits limit (inner v box a b) i j e = rw e

module _ {A : Type 0} (place : Placing) (limit : ℕ) (places : Places place) where
  slots_levels : (t : Tree A) → Fine t → deepest (wide_children place limit t 0) ≡ levels limit t 0 → levels_below (root_slots place limit t)
      ≡ levels limit t 0
  slots_levels t o h = slots_deepest (place (box_of t) (map child_box (wide_children place limit t 0))) (wide_children place limit t 0)
      (one_to_one place limit places t o) ∙ h

  -- a child by its decision at entry 0
  child_levels_lem : (t : Tree A) (k : Kind) (cs : List Child) (n : ℕ) → (k ≡ DISTRIBUTE → ⊥) → levels_below (filled_slots place (box_of t) cs) ≡ n
      → deepest (child_as place k t cs ∷ []) ≡ added_as k n
  child_levels_lem t LEAF cs n u h = deepest_one (child_as place LEAF t cs)
  child_levels_lem t INTERNAL cs n u h = deepest_one (child_as place INTERNAL t cs) ∙ ap suc h
  child_levels_lem t DISTRIBUTE cs n u h = absurd (u refl)

  -- what a binary node contributes at entry i
  share_levels : (t : Tree A) (i : ℕ) → Fine t → deepest (wide_children place limit t 0) ≡ levels limit t 0 → deepest (wide_children place limit t i)
      ≡ levels limit t i
      → deepest (share place limit t i) ≡ added limit t i
  share_levels t i o h k = go (table limit t i).kind refl
    where
      alone : (x : Kind) → (x ≡ DISTRIBUTE → ⊥) → (table limit t i).kind ≡ x → deepest (child_of place limit t ∷ []) ≡ added_as x (levels limit t i)
      alone x u e =
          let q = not_distribute limit t i (λ z. u (sym e ∙ z)) in
          let r : (table limit t 0).kind ≡ x = ap (λ (d : Decision). d.kind) (sym q) ∙ e in
          rw (r, same_splits limit t i 0 q) (child_levels_lem t x (wide_children place limit t 0) (levels limit t 0) u (slots_levels t o h))

      go : (x : Kind) → (table limit t i).kind ≡ x → deepest (contributed x (child_of place limit t) (wide_children place limit t i))
          ≡ added_as x (levels limit t i)
      go LEAF e = alone LEAF leaf_distribute e
      go INTERNAL e = alone INTERNAL (λ z. let y : ◌≡◌ {A = ℕ} 0 1 = cc in omega arith) e
      go DISTRIBUTE e = k

  children-levels : (t : Tree A) (i : ℕ) → Fine t → deepest (wide_children place limit t i) ≡ levels limit t i
  unfolding wide_children levels deepest
  children-levels (leaf v box p) i o = omega arith
  children-levels (inner v box a b) i o =
      let d = table limit (inner v box a b) i in
      let q = below_fine v box a b o in
      deepest_append (share place limit a d.left) (share place limit b d.right)
      ∙ ap₂ (λ (m n : ℕ). max m n) (share_levels a d.left q.0 (children-levels a 0 q.0) (children-levels a d.left q.0))
      (share_levels b d.right q.1 (children-levels b 0 q.1) (children-levels b d.right q.1))

  -- the deepest level of the wide tree
  pub wide_level : (t : Tree A) → Fine t → level (wide_of place limit t) ≡ levels limit t 0
  unfolding wide_of
  wide_level t o = slots_levels t o (children-levels t 0 o)
