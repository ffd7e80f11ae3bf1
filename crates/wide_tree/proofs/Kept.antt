-- Which child stands in which slot alters neither what is met of a wide tree nor how many nodes are reached (02, [6]).
use mathlib.Core.Bool.{Bool, cond}
use mathlib.Core.List.Perm
use mathlib.Core.List.{List, map, Perm}
use mathlib.Core.Path.{◌≡◌, refl, sym, ap₂, ◌∙◌}
use Prim.Native.Nat.{ℕ, ◌+◌}
use native.Mathlib.Omega.{arith}
use lib.ListN.{length}
use Rattle.std.specs.List.{filter}
use Rattle.lists.specs.Counts.{count}
use Rattle.lists.proofs.Counts.{count-append}
use Rattle.lists.proofs.Perms.{counts_perm}
use Rattle.aabb.specs.declared.Aabb.{Aabb}
use Rattle.bvh2.specs.Tree.{Tree, leaf, inner, box_of}
use Rattle.cost.specs.Table.{Kind, LEAF, INTERNAL, DISTRIBUTE, table}
use Rattle.wide_layout.specs.Wide.{Slots}
use Rattle.wide_layout.specs.Sizes.{slots_positions}
use Rattle.wide_layout.specs.Layout.{nodes}
use Rattle.wide_layout.specs.Kept.{kept, met_below, reached_below}
use Rattle.wide_layout.proofs.Kept.{always, reached_all, met_measure, share}
use Rattle.wide_tree.specs.WideTree.{Child, leaf_child, inner_child, child_box, hold, Placing, filled_slots, child_as, contributed, wide_children}
use Rattle.wide_tree.specs.WideTree.{root_slots, wide_of}
use Rattle.wide_tree.proofs.Slots.{OneToOne, held_as, total, total_append, slots_total}
use Rattle.wide_tree.proofs.Gathered.{child_of}
use Rattle.wide_tree.proofs.Gathered as G
use Rattle.wide_tree.proofs.WideTree.{Fine, below_fine, Places, one_to_one}
use Rattle.wide_tree.proofs.Positions.{wide_positions}

-- a test of children to which the order of the positions below makes no difference
abbrev pub Stable : (Aabb → Aabb → List ℕ → Bool) → Type 0
Stable keep = (b c : Aabb) (ps qs : List ℕ) → Perm ps qs → keep b c ps ≡ keep b c qs

module _ (keep : Aabb → Aabb → List ℕ → Bool) (stable : Stable keep) where
  module _ (of_leaf : List ℕ → ℕ) (of_inner : ℕ) where
    -- what slots give below a box, and what a child gives
    abbrev below : {w : ℕ} → Aabb → Slots w → ℕ
    below b s = kept keep 0 ◌+◌ of_leaf of_inner b s

    abbrev of_child : Aabb → Child → ℕ
    of_child b c = share keep of_leaf of_inner b (held_as c)

    slots_kept : (b : Aabb) (place : Placing) (box : Aabb) (cs : List Child) → OneToOne (length cs) (place box (map child_box cs))
        → below b (filled_slots place box cs) ≡ total (of_child b) cs
    unfolding kept share
    slots_kept b place box cs h = slots_total (λ w s. below b s) (of_child b) refl (λ w s. refl) holds (place box (map child_box cs)) cs h
      where
        holds : (w : ℕ) (c : Child) (s : Slots w) → below b (hold c s) ≡ of_child b c + below b s
        holds w (leaf_child c ps) s = refl
        holds w (inner_child c t) s = refl

    contributed_alike : (b : Aabb) (k : Kind) (c d : Child) (cs ds : List Child) → of_child b c ≡ of_child b d
        → total (of_child b) cs ≡ total (of_child b) ds → total (of_child b) (contributed k c cs) ≡ total (of_child b) (contributed k d ds)
    unfolding total
    contributed_alike b LEAF c d cs ds e h = omega arith
    contributed_alike b INTERNAL c d cs ds e h = omega arith
    contributed_alike b DISTRIBUTE c d cs ds e h = h

    module _ {A : Type 0} (limit : ℕ) (p q : Placing) (places : Places p) (others : Places q) where
      -- a tree's children give the same by either placing
      abbrev Alike : Tree A → ℕ → Type 0
      Alike t i = (b : Aabb) → total (of_child b) (wide_children p limit t i) ≡ total (of_child b) (wide_children q limit t i)

      -- so do its slots
      root_alike : (t : Tree A) → Fine t → Alike t 0 → (b : Aabb) → below b (root_slots p limit t) ≡ below b (root_slots q limit t)
      root_alike t o h b =
          slots_kept b p (box_of t) (wide_children p limit t 0) (one_to_one p limit places t o)
          ∙ h b ∙ sym (slots_kept b q (box_of t) (wide_children q limit t 0) (one_to_one q limit others t o))

      -- and it as a child
      child_alike : (t : Tree A) → Fine t → Alike t 0 → (b : Aabb) → of_child b (child_of p limit t) ≡ of_child b (child_of q limit t)
      unfolding share
      child_alike t o h b = go (table limit t 0).kind
        where
          inside : cond (keep b (box_of t) (slots_positions (root_slots p limit t))) (of_inner + below (box_of t) (root_slots p limit t)) 0
              ≡ cond (keep b (box_of t) (slots_positions (root_slots q limit t))) (of_inner + below (box_of t) (root_slots q limit t)) 0
          inside =
              ap₂ (λ (k : Bool) (m : ℕ). cond k (of_inner + m) 0)
              (stable b (box_of t) _ _ (Perm.trans (wide_positions p limit places t o) (Perm.symm (wide_positions q limit others t o))))
              (root_alike t o h (box_of t))

          go : (k : Kind) → of_child b (child_as p k t (wide_children p limit t 0)) ≡ of_child b (child_as q k t (wide_children q limit t 0))
          go LEAF = refl
          go INTERNAL = inside
          go DISTRIBUTE = inside

      children_alike : (t : Tree A) (i : ℕ) → Fine t → Alike t i
      unfolding wide_children
      children_alike (leaf v box x) i o b = refl
      children_alike (inner v box l r) i o b =
          let d = table limit (inner v box l r) i in
          let f = below_fine v box l r o in
          total_append (of_child b) (G.share p limit l d.left) (G.share p limit r d.right)
          ∙ ap₂ ◌+◌
          (contributed_alike b (table limit l d.left).kind (child_of p limit l) (child_of q limit l) (wide_children p limit l d.left)
          (wide_children q limit l d.left) (child_alike l f.0 (children_alike l 0 f.0) b) (children_alike l d.left f.0 b))
          (contributed_alike b (table limit r d.right).kind (child_of p limit r) (child_of q limit r) (wide_children p limit r d.right)
          (wide_children q limit r d.right) (child_alike r f.1 (children_alike r 0 f.1) b) (children_alike r d.right f.1 b))
          ∙ sym (total_append (of_child b) (G.share q limit l d.left) (G.share q limit r d.right))

      pub kept_any_placing : (t : Tree A) → Fine t → (b : Aabb) → below b (root_slots p limit t) ≡ below b (root_slots q limit t)
      kept_any_placing t o b = root_alike t o (children_alike t 0 o) b

-- the two wide trees have as many nodes
pub nodes_any_placing : {A : Type 0} (limit : ℕ) (p q : Placing) (places : Places p) (others : Places q) (t : Tree A) → Fine t
    → nodes (wide_of p limit t) ≡ nodes (wide_of q limit t)
unfolding wide_of
nodes_any_placing limit p q places others t o =
    omega (
      arith,
      reached_all (box_of t) (root_slots p limit t),
      reached_all (box_of t) (root_slots q limit t),
      kept_any_placing always (λ b c ps qs h. refl) (λ ps. 0) 1 limit p q places others t o (box_of t),
    )

module _ (keep : Aabb → Aabb → List ℕ → Bool) (stable : Stable keep) {A : Type 0} (limit : ℕ) (p q : Placing) (places : Places p)
    (others : Places q) (t : Tree A) (o : Fine t) (b : Aabb) where
  -- the same positions are met, each as often,
  pub met_any_placing : (own : ℕ → Bool) → Perm (met_below keep own b (root_slots p limit t)) (met_below keep own b (root_slots q limit t))
  unfolding count
  met_any_placing own = (counts_perm (met_below keep own b (root_slots p limit t)) (met_below keep own b (root_slots q limit t))).1 each
    where
      each : (x : ℕ) → count x (met_below keep own b (root_slots p limit t)) ≡ count x (met_below keep own b (root_slots q limit t))
      each x =
          met_measure keep own (count x) refl (count-append x) b (root_slots p limit t)
          ∙ kept_any_placing keep stable (λ ps. count x (filter own ps)) 0 limit p q places others t o b
          ∙ sym (met_measure keep own (count x) refl (count-append x) b (root_slots q limit t))

  -- and as many nodes are reached
  pub reached_any_placing : reached_below keep b (root_slots p limit t) ≡ reached_below keep b (root_slots q limit t)
  reached_any_placing = kept_any_placing keep stable (λ ps. 0) 1 limit p q places others t o b
