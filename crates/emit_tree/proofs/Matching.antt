-- The words of a node's slots say what stands in the slots of the wide node that it becomes.
use mathlib.Core.Path.{◌≡◌, refl, sym, ap, ap₂, subst, ◌∙◌}
use mathlib.Core.Bool.{Bool}
use mathlib.Core.List.{List, [], ◌∷◌, map}
use Prim.Native.Nat.{ℕ, zero, suc, ◌*◌, ◌/◌, ◌≤◌, ◌<◌}
use native.Mathlib.Nat.{add-zero, zero-add}
use native.Mathlib.Omega.{arith}
use lib.ListN.{length, get_or}
use Rattle.aabb.specs.declared.Aabb.{Aabb}
use Rattle.bvh2.specs.Tree.{Tree, label_of, box_of, positions}
use Rattle.bvh2.specs.Words.{tree_nodes, box_at, tree_at}
use Rattle.bvh2.proofs.Reading.{box_is}
use Rattle.bvh2.proofs.Subtree.{node}
use Rattle.cost.specs.Table.{Kind, LEAF, INTERNAL, DISTRIBUTE, code, table, word_of}
use Rattle.cost.specs.Rows.{RowsHold}
use Rattle.children.specs.declared.branch.Branch.{Branch}
use Rattle.children.specs.Tabled.{most_edges}
use Rattle.children.specs.Branches.{words_of, decisions_of, subtree_of}
use Rattle.children.specs.Gather.{gather, EachTree}
use Rattle.children.proofs.Steps.{says}
use Rattle.children.proofs.Reread.{Reread, gather_here}
use Rattle.order.specs.Order.{slots_of, placed}
use Rattle.order.specs.Assign as A
use Rattle.order.proofs.Arrays.{eight_at}
use Rattle.wide_layout.specs.Wide.{Slots}
use Rattle.wide_tree.specs.WideTree.{Child, slots_from, Placing, child_as, wide_children, root_slots}
use Rattle.wide_tree.proofs.Slots.{held_as, held_at, from_at}
use Rattle.wide_tree.proofs.Gathered.{child_of, children_gathered, children_boxes}
use Rattle.wide_layout.specs.Content.{content_at}
use Rattle.wide_layout.specs.Content as C
use Rattle.emit.specs.Own.{Cell, cell_of, Matches}
use Rattle.emit.proofs.OwnSteps.{cell_none, cell_leaf, cell_node}
use Rattle.wide_tree.specs.Ordered.{placing}
use Rattle.emit_tree.specs.Emission.{wide_slots_at, slot_words, EmitNode}

-- ---- a gathered node's word says what it becomes
module _ (ws ds : List ℕ) (n limit : ℕ) (place : Placing) (room : tree_nodes n * 7 ≤ length ds) where
  pub kind_says : {d : ℕ} (t : Tree ℕ) → Reread ws ds n limit d t → get_or ds (label_of t * 7) 0 / 0x4000_0000 ≡ code (table limit t 0).kind
  kind_says {d} t r =
      let held : RowsHold (word_of limit) 0 ds (tree_at ws d (label_of t)) = rw r.tree r.holds in
      ap (λ (x : ℕ). get_or ds x 0 / 0x4000_0000) (sym (add-zero (label_of t * 7)))
      ∙ (says {ws = ws} {ds = ds} {d = d} {v = label_of t} (record { n = n; tree = r.subtree; room = room; limit = limit; holds = held }) limit held
      0 (omega arith)).kind
      ∙ ap (λ (x : Tree ℕ). code (table limit x 0).kind) r.tree

  pub box_says : {d : ℕ} (t : Tree ℕ) → Reread ws ds n limit d t → box_at ws (label_of t) ≡ box_of t
  box_says {d} t r = sym (box_is ws d (label_of t)) ∙ ap box_of r.tree

  pub a_node : {d : ℕ} (t : Tree ℕ) → Reread ws ds n limit d t → label_of t ≡ 0xffff_ffff → ⊥
  a_node t r e = let k = node r.subtree in omega (arith, k.below, r.subtree.few)

  cell_matches : {d : ℕ} (t : Tree ℕ) → Reread ws ds n limit d t → Matches (cell_of ws ds d (label_of t)) (held_as (child_of place limit t))
  unfolding Matches
  cell_matches {d} t r = go (table limit t 0).kind (kind_says t r)
    where
      go : (k : Kind) → get_or ds (label_of t * 7) 0 / 0x4000_0000 ≡ code k
          → Matches (cell_of ws ds d (label_of t)) (held_as (child_as place k t (wide_children place limit t 0)))
      go LEAF e =
          subst (λ (c : Cell). Matches c (C.leaf_child (box_of t) (positions t))) (sym (cell_leaf ws ds d (label_of t) (a_node t r) e))
          (ap₂ (λ (b : Aabb) (x : Tree ℕ). C.leaf_child b (positions x)) (sym (box_says t r)) (sym r.tree))
      go INTERNAL e =
          subst (λ (c : Cell). Matches c (held_as (child_as place INTERNAL t (wide_children place limit t 0))))
          (sym (cell_node ws ds d (label_of t) (a_node t r) (λ z. omega (arith, e, z))))
          (root_slots place limit t, ap (λ (b : Aabb). C.inner_child b (root_slots place limit t)) (sym (box_says t r)))
      go DISTRIBUTE e =
          subst (λ (c : Cell). Matches c (held_as (child_as place DISTRIBUTE t (wide_children place limit t 0))))
          (sym (cell_node ws ds d (label_of t) (a_node t r) (λ z. omega (arith, e, z))))
          (root_slots place limit t, ap (λ (b : Aabb). C.inner_child b (root_slots place limit t)) (sym (box_says t r)))

  list_matches : (d : ℕ) (g : List (Tree ℕ)) → EachTree (Reread ws ds n limit d) g → (i : ℕ)
      → Matches (cell_of ws ds d (get_or (map label_of g) i 0xffff_ffff)) (held_at (map (child_of place limit) g) i)
  unfolding EachTree Matches
  list_matches d [] h i = subst (λ (c : Cell). Matches c C.none) (sym (cell_none ws ds d 0xffff_ffff refl)) refl
  list_matches d (t ∷ g) h zero = cell_matches t h.0
  list_matches d (t ∷ g) h (suc i) = list_matches d g h.1 i

-- ---- all slots
pub root_slots_lem : (place : Placing) (limit : ℕ) (t : Tree ℕ) → root_slots place limit t
    ≡ slots_from (place (box_of t) (map box_of (gather limit t 0))) (map (child_of place limit) (gather limit t 0)) 0 8
root_slots_lem place limit t = ap₂ (λ (bs : List Aabb) (cs : List Child). slots_from (place (box_of t) bs) cs 0 8) (children_boxes place limit t 0)
    (children_gathered place limit t 0)

pub slots_match : (root : Branch) (n : ℕ) (ordered : Bool) (h : EmitNode root n most_edges) (k : ℕ) → k < 8
    → Matches (cell_of (words_of root) (decisions_of root) most_edges (get_or (slot_words ordered h.limit (subtree_of root)) k 0)) (content_at
    (wide_slots_at root ordered h.limit) k)
unfolding slot_words placed
slots_match root n ordered h k l =
    let t = subtree_of root in
    let g = gather h.limit t 0 in
    let child = A.child_of (slots_of ordered (box_of t) (map box_of g)) in
    let e = eight_at (λ s. get_or (map label_of g) (child s) 0xffff_ffff) 0 k l in
    let f = ap (λ (s : Slots 8). content_at s k) (root_slots_lem (placing ordered) h.limit t) ∙ from_at child
    (map (child_of (placing ordered) h.limit) g) 0 8 k l
    ∙ ap (λ (i : ℕ). held_at (map (child_of (placing ordered) h.limit) g) (child i)) (zero-add k) in
    rw (e, f) (list_matches (words_of root) (decisions_of root) n h.limit (placing ordered) h.room most_edges g
    (gather_here (words_of root) (decisions_of root) n h.limit most_edges root.node h.tree h.holds 0) (child k))
