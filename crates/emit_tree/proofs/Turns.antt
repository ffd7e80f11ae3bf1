-- The slots that are left of a node, by their words.
use mathlib.Core.Path.{◌≡◌, refl, ap, ap₂, subst, ◌∙◌}
use mathlib.Core.Bool.{Bool, true, false, not, ◌&&◌}
use mathlib.Core.List.{List, [], ◌∷◌, map}
use Prim.Native.Nat.{ℕ, zero, suc, ◌*◌, ◌/◌, ◌≤◌, ◌<◌}
use native.Mathlib.Nat.{zero-add}
use native.Mathlib.Decide.{ℕ_discrete}
use native.Mathlib.Omega.{arith}
use lib.Dec.{eqb}
use lib.ListN.{length, get_or}
use borrow.Author.Tests.{eq-eqb, ne_eqb}
use Rattle.aabb.specs.declared.Aabb.{Aabb}
use Rattle.bvh2.specs.Tree.{Tree, leaf, inner, depth, label_of, box_of}
use Rattle.bvh2.specs.Words.{tree_nodes, box_at}
use Rattle.bvh2.specs.Decoded.{Subtree}
use Rattle.cost.specs.Table.{Kind, LEAF, INTERNAL, DISTRIBUTE, code, table}
use Rattle.cost.proofs.Splits.{leaf_kind}
use Rattle.children.specs.declared.branch.Branch.{Branch}
use Rattle.children.specs.Tabled.{most_edges, subtree_at}
use Rattle.children.specs.Branches.{words_of, decisions_of, subtree_of}
use Rattle.children.specs.Gather.{gather, EachTree}
use Rattle.children.proofs.Deeper.{tree_most}
use Rattle.children.proofs.Gather.{one_child, gather_shallower}
use Rattle.children.proofs.Reread.{Reread, gather_here}
use Rattle.order.specs.Order.{slots_of, placed}
use Rattle.order.specs.Assign as A
use Rattle.order.proofs.Arrays.{eight_at}
use Rattle.wide_layout.specs.Wide.{Slots}
use Rattle.wide_tree.specs.WideTree.{Child, leaf_child, inner_child, filled_slot, slots_from, Placing, child_as, wide_children, root_slots}
use Rattle.wide_tree.proofs.Slots.{held_as, held_at, from_at}
use Rattle.wide_tree.proofs.Gathered.{child_of}
use Rattle.wide_layout.specs.Content.{content_at}
use Rattle.wide_layout.specs.Content as C
use Rattle.emit.specs.Own.{Cell, none, as_leaf, as_node, cell_by, cell_of, Matches}
use Rattle.wide_tree.specs.Ordered.{placing}
use Rattle.emit_tree.specs.Emission.{wide_slots_at, slot_words, EmitNode, is_inner}
use Rattle.emit_tree.proofs.Matching.{kind_says, root_slots_lem, slots_match}
use Rattle.emit_tree.proofs.Rolling.{put}

-- ---- the test of a slot's word
clash : ◌≡◌ {A = ℕ} 0 1 → ⊥
clash e = omega arith

inner_word : (ds : List ℕ) (x : ℕ) → is_inner ds x ≡ true → (x ≡ 0xffff_ffff → ⊥) × (get_or ds (x * 7) 0 / 0x4000_0000 ≡ 0 → ⊥)
unfolding is_inner
inner_word ds x e = (
  (λ z. absurd (no (not (eqb x 0xffff_ffff)) (not (eqb (get_or ds (x * 7) 0 / 0x4000_0000) 0)) (ap not (eq-eqb x 0xffff_ffff z)) e)),
  (λ z. absurd (no' (not (eqb x 0xffff_ffff)) (not (eqb (get_or ds (x * 7) 0 / 0x4000_0000) 0))
      (ap not (eq-eqb (get_or ds (x * 7) 0 / 0x4000_0000) 0 z)) e)),
)
  where
    no : (a b : Bool) → a ≡ false → (a && b) ≡ true → ⊥
    no true true p q = clash cc
    no true false p q = clash cc
    no false b p q = clash cc

    no' : (a b : Bool) → b ≡ false → (a && b) ≡ true → ⊥
    no' true true p q = clash cc
    no' true false p q = clash cc
    no' false b p q = clash cc

other_word : (ds : List ℕ) (x : ℕ) → is_inner ds x ≡ false → (x ≡ 0xffff_ffff → ⊥) → get_or ds (x * 7) 0 / 0x4000_0000 ≡ 0
unfolding is_inner
other_word ds x e n = go (ℕ_discrete (get_or ds (x * 7) 0 / 0x4000_0000) 0)
  where
    go : Dec (get_or ds (x * 7) 0 / 0x4000_0000 ≡ 0) → get_or ds (x * 7) 0 / 0x4000_0000 ≡ 0
    go (yes z) = z
    go (no z) = absurd (both (eqb x 0xffff_ffff) (eqb (get_or ds (x * 7) 0 / 0x4000_0000) 0) (ne_eqb x 0xffff_ffff n)
        (ne_eqb (get_or ds (x * 7) 0 / 0x4000_0000) 0 z) e)
      where
        both : (a b : Bool) → a ≡ false → b ≡ false → (not a && not b) ≡ false → ⊥
        both true b p q r = clash cc
        both false true p q r = clash cc
        both false false p q r = clash cc

-- ---- a word that stands for a node
-- the subtree that it names, with fewer than m edges below it, and what stands in its slot
pub record Below (ws ds : List ℕ) (n limit m : ℕ) (place : Placing) (x : ℕ) (c : C.Content) : Type 0 where
  pub tree : Tree ℕ
  pub label : label_of tree ≡ x
  pub reread : Reread ws ds n limit most_edges tree
  pub shallower : depth tree < m
  pub held : c ≡ C.inner_child (box_of tree) (root_slots place limit tree)

module _ (ws ds : List ℕ) (n limit : ℕ) (place : Placing) (room : tree_nodes n * 7 ≤ length ds) where
  node-held : (t : Tree ℕ) → Reread ws ds n limit most_edges t → is_inner ds (label_of t) ≡ true → held_as (child_of place limit t)
      ≡ C.inner_child (box_of t) (root_slots place limit t)
  node-held t r e = go (table limit t 0).kind (kind_says ws ds n limit place room t r)
    where
      go : (k : Kind) → get_or ds (label_of t * 7) 0 / 0x4000_0000 ≡ code k → held_as (child_as place k t (wide_children place limit t 0))
          ≡ C.inner_child (box_of t) (root_slots place limit t)
      go LEAF z = absurd ((inner_word ds (label_of t) e).1 z)
      go INTERNAL z = refl
      go DISTRIBUTE z = refl

  none_inner : is_inner ds 0xffff_ffff ≡ true → ⊥
  none_inner e = (inner_word ds 0xffff_ffff e).0 refl

  list_below : (m : ℕ) (g : List (Tree ℕ)) → EachTree (Reread ws ds n limit most_edges) g → EachTree (λ t. depth t < m) g → (i : ℕ)
      → is_inner ds (get_or (map label_of g) i 0xffff_ffff) ≡ true
      → Below ws ds n limit m place (get_or (map label_of g) i 0xffff_ffff) (held_at (map (child_of place limit) g) i)
  unfolding EachTree
  list_below m [] h k i e = absurd (none_inner e)
  list_below m (t ∷ g) h k zero e = record { tree = t; label = refl; reread = h.0; shallower = k.0; held = node-held t h.0 e }
  list_below m (t ∷ g) h k (suc i) e = list_below m g h.1 k.1 i e

  -- a leaf's only child is no node
  leaf_below : (v : ℕ) (box : Aabb) (p : ℕ) → Reread ws ds n limit most_edges (leaf v box p) → (i : ℕ)
      → is_inner ds (get_or (map label_of (leaf v box p ∷ [])) i 0xffff_ffff) ≡ true → ⊥
  leaf_below v box p r zero e = (inner_word ds (label_of (leaf v box p)) e).1
      (kind_says ws ds n limit place room (leaf v box p) r ∙ ap code (leaf_kind limit v box p 0))
  leaf_below v box p r (suc i) e = none_inner e

  list_subtree : {d : ℕ} (g : List (Tree ℕ)) → EachTree (Reread ws ds n limit d) g → (i : ℕ)
      → (get_or (map label_of g) i 0xffff_ffff ≡ 0xffff_ffff → ⊥) → Subtree ws n d (get_or (map label_of g) i 0xffff_ffff)
  unfolding EachTree
  list_subtree [] h i z = absurd (z refl)
  list_subtree (t ∷ g) h zero z = h.0.subtree
  list_subtree (t ∷ g) h (suc i) z = list_subtree g h.1 i z

module _ (root : Branch) (n : ℕ) (ordered : Bool) (h : EmitNode root n most_edges) where
  child : ℕ → ℕ
  child k = A.child_of (slots_of ordered (box_of (subtree_of root)) (map box_of (gather h.limit (subtree_of root) 0))) k

  word_at : (k : ℕ) → k < 8 → get_or (slot_words ordered h.limit (subtree_of root)) k 0
      ≡ get_or (map label_of (gather h.limit (subtree_of root) 0)) (child k) 0xffff_ffff
  unfolding slot_words placed child
  word_at k l = eight_at (λ s. get_or (map label_of (gather h.limit (subtree_of root) 0))
      (A.child_of (slots_of ordered (box_of (subtree_of root)) (map box_of (gather h.limit (subtree_of root) 0))) s) 0xffff_ffff) 0 k l

  -- the slots from slot k on
  abbrev pub rest : (k w : ℕ) → Slots w
  rest k w = slots_from (A.child_of (slots_of ordered (box_of (subtree_of root)) (map box_of (gather h.limit (subtree_of root) 0))))
      (map (child_of (placing ordered) h.limit) (gather h.limit (subtree_of root) 0)) k w

  pub rest_all : wide_slots_at root ordered h.limit ≡ rest 0 8
  rest_all = root_slots_lem (placing ordered) h.limit (subtree_of root)

  -- what stands in slot k
  abbrev pub standing : ℕ → C.Content
  standing k = held_at (map (child_of (placing ordered) h.limit) (gather h.limit (subtree_of root) 0))
      (A.child_of (slots_of ordered (box_of (subtree_of root)) (map box_of (gather h.limit (subtree_of root) 0))) k)

  pub rest_next : (k w : ℕ) → rest k (suc w) ≡ put (standing k) (rest (suc k) w)
  unfolding slots_from
  rest_next k w =
      slot_put (map (child_of (placing ordered) h.limit) (gather h.limit (subtree_of root) 0))
      (A.child_of (slots_of ordered (box_of (subtree_of root)) (map box_of (gather h.limit (subtree_of root) 0))) k) (rest (suc k) w)
    where
      slot_put : {w : ℕ} (cs : List Child) (i : ℕ) (s : Slots w) → filled_slot cs i s ≡ put (held_at cs i) s
      slot_put [] i s = refl
      slot_put (leaf_child b ps ∷ cs) zero s = refl
      slot_put (inner_child b u ∷ cs) zero s = refl
      slot_put (c ∷ cs) (suc i) s = slot_put cs i s

  -- the node that a slot's word names reads whole with as many edges as the root
  pub slot_subtree : {d : ℕ} → Subtree (words_of root) n d root.node → (k : ℕ) → k < 8
      → (get_or (slot_words ordered h.limit (subtree_of root)) k 0 ≡ 0xffff_ffff → ⊥)
      → Subtree (words_of root) n d (get_or (slot_words ordered h.limit (subtree_of root)) k 0)
  slot_subtree {d} s k l z =
      let e = word_at k l in
      let q = tree_most s in
      rw e (list_subtree (words_of root) (decisions_of root) n h.limit (placing ordered) h.room (gather h.limit (subtree_of root) 0)
      (rw q (gather_here (words_of root) (decisions_of root) n h.limit d root.node s (rw q at h.holds) 0)) (child k) (λ q. z (e ∙ q)))

  -- and with the most
  pub slot_most : (k : ℕ) → k < 8 → (get_or (slot_words ordered h.limit (subtree_of root)) k 0 ≡ 0xffff_ffff → ⊥)
      → Subtree (words_of root) n most_edges (get_or (slot_words ordered h.limit (subtree_of root)) k 0)
  slot_most = slot_subtree h.tree

  -- a word that stands for a node
  pub slot_below : (k : ℕ) → k < 8 → is_inner (decisions_of root) (get_or (slot_words ordered h.limit (subtree_of root)) k 0) ≡ true
      → Below (words_of root) (decisions_of root) n h.limit (depth (subtree_of root)) (placing ordered) (get_or
      (slot_words ordered h.limit (subtree_of root)) k 0) (standing k)
  unfolding child EachTree
  slot_below k l e = go (subtree_of root) refl
    where
      each : EachTree (Reread (words_of root) (decisions_of root) n h.limit most_edges) (gather h.limit (subtree_of root) 0)
      each = gather_here (words_of root) (decisions_of root) n h.limit most_edges root.node h.tree h.holds 0

      go : (u : Tree ℕ) → subtree_of root ≡ u
          → Below (words_of root) (decisions_of root) n h.limit (depth (subtree_of root)) (placing ordered) (get_or (slot_words ordered h.limit
          (subtree_of root)) k 0) (standing k)
      go (leaf x box p) q =
          let g : gather h.limit (subtree_of root) 0
          ≡ leaf x box p ∷ [] = ap (λ (u : Tree ℕ). gather h.limit u 0) q ∙ one_child h.limit x box p 0 in
          let r : EachTree (Reread (words_of root) (decisions_of root) n h.limit most_edges) (leaf x box p ∷ []) = rw g at each in
          absurd (leaf_below (words_of root) (decisions_of root) n h.limit (placing ordered) h.room x box p r.0 (child k)
          (subst (λ (xs : List (Tree ℕ)). is_inner (decisions_of root) (get_or (map label_of xs) (child k) 0xffff_ffff) ≡ true) g
          (subst (λ (y : ℕ). is_inner (decisions_of root) y ≡ true) (word_at k l) e)))
      go (inner x box a b) q =
          let f : EachTree (λ t. depth t < depth (subtree_of root)) (gather h.limit (subtree_of root) 0)
          = rw q (gather_shallower h.limit x box a b 0) in
          rw (word_at k l) (list_below (words_of root) (decisions_of root) n h.limit (placing ordered) h.room (depth (subtree_of root))
          (gather h.limit (subtree_of root) 0) each f (child k)
          (subst (λ (y : ℕ). is_inner (decisions_of root) y ≡ true) (word_at k l) e))

  -- a word that does not
  pub slot_other : (k : ℕ) → k < 8 → is_inner (decisions_of root) (get_or (slot_words ordered h.limit (subtree_of root)) k 0) ≡ false
      → (b : Aabb) (s : Slots 8)
      → standing k ≡ C.inner_child b s → ⊥
  unfolding Matches cell_of
  slot_other k l e b s q =
      matched (get_or (slot_words ordered h.limit (subtree_of root)) k 0) e
      (subst (λ (c : C.Content). Matches (cell_of (words_of root) (decisions_of root) most_edges (get_or (slot_words ordered h.limit
      (subtree_of root)) k 0)) c)
      (ap (λ (r : Slots 8). content_at r k) rest_all ∙ from_at
      (A.child_of (slots_of ordered (box_of (subtree_of root)) (map box_of (gather h.limit (subtree_of root) 0))))
      (map (child_of (placing ordered) h.limit) (gather h.limit (subtree_of root) 0)) 0 8 k l ∙ ap standing (zero-add k) ∙ q)
      (slots_match root n ordered h k l))
    where
      differ : (c : Cell) (x : ℕ) → c ≡ none → Matches c (C.inner_child b s) → ⊥
      differ none x p m = clash cc
      differ (as_leaf c u) x p m = clash cc
      differ (as_node c) x p m = clash cc

      differ' : (c : Cell) (y : Aabb) (z : Tree ℕ) → c ≡ as_leaf y z → Matches c (C.inner_child b s) → ⊥
      differ' none y z p m = clash cc
      differ' (as_leaf c u) y z p m = clash cc
      differ' (as_node c) y z p m = clash cc

      matched : (x : ℕ) → is_inner (decisions_of root) x ≡ false
          → Matches (cell_of (words_of root) (decisions_of root) most_edges x) (C.inner_child b s) → ⊥
      matched x f m = go (ℕ_discrete x 0xffff_ffff)
        where
          go : Dec (x ≡ 0xffff_ffff) → ⊥
          go (yes z) = differ (cell_of (words_of root) (decisions_of root) most_edges x) x (ap (λ (a : Bool). cell_by a (get_or (decisions_of root)
              (x * 7) 0 / 0x4000_0000) (box_at (words_of root) x) (subtree_at (words_of root) x))
              (eq-eqb x 0xffff_ffff z)) m
          go (no z) = differ' (cell_of (words_of root) (decisions_of root) most_edges x) (box_at (words_of root) x) (subtree_at (words_of root) x)
              (ap₂ (λ (a : Bool) (j : ℕ). cell_by a j (box_at (words_of root) x) (subtree_at (words_of root) x)) (ne_eqb x 0xffff_ffff z)
              (other_word (decisions_of root) x f z)) m
