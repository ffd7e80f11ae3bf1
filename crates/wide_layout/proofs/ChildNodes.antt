-- The node of an inner child: it stands at its parent's child_base plus its rank, with the child's box and slots, one level deeper.
use mathlib.Core.List.{List}
use mathlib.Core.Path.{◌≡◌, refl, ap, ◌∙◌, subst}
use Prim.Native.Nat.{ℕ, zero, suc, ◌+◌, ◌<◌}
use native.Mathlib.Omega.{arith}
use Rattle.aabb.specs.declared.Aabb.{Aabb}
use Rattle.wide_layout.specs.Wide.{Slots, end, empty, leaf, inner, Wide}
use Rattle.wide_layout.specs.Content.{inner_child, content_at}
use Rattle.wide_layout.specs.Sizes.{inner_children, inner_before, nodes_below, own_count, count_below}
use Rattle.wide_layout.specs.Layout.{Entry, entry, entries, EachEntry, nodes, index_count}
use Rattle.wide_layout.specs.Shape.{EntryInside, layout_entry}
use Rattle.wide_layout.proofs.Each.{each_append, each_left, each_right, node-each, node_has, node-number}
use Rattle.wide_layout.proofs.Placed.{inside}

-- entry e is that of an inner child of box b and slots u, in slot k of node p, with level l
pub record ChildNode (e : Entry) (p k l : ℕ) (b : Aabb) (u : Slots 8) : Type 0 where
  pub box : e.box ≡ b
  pub slots : e.slots ≡ u
  pub level : e.level ≡ l
  pub parent : e.parent ≡ p
  pub slot : e.slot ≡ k

module _ (node : ℕ → Entry) where
  -- an entry's inner children, where `node` gives every node by its number
  abbrev Children : Entry → Type 0
  Children e = (k : ℕ) (b : Aabb) (u : Slots 8) → content_at e.slots k ≡ inner_child b u
      → ChildNode (node (e.child_base + inner_before e.slots k)) e.number k (e.level + 1) b u

  -- by a number and a slot written in another way
  renamed : (v x p k j l : ℕ) (b : Aabb) (u : Slots 8) → v ≡ x → k ≡ j → ChildNode (node v) p k l b u → ChildNode (node x) p j l b u
  renamed v x p k j l b u e f h = rw (← e, ← f) h

  -- of slots from slot k on of node p, whose next inner child has number i
  in_slots : {w : ℕ} (s : Slots w) (l p k i c q : ℕ) → EachEntry (λ e. node e.number ≡ e) (entries s l p k i c q)
      → (j : ℕ) (b : Aabb) (u : Slots 8) → content_at s j ≡ inner_child b u → ChildNode (node (i + inner_before s j)) p (k + j) l b u
  unfolding content_at
  in_slots end l p k i c q h j b u e = cc
  in_slots (empty s) l p k i c q h zero b u e = cc
  in_slots (empty s) l p k i c q h (suc j) b u e =
      renamed (i + inner_before s j) (i + inner_before s j) p (k + 1 + j) (k + suc j) l b u refl (omega arith)
      (in_slots s l p (k + 1) i c q h j b u e)
  in_slots (leaf a ps s) l p k i c q h zero b u e = cc
  in_slots (leaf a ps s) l p k i c q h (suc j) b u e =
      renamed (i + inner_before s j) (i + inner_before s j) p (k + 1 + j) (k + suc j) l b u refl (omega arith)
      (in_slots s l p (k + 1) i c q h j b u e)
  in_slots (inner a t s) l p k i c q h zero b u e =
      renamed i (i + 0) p k (k + 0) l b u (omega arith) (omega arith)
      (record {
        box = ap (λ (x : Entry). x.box) h.0 ∙ cc;
        slots = ap (λ (x : Entry). x.slots) h.0 ∙ cc;
        level = ap (λ (x : Entry). x.level) h.0;
        parent = ap (λ (x : Entry). x.parent) h.0;
        slot = ap (λ (x : Entry). x.slot) h.0;
      })
  in_slots (inner a t s) l p k i c q h (suc j) b u e =
      renamed (i + 1 + inner_before s j) (i + suc (inner_before s j)) p (k + 1 + j) (k + suc j) l b u (omega arith) (omega arith)
      (in_slots s l p (k + 1) (i + 1) (c + (inner_children t + nodes_below t)) (q + (own_count t + count_below t))
      (each_right (λ e. node e.number ≡ e) (entries t (l + 1) i 0 c (c + inner_children t) (q + own_count t))
      (entries s l p (k + 1) (i + 1) (c + (inner_children t + nodes_below t)) (q + (own_count t + count_below t))) h.1) j b u e)

  -- of the node whose inner children these are
  of_node : (b : Aabb) (t : Slots 8) (l p k i c d q r : ℕ) → EachEntry (λ e. node e.number ≡ e) (entries t (l + 1) i 0 c d r)
      → Children (entry b t l p k i c q)
  of_node b t l p k i c d q r h j a u e =
      renamed (c + inner_before t j) (c + inner_before t j) i (0 + j) j (l + 1) a u refl (omega arith) (in_slots t (l + 1) i 0 c d r h j a u e)

  below : {w : ℕ} (s : Slots w) (l p k i c q : ℕ) → EachEntry (λ e. node e.number ≡ e) (entries s l p k i c q)
      → EachEntry Children (entries s l p k i c q)
  below end l p k i c q h = tt
  below (empty s) l p k i c q h = below s l p (k + 1) i c q h
  below (leaf a ps s) l p k i c q h = below s l p (k + 1) i c q h
  below (inner a t s) l p k i c q h =
      let f = each_left (λ e. node e.number ≡ e) first last h.1 in (
        of_node a t l p k i c (c + inner_children t) q (q + own_count t) f,
        each_append Children first last (below t (l + 1) i 0 c (c + inner_children t) (q + own_count t) f)
            (below s l p (k + 1) (i + 1) (c + (inner_children t + nodes_below t)) (q + (own_count t + count_below t))
            (each_right (λ e. node e.number ≡ e) first last h.1)),
      )
    where
      first : List Entry
      first = entries t (l + 1) i 0 c (c + inner_children t) (q + own_count t)

      last : List Entry
      last = entries s l p (k + 1) (i + 1) (c + (inner_children t + nodes_below t)) (q + (own_count t + count_below t))

-- every inner child's node
pub node_child : (t : Wide) (v : ℕ) → v < nodes t → (k : ℕ) (b : Aabb) (u : Slots 8) → content_at (layout_entry t v).slots k ≡ inner_child b u
    → ChildNode (layout_entry t ((layout_entry t v).child_base + inner_before (layout_entry t v).slots k)) v k ((layout_entry t v).level + 1) b u
node_child t v h k b u e =
    subst (λ (i : ℕ). ChildNode (layout_entry t ((layout_entry t v).child_base + inner_before (layout_entry t v).slots k)) i k
    ((layout_entry t v).level + 1) b u) (node-number t v h)
    (node_has (Children (layout_entry t)) t (
      of_node (layout_entry t) t.box t.slots 0 0 0 0 1 (1 + inner_children t.slots) 0 (0 + own_count t.slots) (node-each t).1,
      below (layout_entry t) t.slots 1 0 0 1 (1 + inner_children t.slots) (0 + own_count t.slots) (node-each t).1,
    ) v h k b u e)

-- which comes later, and is there
rank_in : {w : ℕ} (s : Slots w) (k : ℕ) (b : Aabb) (u : Slots 8) → content_at s k ≡ inner_child b u → inner_before s k < inner_children s
unfolding content_at
rank_in end k b u e = cc
rank_in (empty s) zero b u e = cc
rank_in (empty s) (suc k) b u e = rank_in s k b u e
rank_in (leaf a ps s) zero b u e = cc
rank_in (leaf a ps s) (suc k) b u e = rank_in s k b u e
rank_in (inner a t s) zero b u e = omega arith
rank_in (inner a t s) (suc k) b u e = omega (arith, rank_in s k b u e)

pub child_there : (t : Wide) (v : ℕ) → v < nodes t → (k : ℕ) (b : Aabb) (u : Slots 8) → content_at (layout_entry t v).slots k ≡ inner_child b u
    → let c = (layout_entry t v).child_base + inner_before (layout_entry t v).slots k in (v < c) × (c < nodes t)
child_there t v h k b u e =
    let r = rank_in (layout_entry t v).slots k b u e in
    let i = node_has (EntryInside (nodes t) (index_count t)) t (inside t) v h in
    (omega (arith, i.later, node-number t v h), omega (arith, i.nodes))
