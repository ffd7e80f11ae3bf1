-- The loop over a node's slots: for whatever tables the decisions are, the slots left, converted from here, give what all eight give.
use mathlib.Core.Path.{◌≡◌, refl, sym, ap, ap₂, subst, ◌∙◌}
use mathlib.Core.Bool.{Bool, true, false}
use mathlib.Core.List.{List}
use Prim.Native.Nat.{ℕ, suc, ◌+◌, ◌*◌, ◌<◌}
use native.Mathlib.Numerals.{add-one}
use native.Mathlib.Omega.{arith}
use lib.ListN.{length, get_or}
use Rattle.aabb.specs.declared.Aabb.{Aabb}
use Rattle.bvh2.specs.Tree.{Tree, depth, label_of, box_of}
use Rattle.bvh2.specs.Words.{box_at}
use Rattle.bvh2.specs.Decoded.{Subtree}
use Rattle.bvh2.proofs.Reading.{box_is}
use Rattle.bvh2.proofs.Subtree.{node}
use Rattle.cost.specs.Table.{word_of}
use Rattle.cost.specs.Rows.{RowsHold}
use Rattle.children.specs.declared.branch.Branch.{Branch}
use Rattle.children.specs.Branches.{words_of, decisions_of, subtree_of}
use Rattle.children.specs.Tabled.{most_edges, subtree_at, Tabled}
use Rattle.wide_layout.specs.Wide.{Slots, inner}
use Rattle.wide_layout.specs.Conversion.{State, convert, convert_node}
use Rattle.wide_tree.specs.WideTree.{root_slots, slots_from}
use Rattle.wide_layout.specs.Content.{Content, inner_child}
use Rattle.emit_tree.specs.declared.Next.{Next}
use Rattle.wide_tree.specs.Ordered.{placing}
use Rattle.emit_tree.specs.Emission.{wide_slots_at, slot_words, EmitNode, is_inner, EmitRoom, Emits, Written, write_entry, progress_of}
use Rattle.emit_tree.proofs.Turns.{rest, rest_all, rest_next, standing, slot_below, slot_other, slot_most}
use Rattle.emit_tree.proofs.Rolling.{put, Rolling, child_room, child_done, other_done}

module _ (root : Branch) (indices : List ℕ) (ordered : Bool) (h : EmitNode root (length indices) most_edges) (i x : ℕ) (l : i < 8)
    (q : x ≡ get_or (slot_words ordered h.limit (subtree_of root)) i 0) where
  abbrev Child_of : Type 0
  Child_of = (depth (subtree_at (words_of root) x) < depth (subtree_of root)) × Subtree (words_of root) (length indices) most_edges x
      × RowsHold (word_of h.limit) 0 (decisions_of root) (subtree_at (words_of root) x)
      × (standing root (length indices) ordered h i ≡ inner_child (box_at (words_of root) x) (root_slots (placing ordered) h.limit
      (subtree_at (words_of root) x)))

  child_reached : is_inner (decisions_of root) x ≡ true → Child_of
  child_reached e =
      let b = slot_below root (length indices) ordered h i l (subst (λ (y : ℕ). is_inner (decisions_of root) y ≡ true) q e) in
      let t = b.tree in
      let r = b.reread in
      let z : label_of t ≡ x = b.label ∙ sym q in
      let u : subtree_at (words_of root) x ≡ t = ap (subtree_at (words_of root)) (sym z) ∙ r.tree in (
        subst (λ (y : Tree ℕ). depth y < depth (subtree_of root)) (sym u) b.shallower,
        subst (λ (y : ℕ). Subtree (words_of root) (length indices) most_edges y) z r.subtree,
        subst (λ (y : Tree ℕ). RowsHold (word_of h.limit) 0 (decisions_of root) y) (sym u) r.holds,
        b.held ∙ ap₂ (λ (y : Aabb) (s : Slots 8). inner_child y s) (ap box_of (sym u) ∙ box_is (words_of root) most_edges x)
            (ap (root_slots (placing ordered) h.limit) (sym u)),
      )

  -- its decision can be read
  pub decided : (x ≡ 0xffff_ffff → ⊥) → x * 7 < length (decisions_of root)
  decided z =
      let s = slot_most root (length indices) ordered h i l (λ y. z (q ∙ y)) in
      let n = node s in
      omega (arith, q, n.below, h.room)

-- the branch of node v of the same tree
abbrev pub TabledAt : Branch → ℕ → Type 0
TabledAt b v = ∥ Tabled (words_of b) (decisions_of b) most_edges v ∥₁

abbrev pub branch_at : (b : Branch) (v : ℕ) → TabledAt b v → Branch
branch_at b v t = record { tree = b.tree; node = v; tabled = t }

pub record Child (b : Branch) (v : ℕ) (asked : Branch → Type 0) : Type 0 where
  pub shallower : depth (subtree_at (words_of b) v) < depth (subtree_of b)
  pub tabled : TabledAt b v
  pub asks : (t : TabledAt b v) → asked (branch_at b v t)

abbrev goal_of : (root : Branch) (indices : List ℕ) (number : ℕ) (ordered : Bool) → EmitNode root (length indices) most_edges
    → (l : ℕ) (bytes out : List ℕ) (f : Next) (child : ℕ) → State Written
goal_of root indices number ordered h l bytes out f child = convert (write_entry indices) (wide_slots_at root ordered h.limit) l number 0
    child (progress_of bytes out f)

-- from the loop's begin, marked ₀, with w slots left from slot i on
pub record Loop (root : Branch) (indices : List ℕ) (number : ℕ) (ordered : Bool) (bytes₀ out₀ : List ℕ) (f₀ : Next) (child₀ : ℕ) (bytes out : List ℕ)
    (f : Next) (child w i : ℕ) : Type 0 where
  pub rolls : (h : EmitNode root (length indices) most_edges) (l : ℕ)
      → EmitRoom (wide_slots_at root ordered h.limit) (length bytes₀) (length out₀) child₀ f₀
      → Rolling indices (rest root (length indices) ordered h i w) l number i
      (goal_of root indices number ordered h l bytes₀ out₀ f₀ child₀) (length bytes₀) (length out₀) bytes out f child

pub loop_begun : (root : Branch) (indices : List ℕ) (number : ℕ) (ordered : Bool) (bytes out : List ℕ) (f : Next) (child : ℕ)
    → Loop root indices number ordered bytes out f child bytes out f child 8 0
loop_begun root indices number ordered bytes out f child = record {
  rolls = λ h l r. record {
    same = ap (λ (s : Slots 8). convert (write_entry indices) s l number 0 child (progress_of bytes out f))
        (sym (rest_all root (length indices) ordered h));
    record-length = refl;
    list_length = refl;
    room = subst (λ (s : Slots 8). EmitRoom s (length bytes) (length out) child f) (rest_all root (length indices) ordered h) r;
  };
}

module _ {root : Branch} {indices : List ℕ} {number : ℕ} {ordered : Bool} {bytes₀ out₀ : List ℕ} {f₀ : Next} {child₀ : ℕ} {bytes out : List ℕ}
    {f : Next} {child w i : ℕ}
    (k : Loop root indices number ordered bytes₀ out₀ f₀ child₀ bytes out f child (suc w) i) (low : i < 8) {xs : List ℕ}
    (q : (h : EmitNode root (length indices) most_edges) → xs ≡ slot_words ordered h.limit (subtree_of root))
  where
    word : (h : EmitNode root (length indices) most_edges) → get_or xs i 0 ≡ get_or (slot_words ordered h.limit (subtree_of root)) i 0
    word h = ap (λ (l : List ℕ). get_or l i 0) (q h)

    pub loop_reads : (h : EmitNode root (length indices) most_edges) → (get_or xs i 0 ≡ 0xffff_ffff → ⊥)
        → get_or xs i 0 * 7 < length (decisions_of root)
    loop_reads h = decided root indices ordered h i (get_or xs i 0) low (word h)

    module _ (h : EmitNode root (length indices) most_edges) (l : ℕ)
        (r : EmitRoom (wide_slots_at root ordered h.limit) (length bytes₀) (length out₀) child₀ f₀) where
      at_put : Rolling indices (put (standing root (length indices) ordered h i) (rest root (length indices) ordered h (suc i) w)) l
          number i (goal_of root indices number ordered h l bytes₀ out₀ f₀ child₀) (length bytes₀) (length out₀) bytes out f child
      at_put = subst (λ (s : Slots (suc w)). Rolling indices s l number i (goal_of root indices number ordered h l bytes₀ out₀ f₀ child₀)
          (length bytes₀) (length out₀) bytes out f child)
          (rest_next root (length indices) ordered h i w) (k.rolls h l r)

      at_inner : is_inner (decisions_of root) (get_or xs i 0) ≡ true
          → Rolling indices (inner (box_at (words_of root) (get_or xs i 0)) (root_slots (placing ordered) h.limit (subtree_at (words_of root)
          (get_or xs i 0)))
          (rest root (length indices) ordered h (suc i) w)) l number i (goal_of root indices number ordered h l bytes₀ out₀ f₀ child₀)
          (length bytes₀) (length out₀) bytes out f child
      at_inner e =
          subst (λ (c : Content). Rolling indices (put c (rest root (length indices) ordered h (suc i) w)) l number i
          (goal_of root indices number ordered h l bytes₀ out₀ f₀ child₀) (length bytes₀) (length out₀) bytes out f child)
          (child_reached root indices ordered h i (get_or xs i 0) low (word h) e).3 at_put

      -- what the child's own emission asks
      pub loop_child : is_inner (decisions_of root) (get_or xs i 0) ≡ true → Child root (get_or xs i 0)
          (λ b. Emits b (length indices) ordered (length bytes) (length out) child f)
      loop_child e =
          let c = child_reached root indices ordered h i (get_or xs i 0) low (word h) e in
          record {
            shallower = c.0;
            tabled = ∣ record { n = length indices; tree = c.1; room = h.room; limit = h.limit; holds = c.2 } ∣₁;
            asks = λ t. record {
              at = record { tree = c.1; room = h.room; limit = h.limit; small = h.small; holds = c.2 };
              room = child_room indices (rest root (length indices) ordered h (suc i) w) l number i
                  (goal_of root indices number ordered h l bytes₀ out₀ f₀ child₀) (length bytes₀) (length out₀) bytes out f child
                  (box_at (words_of root) (get_or xs i 0)) (root_slots (placing ordered) h.limit (subtree_at (words_of root)
                  (get_or xs i 0)))
                  (at_inner e);
            };
          }

    pub loop_inner : is_inner (decisions_of root) (get_or xs i 0) ≡ true → (bytes₁ out₁ : List ℕ) (x : Next) → length bytes₁ ≡ length bytes
        → length out₁ ≡ length out
        → (t : TabledAt root (get_or xs i 0)) → ((e : Emits (branch_at root (get_or xs i 0) t) (length indices) ordered (length bytes)
        (length out) child f) (l p j : ℕ)
        → progress_of bytes₁ out₁ x ≡ convert_node (write_entry indices) (box_at (words_of root) (get_or xs i 0))
        (root_slots (placing ordered) e.at.limit (subtree_at (words_of root) (get_or xs i 0))) l p j child (progress_of bytes out f))
        → Loop root indices number ordered bytes₀ out₀ f₀ child₀ bytes₁ out₁ x (child + 1) w (i + 1)
    unfolding loop_child
    loop_inner e bytes₁ out₁ x m o t g = record {
      rolls = λ h l r.
          subst (λ (j : ℕ). Rolling indices (rest root (length indices) ordered h j w) l number (i + 1)
          (goal_of root indices number ordered h l bytes₀ out₀ f₀ child₀) (length bytes₀) (length out₀) bytes₁ out₁ x (child + 1))
          (sym (add-one i))
          (child_done indices (rest root (length indices) ordered h (suc i) w) l number i
          (goal_of root indices number ordered h l bytes₀ out₀ f₀ child₀) (length bytes₀) (length out₀) bytes out f child
          (box_at (words_of root) (get_or xs i 0)) (root_slots (placing ordered) h.limit (subtree_at (words_of root)
          (get_or xs i 0))) bytes₁ out₁ x (at_inner h l r e) m o
          (g ((loop_child h l r e).asks t) l number i));
    }

    pub loop_other : is_inner (decisions_of root) (get_or xs i 0) ≡ false
        → Loop root indices number ordered bytes₀ out₀ f₀ child₀ bytes out f child w (i + 1)
    loop_other e = record {
      rolls = λ h l r.
          subst (λ (j : ℕ). Rolling indices (rest root (length indices) ordered h j w) l number (i + 1)
          (goal_of root indices number ordered h l bytes₀ out₀ f₀ child₀) (length bytes₀) (length out₀) bytes out f child) (sym (add-one i))
          (other_done indices (rest root (length indices) ordered h (suc i) w) l number i
          (goal_of root indices number ordered h l bytes₀ out₀ f₀ child₀) (length bytes₀) (length out₀) bytes out f child
          (standing root (length indices) ordered h i)
          (slot_other root (length indices) ordered h i low (subst (λ (y : ℕ). is_inner (decisions_of root) y ≡ false) (word h) e)) (at_put h l r));
    }

-- no slot left
pub loop_end : (root : Branch) (indices : List ℕ) (number : ℕ) (ordered : Bool) (bytes₀ out₀ : List ℕ) (f₀ : Next) (child₀ : ℕ) (bytes out : List ℕ)
    (f : Next) (child i : ℕ)
    → Loop root indices number ordered bytes₀ out₀ f₀ child₀ bytes out f child 0 i → (h : EmitNode root (length indices) most_edges) (l : ℕ)
    → EmitRoom (wide_slots_at root ordered h.limit) (length bytes₀) (length out₀) child₀ f₀
    → progress_of bytes out f ≡ convert (write_entry indices) (wide_slots_at root ordered h.limit) l number 0 child₀ (progress_of bytes₀ out₀ f₀)
unfolding convert slots_from
loop_end root indices number ordered bytes₀ out₀ f₀ child₀ bytes out f child i k h l r = (k.rolls h l r).same

-- the same loop under other names for what it holds
pub loop_as : {root : Branch} {indices : List ℕ} {number : ℕ} {ordered : Bool} {bytes₀ out₀ : List ℕ} {f₀ : Next} {child₀ : ℕ}
    {bytes out bytes₁ out₁ : List ℕ} {f f₁ : Next} {child child₁ w i : ℕ}
    → bytes₁ ≡ bytes → out₁ ≡ out → f₁ ≡ f → child₁ ≡ child
    → Loop root indices number ordered bytes₀ out₀ f₀ child₀ bytes out f child w i
    → Loop root indices number ordered bytes₀ out₀ f₀ child₀ bytes₁ out₁ f₁ child₁ w i
loop_as e g m o h = rw (e, g, m, o) h
