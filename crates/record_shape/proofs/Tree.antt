-- The tree that a sound record's nodes make: one parent each, levels, slots of children, and subtrees with no position in common.
use mathlib.Core.Path.{◌≡◌, sym, ◌∙◌}
use Prim.Native.Nat.{ℕ, zero, suc, ◌-◌, ◌<◌, ◌≤◌}
use native.Mathlib.Decide.{dec_lt}
use native.Mathlib.Omega.{arith}
use Rattle.words.specs.Ones.{ones_below}
use Rattle.words.specs.Fields.{field}
use Rattle.words.proofs.Ranks.{bit_is, rank_lt, rank_inj}
use Rattle.soundness.specs.Shape.{ChildOf, Holds, Level}
use Rattle.soundness.specs.Sound.{OneParent, OneHolder}
use Rattle.soundness.specs.Subtree.{HeldBelow}
use Rattle.soundness.proofs.Sound.{parent_of, child_node, first_has_none, has_level, child_level, holder_of, holds_position}
use Rattle.soundness.proofs.Subtree.{siblings_apart, own_apart}
use Rattle.node.specs.Node.{inner_bit, child_index}
use Rattle.record_shape.specs.Record.{Nodes, shape_in, RuleIn, SoundIn}
use Rattle.record_shape.proofs.Placed.{placed}

-- ---- the children of a node, slot by slot

-- the slot whose rank among the ones of m is r
rank_slot : (k m r : ℕ) → r < ones_below k m → (s : ℕ) × (s < k) × (field 1 s m ≡ 1) × (ones_below s m ≡ r)
unfolding ones_below
rank_slot zero m r h = absurd (omega arith)
rank_slot (suc k) m r h = go (dec_lt r (ones_below k m)) (rank_slot k m r)
  where
    go : Dec (r < ones_below k m) → (r < ones_below k m → (s : ℕ) × (s < k) × (field 1 s m ≡ 1) × (ones_below s m ≡ r)) → (s : ℕ) × (s < suc k)
        × (field 1 s m ≡ 1) × (ones_below s m ≡ r)
    go (yes l) f = let z = f l in (z.0, omega (arith, z.1), z.2, z.3)
    go (no l) f = let e = bit_is k m in (k, omega arith, omega arith, omega arith)

module _ (N : Nodes) (n i : ℕ) where
  -- an inner slot's child stands in the child range,
  pub slot_child : (s : ℕ) → i < N.count → s < 8 → inner_bit (N.node i).imask s ≡ 1
      → ChildOf (shape_in N n) i (child_index (N.node i).child_base_idx (N.node i).imask s)
  unfolding shape_in child_index
  slot_child s h l b = record {
    parent = h;
    from = omega arith;
    before = omega (arith, rank_lt s 8 (N.node i).imask l (bit_is s (N.node i).imask ∙ b));
  }

  -- different slots have different children,
  pub slot_one : (s t : ℕ) → inner_bit (N.node i).imask s ≡ 1 → inner_bit (N.node i).imask t ≡ 1
      → child_index (N.node i).child_base_idx (N.node i).imask s ≡ child_index (N.node i).child_base_idx (N.node i).imask t → s ≡ t
  unfolding child_index
  slot_one s t a b e = rank_inj s t (N.node i).imask (bit_is s (N.node i).imask ∙ a) (bit_is t (N.node i).imask ∙ b) (omega arith)

  -- and every node of the child range is some slot's child
  pub child_slot : (c : ℕ) → ChildOf (shape_in N n) i c
      → (s : ℕ) × (s < 8) × (inner_bit (N.node i).imask s ≡ 1) × (c ≡ child_index (N.node i).child_base_idx (N.node i).imask s)
  unfolding shape_in child_index
  child_slot c h =
      let a = h.from in
      let b = h.before in
      let z = rank_slot 8 (N.node i).imask (c - (N.node i).child_base_idx) (omega arith) in
      (z.0, z.1, sym (bit_is z.0 (N.node i).imask) ∙ z.2, omega (arith, z.3))

-- ---- a sound record

module _ (N : Nodes) (n : ℕ) (sound : SoundIn N n) where
  -- every node but the first is the child of exactly one node, which has a lower number,
  pub node_parent : (v : ℕ) → 0 < v → v < N.count → OneParent (shape_in N n) v
  unfolding shape_in
  node_parent = parent_of (shape_in N n) (RuleIn N n) (λ j l r. placed N n j r) sound

  pub parent_lower : (p c : ℕ) → ChildOf (shape_in N n) p c → (p < c) × (c < N.count)
  unfolding shape_in
  parent_lower = child_node (shape_in N n) (RuleIn N n) (λ j l r. placed N n j r) sound

  -- and the first is no child
  pub first_parent : (p : ℕ) → ChildOf (shape_in N n) p 0 → ⊥
  first_parent = first_has_none (shape_in N n) (RuleIn N n) (λ j l r. placed N n j r) sound

  -- every node has one level, at most 31, and a child's is its parent's plus 1
  pub node-level : (v : ℕ) → v < N.count → (l : ℕ) × (l ≤ 31) × Level (shape_in N n) l v
  unfolding shape_in
  node-level = has_level (shape_in N n) (RuleIn N n) (λ j l r. placed N n j r) sound

  pub level_rises : (l k p c : ℕ) → ChildOf (shape_in N n) p c → Level (shape_in N n) l p → Level (shape_in N n) k c → k ≡ suc l
  level_rises = child_level (shape_in N n) (RuleIn N n) (λ j l r. placed N n j r) sound

  -- every position stands in exactly one leaf range, and no leaf range holds another number
  pub position_holder : (x : ℕ) → x < n → OneHolder (shape_in N n) x
  unfolding shape_in
  position_holder = holder_of (shape_in N n) (RuleIn N n) (λ j l r. placed N n j r) sound

  pub holds_below : (i s x : ℕ) → Holds (shape_in N n) i s x → x < n
  unfolding shape_in
  holds_below = holds_position (shape_in N n) (RuleIn N n) (λ j l r. placed N n j r) sound

  -- the subtrees of two children of a node have no position in common, and none with the node itself
  pub children_apart : (p u w x : ℕ) → ChildOf (shape_in N n) p u → ChildOf (shape_in N n) p w
      → HeldBelow (shape_in N n) u x → HeldBelow (shape_in N n) w x → u ≡ w
  children_apart = siblings_apart (shape_in N n) (RuleIn N n) (λ j l r. placed N n j r) sound

  pub parent_apart : (u c s x : ℕ) → ChildOf (shape_in N n) u c → Holds (shape_in N n) u s x → HeldBelow (shape_in N n) c x → ⊥
  parent_apart = own_apart (shape_in N n) (RuleIn N n) (λ j l r. placed N n j r) sound
