-- Subtrees of a sound record: nodes of one level, and so the children of one node, have no node and no position in common below them.
use mathlib.Core.Path.{◌≡◌, sym, ◌∙◌, subst}
use Prim.Native.Nat.{ℕ, zero, suc, ◌+◌, ◌<◌, ◌≤◌}
use native.Mathlib.Omega.{arith}
use Rattle.soundness.specs.Shape.{Shape, ChildOf, Holds, Level, RangesPlaced}
use Rattle.soundness.specs.Sound.{Sound}
use Rattle.soundness.specs.Subtree.{Below, HeldBelow}
use Rattle.soundness.proofs.Once.{same_parent, same-node}
use Rattle.soundness.proofs.Sound.{parents_most, child_node, holds_position, same-level, has_level}

module _ (S : Shape) (Rule : ℕ → Type 0) (place : (i : ℕ) → i < S.nodes → Rule i → RangesPlaced S i) (sound : Sound S Rule) where
  -- ---- nodes below

  pub below_node : (k u v : ℕ) → u < S.nodes → Below S k u v → v < S.nodes
  unfolding Below
  below_node zero u v h e = rw (← e) h
  below_node (suc k) u v h (p, c, d) = (child_node S Rule place sound p v c).1

  -- numbers rise downwards
  pub below_rises : (k u v : ℕ) → Below S k u v → u + k ≤ v
  unfolding Below
  below_rises zero u v e = omega arith
  below_rises (suc k) u v (p, c, d) = omega (arith, below_rises k u p d, (child_node S Rule place sound p v c).0)

  -- and so do levels, one by one
  pub below_level : (k l u v : ℕ) → Level S l u → Below S k u v → Level S (k + l) v
  unfolding Below Level
  below_level zero l u v a e = let z : 0 + l ≡ l = omega arith in rw (z, ← e) a
  below_level (suc k) l u v a (p, c, d) = let z : suc k + l ≡ suc (k + l) = omega arith in rw z (p, c, below_level k l u p a d)

  -- a child's subtree is part of its parent's
  pub below_parent : (k p c v : ℕ) → ChildOf S p c → Below S k c v → Below S (suc k) p v
  unfolding Below
  below_parent zero p c v h e = (p, subst (λ (x : ℕ). ChildOf S p x) e h, p_self)
    where
      p_self : p ≡ p
      p_self = omega arith
  below_parent (suc k) p c v h (q, d, b) = (q, d, below_parent k p c q h b)

  -- the node k levels up from v is one
  pub one_above : (k u w v : ℕ) → v < S.nodes → Below S k u v → Below S k w v → u ≡ w
  unfolding Below
  one_above zero u w v h a b = a ∙ sym b
  one_above (suc k) u w v h (p, c, d) (q, e, f) =
      let g : q ≡ p = same_parent S v q p (parents_most S Rule place sound v h) e c in
      one_above k u w p c.parent d (subst (λ (x : ℕ). Below S k w x) g f)

  -- two nodes of one level with a node below both are one node
  pub subtrees_apart : (l i j u w v : ℕ) → u < S.nodes → Level S l u → Level S l w → Below S i u v → Below S j w v → u ≡ w
  subtrees_apart l i j u w v h a b c d =
      let m = below_node i u v h c in
      let e = same-level S Rule place sound (i + l) (j + l) v m (below_level i l u v a c) (below_level j l w v b d) in
      let f : j ≡ i = omega arith in
      one_above i u w v m c (subst (λ (x : ℕ). Below S x w v) f d)

  -- ---- positions below

  holder_one : (x i j s t : ℕ) → Holds S i s x → Holds S j t x → i ≡ j
  holder_one x i j s t a b = same-node S x i j s t (let e = sound.filled x (holds_position S Rule place sound i s x a) in omega arith) a b

  -- two nodes of one level with a position below both are one node,
  pub positions_apart : (l u w x : ℕ) → u < S.nodes → Level S l u → Level S l w → HeldBelow S u x → HeldBelow S w x → u ≡ w
  positions_apart l u w x n a b g h =
      let e : h.node ≡ g.node = holder_one x h.node g.node h.slot g.slot h.holds g.holds in
      subtrees_apart l g.levels h.levels u w g.node n a b g.below (subst (λ (v : ℕ). Below S h.levels w v) e h.below)

  -- so are two children of one node,
  pub siblings_apart : (p u w x : ℕ) → ChildOf S p u → ChildOf S p w → HeldBelow S u x → HeldBelow S w x → u ≡ w
  unfolding Level
  siblings_apart p u w x c d g h =
      let r = has_level S Rule place sound p c.parent in
      positions_apart (suc r.0) u w x (child_node S Rule place sound p u c).1 (p, c, r.2) (p, d, r.2) g h

  -- and no position of a node's own leaf ranges is below a child of it
  pub own_apart : (u c s x : ℕ) → ChildOf S u c → Holds S u s x → HeldBelow S c x → ⊥
  own_apart u c s x d a g =
      let e : g.node ≡ u = holder_one x g.node u g.slot s g.holds a in
      omega (arith, below_rises g.levels c g.node g.below, (child_node S Rule place sound u c d).0)

  -- ---- the first node is above all

  pub below_first : (l v : ℕ) → Level S l v → Below S l 0 v
  unfolding Level Below
  below_first zero v e = sym e
  below_first (suc l) v (p, c, a) = (p, c, below_first l p a)
