-- What a sound record gives: one parent, one holder, one level, for any node rule that places children later.
use mathlib.Core.Path.{◌≡◌}
use Prim.Native.Nat.{ℕ, zero, suc, ◌<◌, ◌≤◌}
use native.Mathlib.Decide.{dec_lt}
use native.Mathlib.Omega.{arith}
use Rattle.soundness.specs.Shape.{Shape, ChildOf, Holds, parents, Level, RangesPlaced}
use Rattle.soundness.specs.Sound.{Sound, OneParent, OneHolder}
use Rattle.soundness.proofs.Once.{one_parent, no_parent, one_holder, one-level}

module _ (S : Shape) (Rule : ℕ → Type 0) (place : (i : ℕ) → i < S.nodes → Rule i → RangesPlaced S i) (sound : Sound S Rule) where
  pub placed_at : (i : ℕ) → i < S.nodes → RangesPlaced S i
  placed_at i l = place i l (sound.rule i l)

  pub parents_most : (v : ℕ) → v < S.nodes → parents S S.nodes v ≤ 1
  parents_most v h = go (dec_lt 0 v)
    where
      go : Dec (0 < v) → parents S S.nodes v ≤ 1
      go (yes p) = omega (arith, sound.others v p h)
      go (no p) = let q : v ≡ 0 = omega arith in let e : parents S S.nodes v ≡ 0 = rw q sound.first in omega arith

  -- a child is a node, with a higher number than its parent's
  pub child_node : (p c : ℕ) → ChildOf S p c → (p < c) × (c < S.nodes)
  child_node p c h =
      let k = placed_at p h.parent in
      let a = h.from in
      let b = h.before in
      (omega (arith, k.later (omega arith)), omega (arith, k.exist (omega arith)))

  pub first_has_none : (p : ℕ) → ChildOf S p 0 → ⊥
  first_has_none = no_parent S 0 sound.first

  pub parent_of : (v : ℕ) → 0 < v → v < S.nodes → OneParent S v
  parent_of v z h = one_parent S v (sound.others v z h)

  pub holder_of : (x : ℕ) → x < S.positions → OneHolder S x
  holder_of x h = one_holder S x (sound.filled x h)

  -- no leaf range holds another number
  pub holds_position : (i s x : ℕ) → Holds S i s x → x < S.positions
  holds_position i s x h =
      let a = h.from in
      let b = h.before in
      omega (arith, (placed_at i h.node).inside s h.slot (omega arith))

  -- ---- levels

  pub same-level : (l k v : ℕ) → v < S.nodes → Level S l v → Level S k v → l ≡ k
  same-level = one-level S sound.first parents_most

  pub child_level : (l k p c : ℕ) → ChildOf S p c → Level S l p → Level S k c → k ≡ suc l
  unfolding Level
  child_level l k p c h a b = same-level k (suc l) c (child_node p c h).1 b (p, h, a)

  find : (g v : ℕ) → v < g → v < S.nodes → (l : ℕ) × Level S l v
  unfolding Level
  find zero v b h = absurd (omega arith)
  find (suc g) v b h = go (dec_lt 0 v) (find g)
    where
      go : Dec (0 < v) → ((u : ℕ) → u < g → u < S.nodes → (l : ℕ) × Level S l u) → (l : ℕ) × Level S l v
      go (no p) f = (0, omega arith)
      go (yes p) f =
          let o = parent_of v p h in
          let n = child_node o.parent v o.child in
          let r = f o.parent (omega (arith, n.0)) o.child.parent in
          (suc r.0, (o.parent, o.child, r.1))

  -- every node has a level, at most 31
  pub has_level : (v : ℕ) → v < S.nodes → (l : ℕ) × (l ≤ 31) × Level S l v
  has_level v h = let r = find (suc v) v (omega arith) h in (r.0, sound.levels v r.0 h r.1, r.1)
