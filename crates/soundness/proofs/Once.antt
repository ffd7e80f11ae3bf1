-- A count of one names the one thing counted: parents, holders of a position, and levels.
use mathlib.Core.Logic.{◌⊎◌, inl, inr}
use mathlib.Core.Path.{◌≡◌, refl, sym, ap, ◌∙◌, subst}
use Prim.Native.Nat.{ℕ, zero, suc, ◌<◌, ◌≤◌}
use native.Mathlib.Decide.{dec_lt}
use native.Mathlib.Omega.{arith}
use Rattle.lists.specs.Sums.{sum}
use Rattle.soundness.specs.Range.{in_range}
use Rattle.soundness.specs.Shape.{Shape, ChildOf, Holds, parents, positions_held, holders, Level}
use Rattle.soundness.specs.Sound.{Sound, Deepest, OneParent, OneHolder}
use Rattle.soundness.proofs.Range.{in_range_lem, range_stands}
use Rattle.lists.proofs.Sums.{sum_term, sum-two, sum-some, sum_only}

module _ (S : Shape) where
  -- ---- parents

  pub child_counts : (p c : ℕ) → ChildOf S p c → in_range c (S.base p) (S.children p) ≡ 1
  child_counts p c h = in_range_lem c (S.base p) (S.children p) h.from h.before

  pub counts_child : (p c : ℕ) → p < S.nodes → 0 < in_range c (S.base p) (S.children p) → ChildOf S p c
  counts_child p c l h = let r = range_stands c (S.base p) (S.children p) h in record { parent = l; from = r.0; before = r.1 }

  -- a node's parent is counted
  pub has_parent : (p c : ℕ) → ChildOf S p c → 1 ≤ parents S S.nodes c
  has_parent p c h = omega (arith, sum_term (λ i. in_range c (S.base i) (S.children i)) S.nodes p h.parent, child_counts p c h)

  pub same_parent : (c p q : ℕ) → parents S S.nodes c ≤ 1 → ChildOf S p c → ChildOf S q c → p ≡ q
  same_parent c p q h a b = go (dec_lt p q) (dec_lt q p)
    where
      go : Dec (p < q) → Dec (q < p) → p ≡ q
      go (no k) (no l) = omega arith
      go (yes l) d = absurd (omega (
        arith,
        h,
        sum-two (λ i. in_range c (S.base i) (S.children i)) S.nodes p q l b.parent,
        child_counts p c a,
        child_counts q c b,
      ))
      go (no k) (yes l) = absurd (omega (
        arith,
        h,
        sum-two (λ i. in_range c (S.base i) (S.children i)) S.nodes q p l a.parent,
        child_counts p
            c a,
        child_counts q c b,
      ))

  pub one_parent : (c : ℕ) → parents S S.nodes c ≡ 1 → OneParent S c
  one_parent c h =
      let r = sum-some (λ i. in_range c (S.base i) (S.children i)) S.nodes (omega arith) in
      let d = counts_child r.0 c r.1 r.2 in
      record { parent = r.0; child = d; only = λ p a. same_parent c p r.0 (omega arith) a d }

  pub no_parent : (c : ℕ) → parents S S.nodes c ≡ 0 → (p : ℕ) → ChildOf S p c → ⊥
  no_parent c h p a = omega (arith, has_parent p c a)

  -- and back: what has exactly one parent is counted once
  pub parent_counted : (c : ℕ) → OneParent S c → parents S S.nodes c ≡ 1
  parent_counted c o =
      sum_only (λ i. in_range c (S.base i) (S.children i)) S.nodes o.parent o.child.parent
      (λ i l n. none i l n (dec_lt 0 (in_range c (S.base i) (S.children i))))
      ∙ child_counts o.parent c o.child
    where
      none : (i : ℕ) → i < S.nodes → ¬ (i ≡ o.parent) → Dec (0 < in_range c (S.base i) (S.children i)) → in_range c (S.base i) (S.children i) ≡ 0
      none i l n (yes k) = absurd (n (o.only i (counts_child i c l k)))
      none i l n (no k) = omega arith

  -- ---- holders

  slot_counts : (i s x : ℕ) → Holds S i s x → in_range x (S.start i s) (S.count i s) ≡ 1
  slot_counts i s x h = in_range_lem x (S.start i s) (S.count i s) h.from h.before

  counts_slot : (i s x : ℕ) → i < S.nodes → s < 8 → 0 < in_range x (S.start i s) (S.count i s) → Holds S i s x
  counts_slot i s x l k h = let r = range_stands x (S.start i s) (S.count i s) h in record { node = l; slot = k; from = r.0; before = r.1 }

  node_counts : (i s x : ℕ) → Holds S i s x → 1 ≤ positions_held S i x
  node_counts i s x h = omega (arith, sum_term (λ t. in_range x (S.start i t) (S.count i t)) 8 s h.slot, slot_counts i s x h)

  -- a holder is counted
  pub has_holder : (i s x : ℕ) → Holds S i s x → 1 ≤ holders S S.nodes x
  has_holder i s x h = omega (arith, sum_term (λ j. positions_held S j x) S.nodes i h.node, node_counts i s x h)

  pub same-node : (x i j s t : ℕ) → holders S S.nodes x ≤ 1 → Holds S i s x → Holds S j t x → i ≡ j
  same-node x i j s t h a b = go (dec_lt i j) (dec_lt j i)
    where
      go : Dec (i < j) → Dec (j < i) → i ≡ j
      go (no k) (no l) = omega arith
      go (yes l) d = absurd (omega (
        arith,
        h,
        sum-two (λ k. positions_held S k x) S.nodes i j l b.node,
        node_counts i s x a,
        node_counts j t x
            b,
      ))
      go (no k) (yes l) = absurd (omega (
        arith,
        h,
        sum-two (λ k. positions_held S k x) S.nodes j i l a.node,
        node_counts i s x a,
        node_counts j
            t x b,
      ))

  pub same_slot : (x i s t : ℕ) → holders S S.nodes x ≤ 1 → Holds S i s x → Holds S i t x → s ≡ t
  same_slot x i s t h a b = go (dec_lt s t) (dec_lt t s)
    where
      z : positions_held S i x ≤ holders S S.nodes x
      z = sum_term (λ k. positions_held S k x) S.nodes i a.node

      go : Dec (s < t) → Dec (t < s) → s ≡ t
      go (no k) (no l) = omega arith
      go (yes l) d = absurd (omega (
        arith,
        h,
        z,
        sum-two (λ k. in_range x (S.start i k) (S.count i k)) 8 s t l b.slot,
        slot_counts i s x a,
        slot_counts i t x b,
      ))
      go (no k) (yes l) = absurd (omega (
        arith,
        h,
        z,
        sum-two (λ k. in_range x (S.start i k) (S.count i k)) 8 t s l a.slot,
        slot_counts i s x a,
        slot_counts i t x b,
      ))

  pub one_holder : (x : ℕ) → holders S S.nodes x ≡ 1 → OneHolder S x
  one_holder x h =
      let r = sum-some (λ i. positions_held S i x) S.nodes (omega arith) in
      let q = sum-some (λ s. in_range x (S.start r.0 s) (S.count r.0 s)) 8 r.2 in
      let d = counts_slot r.0 q.0 x r.1 q.1 q.2 in
      record {
        node = r.0;
        slot = q.0;
        holds = d;
        only = λ i s a.
            let e : i ≡ r.0 = same-node x i r.0 s q.0 (omega arith) a d in
            (e, same_slot x r.0 s q.0 (omega arith) (subst (λ (j : ℕ). Holds S j s x) e a) d);
      }

  pub holder_counted : (x : ℕ) → OneHolder S x → holders S S.nodes x ≡ 1
  holder_counted x o =
      sum_only (λ i. positions_held S i x) S.nodes o.node o.holds.node (λ i l n. other i l n (dec_lt 0 (positions_held S i x)))
      ∙ sum_only (λ s. in_range x (S.start o.node s) (S.count o.node s)) 8 o.slot o.holds.slot
      (λ s l n. apart s l n (dec_lt 0 (in_range x (S.start o.node s) (S.count o.node s))))
      ∙ slot_counts o.node o.slot x o.holds
    where
      other : (i : ℕ) → i < S.nodes → ¬ (i ≡ o.node) → Dec (0 < positions_held S i x) → positions_held S i x ≡ 0
      other i l n (yes k) =
          let q = sum-some (λ s. in_range x (S.start i s) (S.count i s)) 8 k in
          absurd (n (o.only i q.0 (counts_slot i q.0 x l q.1 q.2)).0)
      other i l n (no k) = omega arith

      apart : (s : ℕ) → s < 8 → ¬ (s ≡ o.slot) → Dec (0 < in_range x (S.start o.node s) (S.count o.node s))
          → in_range x (S.start o.node s) (S.count o.node s) ≡ 0
      apart s l n (yes k) = absurd (n (o.only o.node s (counts_slot o.node s x o.holds.node l k)).1)
      apart s l n (no k) = omega arith

  -- ---- levels

  -- no node has two levels, where the first node has no parent and no node has two
  pub one-level : parents S S.nodes 0 ≡ 0 → ((v : ℕ) → v < S.nodes → parents S S.nodes v ≤ 1)
      → (l k v : ℕ) → v < S.nodes → Level S l v → Level S k v → l ≡ k
  unfolding Level
  one-level z h zero zero v b p q = refl
  one-level z h zero (suc k) v b p (y, c, q) = absurd (no_parent 0 z y (subst (λ (u : ℕ). ChildOf S y u) p c))
  one-level z h (suc l) zero v b (x, c, p) q = absurd (no_parent 0 z x (subst (λ (u : ℕ). ChildOf S x u) q c))
  one-level z h (suc l) (suc k) v b (x, c, p) (y, d, q) =
      let e : y ≡ x = same_parent v y x (h v b) d c in
      ap (λ (u : ℕ). suc u) (one-level z h l k x c.parent p (subst (λ (u : ℕ). Level S k u) e q))

  -- ---- the deepest level is one, and a record without nodes

  pub one_deepest : (d e : ℕ) → Deepest S d → Deepest S e → d ≡ e
  one_deepest d e a b = go a.some b.some
    where
      go : ((S.nodes ≡ 0) × (d ≡ 0)) ⊎ ((v : ℕ) × (v < S.nodes) × Level S d v)
          → ((S.nodes ≡ 0) × (e ≡ 0)) ⊎ ((v : ℕ) × (v < S.nodes) × Level S e v) → d ≡ e
      go (inl x) (inl y) = x.1 ∙ sym y.1
      go (inl x) (inr y) = absurd (omega (arith, x.0, y.1))
      go (inr x) (inl y) = absurd (omega (arith, x.1, y.0))
      go (inr x) (inr y) = omega (arith, b.most x.0 d x.1 x.2, a.most y.0 e y.1 y.2)

  pub empty_sound : (Rule : ℕ → Type 0) → S.nodes ≡ 0 → S.positions ≡ 0 → Sound S Rule × Deepest S 0
  unfolding sum
  empty_sound Rule a b = (
    record {
      rule = λ i h. absurd (omega arith);
      first = rw a;
      others = λ v p h. absurd (omega arith);
      filled = λ x h. absurd (omega arith);
      levels = λ v l h q. absurd (omega arith);
    },
    record { most = λ v l h q. absurd (omega arith); some = inl (a, refl) },
  )

  pub empty_unsound : (Rule : ℕ → Type 0) → S.nodes ≡ 0 → 0 < S.positions → Sound S Rule → ⊥
  unfolding sum
  empty_unsound Rule a b s = let z = s.filled 0 b in let y : holders S S.nodes 0 ≡ 0 = rw a in omega arith
