-- Opening a node gives at most eight children, parts of it that together hold its positions in order.
use mathlib.Core.Path.{◌≡◌, refl, sym, ap₂, ◌∙◌}
use mathlib.Core.List.{List, [], ◌∷◌, ◌++◌, append_assoc, append-nil}
use Prim.Native.Nat.{ℕ, ◌+◌, ◌^◌, ◌≤◌, ◌<◌}
use native.Mathlib.Omega.{arith}
use lib.ListN.{length, length-append}
use Rattle.aabb.specs.declared.Aabb.{Aabb}
use Rattle.bvh2.specs.Tree.{Tree, leaf, inner, leaves, depth, positions}
use Rattle.bvh2.specs.Decoded.{BoxesAccepted}
use Rattle.bvh2.proofs.Reading.{depth_inner}
use Rattle.cost.specs.Table.{Kind, LEAF, INTERNAL, DISTRIBUTE, table}
use Rattle.cost.proofs.Bound.{first_splits}
use Rattle.cost.proofs.Splits.{leaf_distribute, leaf_kind, distribute_splits}
use Rattle.children.specs.Gather.{opened, gather, part, gathered_positions, EachTree}

-- what holds of the child alone and of what it opens into holds of its part
part_is : {A : Type 0} (P : List (Tree A) → Type 0) (k : Kind) (t : Tree A) (g : List (Tree A)) → P (t ∷ []) → (k ≡ DISTRIBUTE → P g)
    → P (opened k t g)
part_is P LEAF t g p q = p
part_is P INTERNAL t g p q = p
part_is P DISTRIBUTE t g p q = q refl

module _ {A : Type 0} (limit : ℕ) where
  -- ---- how many
  part_width : (t : Tree A) (i : ℕ) → ((table limit t i).kind ≡ DISTRIBUTE → length (gather limit t i) ≤ i + 1) → length (part limit t i) ≤ i + 1
  part_width t i h = part_is (λ (x : List (Tree A)). length x ≤ i + 1) (table limit t i).kind t (gather limit t i) (omega arith) h

  -- a node that distributes at entry i gives at most i + 1 children
  pub distribute_width : (t : Tree A) (i : ℕ) → (table limit t i).kind ≡ DISTRIBUTE → length (gather limit t i) ≤ i + 1
  unfolding gather
  distribute_width (leaf v box p) i h = absurd (leaf_distribute (sym (leaf_kind limit v box p i) ∙ h))
  distribute_width (inner v box a b) i h =
      let d = table limit (inner v box a b) i in
      let x = part_width a d.left (distribute_width a d.left) in
      let y = part_width b d.right (distribute_width b d.right) in
      let z = distribute_splits limit (inner v box a b) i h in
      simp length-append (omega arith)

  -- a wide node has at most 8
  pub first_width : (v : A) (box : Aabb) (a b : Tree A) → BoxesAccepted (inner v box a b) → leaves (inner v box a b) < 2 ^ 23
      → length (gather limit (inner v box a b) 0) ≤ 8
  unfolding gather
  first_width v box a b h s =
      let d = table limit (inner v box a b) 0 in
      let x = part_width a d.left (distribute_width a d.left) in
      let y = part_width b d.right (distribute_width b d.right) in
      let z = first_splits limit v box a b h s in
      simp length-append (omega arith)

  -- a single leaf gives itself
  pub one_child : (v : A) (box : Aabb) (p i : ℕ) → gather limit (leaf v box p) i ≡ leaf v box p ∷ []
  unfolding gather
  one_child v box p i = refl

  pub gather_width : (t : Tree A) → BoxesAccepted t → leaves t < 2 ^ 23 → length (gather limit t 0) ≤ 8
  gather_width (leaf v box p) h s = rw (one_child v box p 0) (omega arith)
  gather_width (inner v box a b) h s = first_width v box a b h s

  some-part : (t : Tree A) (i : ℕ) → 1 ≤ length (gather limit t i) → 1 ≤ length (part limit t i)
  some-part t i h = part_is (λ (x : List (Tree A)). 1 ≤ length x) (table limit t i).kind t (gather limit t i) (omega arith) (λ q. h)

  pub some_child : (t : Tree A) (i : ℕ) → 1 ≤ length (gather limit t i)
  unfolding gather
  some_child (leaf v box p) i = omega arith
  some_child (inner v box a b) i =
      let d = table limit (inner v box a b) i in
      let x = some-part a d.left (some_child a d.left) in
      simp length-append (omega arith)

  -- an inner node gives at least two
  pub two-children : (v : A) (box : Aabb) (a b : Tree A) (i : ℕ) → 2 ≤ length (gather limit (inner v box a b) i)
  unfolding gather
  two-children v box a b i =
      let d = table limit (inner v box a b) i in
      let x = some-part a d.left (some_child a d.left) in
      let y = some-part b d.right (some_child b d.right) in
      simp length-append (omega arith)

  -- ---- what they hold
  positions-append : (s t : List (Tree A)) → gathered_positions (s ++ t) ≡ gathered_positions s ++ gathered_positions t
  unfolding gathered_positions
  positions-append [] t = refl
  positions-append (x ∷ s) t = rw (positions-append s t) (sym (append_assoc (positions x) (gathered_positions s) (gathered_positions t)))

  part-positions : (t : Tree A) (i : ℕ) → gathered_positions (gather limit t i) ≡ positions t → gathered_positions (part limit t i) ≡ positions t
  unfolding gathered_positions
  part-positions t i h = part_is (λ (x : List (Tree A)). gathered_positions x ≡ positions t) (table limit t i).kind t (gather limit t i)
      (append-nil (positions t)) (λ q. h)

  -- the leaves of the children, in gathered order, are the leaves of the tree
  pub gather-positions : (t : Tree A) (i : ℕ) → gathered_positions (gather limit t i) ≡ positions t
  unfolding gather positions gathered_positions
  gather-positions (leaf v box p) i = refl
  gather-positions (inner v box a b) i =
      let d = table limit (inner v box a b) i in
      positions-append (part limit a d.left) (part limit b d.right)
      ∙ ap₂ (λ (x y : List ℕ). x ++ y) (part-positions a d.left (gather-positions a d.left))
      (part-positions b d.right (gather-positions b d.right))

  -- ---- where they stand
  each_append : (P : Tree A → Type 0) (s t : List (Tree A)) → EachTree P s → EachTree P t → EachTree P (s ++ t)
  unfolding EachTree
  each_append P [] t h k = k
  each_append P (x ∷ s) t h k = (h.0, each_append P s t h.1 k)

  module _ (P : Tree A → Type 0) (below : (v : A) (box : Aabb) (a b : Tree A) → P (inner v box a b) → P a × P b) where
    part-each : (t : Tree A) (i : ℕ) → P t → EachTree P (gather limit t i) → EachTree P (part limit t i)
    unfolding EachTree
    part-each t i p h = part_is (EachTree P) (table limit t i).kind t (gather limit t i) (p, tt) (λ q. h)

    -- what a node hands on to its children holds of each tree gathered below it
    pub gather-each : (t : Tree A) (i : ℕ) → P t → EachTree P (gather limit t i)
    unfolding gather EachTree
    gather-each (leaf v box p) i h = (h, tt)
    gather-each (inner v box a b) i h =
        let d = table limit (inner v box a b) i in
        let k = below v box a b h in
        each_append P (part limit a d.left) (part limit b d.right)
        (part-each a d.left k.0 (gather-each a d.left k.0)) (part-each b d.right k.1 (gather-each b d.right k.1))

    -- for an inner node it is enough that it holds of its two children
    gather_below_lem : (v : A) (box : Aabb) (a b : Tree A) (i : ℕ) → P a → P b → EachTree P (gather limit (inner v box a b) i)
    unfolding gather
    gather_below_lem v box a b i p q =
        let d = table limit (inner v box a b) i in
        each_append P (part limit a d.left) (part limit b d.right)
        (part-each a d.left p (gather-each a d.left p)) (part-each b d.right q (gather-each b d.right q))

-- ---- an inner tree is deeper than each tree that it opens into
pub gather_shallower : {A : Type 0} (limit : ℕ) (v : A) (box : Aabb) (a b : Tree A) (i : ℕ)
    → EachTree (λ t. depth t < depth (inner v box a b)) (gather limit (inner v box a b) i)
gather_shallower {A} limit v box a b i =
    let q = depth_inner v box a b in
    gather_below_lem limit (λ t. depth t < depth (inner v box a b)) below v box a b i (omega (arith, q)) (omega (arith, q))
  where
    below : (w : A) (c : Aabb) (l r : Tree A) → depth (inner w c l r) < depth (inner v box a b)
        → (depth l < depth (inner v box a b)) × (depth r < depth (inner v box a b))
    below w c l r k = let z = depth_inner w c l r in (omega (arith, z, k), omega (arith, z, k))
