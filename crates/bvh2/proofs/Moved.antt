-- Trees under other labels and at other positions: what stays, what moves with them, and where they stand in words.
use mathlib.Core.Path.{◌≡◌, refl, sym, ap, subst, ◌∙◌}
use mathlib.Core.List.{List, map, map-append}
use Prim.Native.Nat.{ℕ, ◌+◌, ◌<◌, ◌≤◌}
use native.Mathlib.Decide.{ℕ_discrete}
use native.Mathlib.Omega.{arith}
use Rattle.lists.specs.Counts.{same}
use Rattle.lists.proofs.Counts.{same_self}
use Rattle.aabb.specs.declared.Aabb.{Aabb}
use Rattle.bvh2.specs.Tree.{Tree, leaf, inner, label_of, box_of, leaves, depth, labels, positions, relabel, reposition}
use Rattle.bvh2.specs.Words.{children, position, link_at, box_at}
use Rattle.bvh2.specs.Decoded.{BoxesAccepted}
use Rattle.bvh2.proofs.Counts.{label_count, root_counts}
use Rattle.bvh2.proofs.Stands.{Stands}

-- ---- other labels
module _ {A B : Type 0} (f : A → B) where
  pub label_relabel : (t : Tree A) → label_of (relabel f t) ≡ f (label_of t)
  unfolding label_of relabel
  label_relabel (leaf v b p) = refl
  label_relabel (inner v b l r) = refl

  pub box_relabel : (t : Tree A) → box_of (relabel f t) ≡ box_of t
  unfolding box_of relabel
  box_relabel (leaf v b p) = refl
  box_relabel (inner v b l r) = refl

  pub leaves-relabel : (t : Tree A) → leaves (relabel f t) ≡ leaves t
  unfolding leaves relabel
  leaves-relabel (leaf v b p) = refl
  leaves-relabel (inner v b l r) = rw (leaves-relabel l, leaves-relabel r)

  pub depth-relabel : (t : Tree A) → depth (relabel f t) ≡ depth t
  unfolding depth relabel
  depth-relabel (leaf v b p) = refl
  depth-relabel (inner v b l r) = rw (depth-relabel l, depth-relabel r)

  pub positions-relabel : (t : Tree A) → positions (relabel f t) ≡ positions t
  unfolding positions relabel
  positions-relabel (leaf v b p) = refl
  positions-relabel (inner v b l r) = rw (positions-relabel l, positions-relabel r)

  pub labels-relabel : (t : Tree A) → labels (relabel f t) ≡ map f (labels t)
  unfolding labels relabel
  labels-relabel (leaf v b p) = refl
  labels-relabel (inner v b l r) = rw (labels-relabel l, labels-relabel r, map-append f (labels l) (labels r))

  pub boxes_relabel : (t : Tree A) → BoxesAccepted t → BoxesAccepted (relabel f t)
  unfolding BoxesAccepted relabel
  boxes_relabel (leaf v b p) h = h
  boxes_relabel (inner v b l r) h = (h.0, boxes_relabel l h.1, boxes_relabel r h.2)

-- ---- other positions
module _ {A : Type 0} (f : ℕ → ℕ) where
  pub label_reposition : (t : Tree A) → label_of (reposition f t) ≡ label_of t
  unfolding label_of reposition
  label_reposition (leaf v b p) = refl
  label_reposition (inner v b l r) = refl

  pub leaves-reposition : (t : Tree A) → leaves (reposition f t) ≡ leaves t
  unfolding leaves reposition
  leaves-reposition (leaf v b p) = refl
  leaves-reposition (inner v b l r) = rw (leaves-reposition l, leaves-reposition r)

  pub depth-reposition : (t : Tree A) → depth (reposition f t) ≡ depth t
  unfolding depth reposition
  depth-reposition (leaf v b p) = refl
  depth-reposition (inner v b l r) = rw (depth-reposition l, depth-reposition r)

  pub positions-reposition : (t : Tree A) → positions (reposition f t) ≡ map f (positions t)
  unfolding positions reposition
  positions-reposition (leaf v b p) = refl
  positions-reposition (inner v b l r) = rw (positions-reposition l, positions-reposition r, map-append f (positions l) (positions r))

  pub labels-reposition : (t : Tree A) → labels (reposition f t) ≡ labels t
  unfolding labels reposition
  labels-reposition (leaf v b p) = refl
  labels-reposition (inner v b l r) = rw (labels-reposition l, labels-reposition r)

  pub boxes_reposition : (t : Tree A) → BoxesAccepted t → BoxesAccepted (reposition f t)
  unfolding BoxesAccepted reposition
  boxes_reposition (leaf v b p) h = h
  boxes_reposition (inner v b l r) h = (h.0, boxes_reposition l h.1, boxes_reposition r h.2)

  pub reposition_none : ((p : ℕ) → f p ≡ p) → (t : Tree A) → reposition f t ≡ t
  unfolding reposition
  reposition_none h (leaf v b p) = ap (leaf v b) (h p)
  reposition_none h (inner v b l r) = rw (reposition_none h l, reposition_none h r)

-- ---- standing in words: node v of some words is node `move v` of others, with its children moved alike, or its position
module _ (ws moved : List ℕ) (move place : ℕ → ℕ) where
  pub record MovedAt (v : ℕ) : Type 0 where
    pub box : box_at moved (move v) ≡ box_at ws v
    pub pair : (f : ℕ) → 0 < f → link_at ws v ≡ children f → link_at moved (move v) ≡ children (move f)
    pub held : (p : ℕ) → link_at ws v ≡ position p → link_at moved (move v) ≡ position (place p)

  -- a pair of children, of which neither is node 0, stays a pair
  abbrev Pairs : Type 0
  Pairs = (f : ℕ) → 0 < f → move (f + 1) ≡ move f + 1

  label_moved : (t : Tree ℕ) → label_of (reposition place (relabel move t)) ≡ move (label_of t)
  label_moved t = label_reposition place (relabel move t) ∙ label_relabel move t

  -- no label is 0
  not_first : (t : Tree ℕ) → label_count 0 t ≡ 0 → 0 < label_of t
  not_first t z = go (ℕ_discrete (label_of t) 0)
    where
      go : Dec (label_of t ≡ 0) → 0 < label_of t
      go (yes e) = let i : 1 ≤ label_count 0 t = subst (λ (v : ℕ). 1 ≤ label_count v t) e (root_counts t) in absurd (omega arith)
      go (no e) = omega arith

  leaf_moved : (v : ℕ) (b : Aabb) (p : ℕ) → MovedAt v → Stands ws (leaf v b p) → Stands moved (reposition place (relabel move (leaf v b p)))
  unfolding Stands relabel reposition
  leaf_moved v b p a s = (a.box ∙ s.0, a.held p s.1)

  inner_moved : Pairs → (v : ℕ) (b : Aabb) (l r : Tree ℕ) → MovedAt v → Stands ws (inner v b l r) → label_count 0 l ≡ 0
      → Stands moved (reposition place (relabel move l)) → Stands moved (reposition place (relabel move r))
      → Stands moved (reposition place (relabel move (inner v b l r)))
  unfolding Stands relabel reposition
  inner_moved pairs v b l r a s z x y = (
    a.box ∙ s.0,
    a.pair (label_of l) (not_first l z) s.1 ∙ ap children (sym (label_moved l)),
    label_moved r ∙ ap move s.2 ∙ pairs (label_of l) (not_first l z) ∙ ap (λ (k : ℕ). k + 1) (sym (label_moved l)),
    x,
    y,
  )

  -- a tree without node 0
  stands_below : Pairs → (t : Tree ℕ) → Stands ws t → label_count 0 t ≡ 0 → ((v : ℕ) → 1 ≤ label_count v t → MovedAt v)
      → Stands moved (reposition place (relabel move t))
  unfolding Stands label_count label_of
  stands_below pairs (leaf v b p) s z m = leaf_moved v b p (m v (root_counts (leaf v b p))) s
  stands_below pairs (inner v b l r) s z m =
      inner_moved pairs v b l r (m v (root_counts (inner v b l r))) s (omega arith)
      (stands_below pairs l s.3 (omega arith) (λ u h. m u (omega arith)))
      (stands_below pairs r s.4 (omega arith) (λ u h. m u (omega arith)))

  -- a tree whose root is node 0, and no other of its nodes
  pub stands_moved : Pairs → (t : Tree ℕ) → Stands ws t → label_of t ≡ 0 → label_count 0 t ≤ 1 → ((v : ℕ) → 1 ≤ label_count v t → MovedAt v)
      → Stands moved (reposition place (relabel move t))
  unfolding Stands label_count label_of
  stands_moved pairs (leaf v b p) s e z m = leaf_moved v b p (m v (root_counts (leaf v b p))) s
  stands_moved pairs (inner v b l r) s e z m =
      let c : same 0 v ≡ 1 = rw e (same_self 0) in
      inner_moved pairs v b l r (m v (root_counts (inner v b l r))) s (omega arith)
      (stands_below pairs l s.3 (omega arith) (λ u h. m u (omega arith)))
      (stands_below pairs r s.4 (omega arith) (λ u h. m u (omega arith)))
