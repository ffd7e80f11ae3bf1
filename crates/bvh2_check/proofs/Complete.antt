-- From marks that are all zero the walk goes through and marks all exactly if each node and each position stands in the tree once.
use mathlib.Core.Path.{◌≡◌, refl, sym, ap, ◌∙◌}
use mathlib.Core.Bool.{Bool, true, false, not, ◌&&◌, ◌||◌}
use mathlib.Core.List.{List, [], ◌∷◌}
use Prim.Native.Nat.{ℕ, zero, suc, ◌+◌, ◌-◌, ◌<◌, ◌≤◌}
use native.Mathlib.Omega.{arith}
use lib.Dec.{eqb}
use lib.ListN.{length, take, get_or, replicate, length-replicate, get_or-replicate, get_or-eq_default}
use Rattle.std.specs.List.{list_any}
use Rattle.lists.proofs.Counts.{Same, equal, apart, same?, same_apart, same_shift, Some, none, some, some?}
use Rattle.lists.proofs.Tells.{Tells, passes, fails, tells_as, tells_same, eqb_tells}
use Rattle.bvh2.specs.Tree.{Tree, leaf, inner}
use Rattle.bvh2.specs.Words.{tree_nodes, tree_of}
use Rattle.bvh2.specs.Decoded.{AllRead, LabelsWithin}
use Rattle.bvh2.proofs.Counts.{label_count, position_count, count-labels, count-positions}
use Rattle.bvh2.proofs.Once.{Once}
use Rattle.bvh2_check.specs.Marking.{mark_count, marking_if, walk, marks_set}
use Rattle.bvh2_check.proofs.Marks.{seen, Walked, walked}

-- the marks below m are those of nodes, and from m on those of positions
seen-node : (m k : ℕ) (t : Tree ℕ) → k < m → seen m k t ≡ label_count k t
unfolding seen label_count
seen-node m k (leaf v b p) h = let i = same_apart k (m + p) (λ e. omega arith) in omega arith
seen-node m k (inner v b l r) h = let i = seen-node m k l h in let j = seen-node m k r h in omega arith

seen_position : (m n p : ℕ) (t : Tree ℕ) → LabelsWithin m n t → seen m (m + p) t ≡ position_count p t
unfolding seen position_count LabelsWithin
seen_position m n p (leaf v b q) w = let i = same_apart (m + p) v (λ e. omega arith) in let j = same_shift m p q in omega arith
seen_position m n p (inner v b l r) w =
    let h = same_apart (m + p) v (λ e. omega arith) in
    let i = seen_position m n p l w.1 in
    let j = seen_position m n p r w.2 in
    omega arith

-- the first k are marked
all_marked_lem : (k : ℕ) (o : List ℕ) → Tells ((i : ℕ) → i < k → 1 ≤ get_or o i 0) (marks_set k o)
unfolding marks_set
all_marked_lem zero o = passes (λ i l. absurd (omega arith))
all_marked_lem (suc k) o = pick (get_or o k 0) refl (marks_set k o) (all_marked_lem k o)
  where
    last : (j : ℕ) → get_or o k 0 ≡ suc j → ((i : ℕ) → i < k → 1 ≤ get_or o i 0) → (i : ℕ) → i < suc k → Same i k → 1 ≤ get_or o i 0
    last j e h i l (equal f s) = rw (f, e) (omega arith)
    last j e h i l (apart f s) = h i (omega arith)

    pick : (x : ℕ) → get_or o k 0 ≡ x → (y : Bool) → Tells ((i : ℕ) → i < k → 1 ≤ get_or o i 0) y
        → Tells ((i : ℕ) → i < suc k → 1 ≤ get_or o i 0) (elim x [ zero ↦ false | suc j ↦ y ])
    pick zero e y t = fails (λ h. let z = h k (omega arith) in omega arith)
    pick (suc j) e true (passes h) = passes (λ i l. last j e h i l (same? i k))
    pick (suc j) e false (fails h) = fails (λ g. h (λ i l. g i (omega arith)))

unset_tells : (k : ℕ) (o : List ℕ) → k ≤ length o
    → Tells ((i : ℕ) → i < k → 1 ≤ get_or o i 0) (not (list_any (λ y. eqb y 0) (take k o)))
unset_tells zero o h = passes (λ i l. absurd (omega arith))
unset_tells (suc k) [] h = absurd (omega arith)
unset_tells (suc k) (x ∷ o) h = pick (eqb x 0) (eqb_tells x 0) (list_any (λ y. eqb y 0) (take k o)) (unset_tells k o (omega arith))
  where
    at : (x ≡ 0 → ⊥) → ((i : ℕ) → i < k → 1 ≤ get_or o i 0) → (i : ℕ) → i < suc k → 1 ≤ get_or (x ∷ o) i 0
    at e h zero l = omega arith
    at e h (suc i) l = h i (omega arith)

    pick : (a : Bool) → Tells (x ≡ 0) a → (b : Bool) → Tells ((i : ℕ) → i < k → 1 ≤ get_or o i 0) (not b)
        → Tells ((i : ℕ) → i < suc k → 1 ≤ get_or (x ∷ o) i 0) (not (a || b))
    pick true (passes e) b t = fails (λ h. let z : 1 ≤ x = h 0 (omega arith) in omega arith)
    pick false (fails e) b t = tells_as t (at e) (λ h i l. h (suc i) (omega arith))

-- none of them is zero
pub set_any : (k : ℕ) (o : List ℕ) → k ≤ length o → not (list_any (λ y. eqb y 0) (take k o)) ≡ marks_set k o
set_any k o h = tells_same (unset_tells k o h) (all_marked_lem k o)

zeros : (l k : ℕ) → ◌≡◌ {A = ℕ} (get_or (replicate l 0) k 0) 0
zeros l k = pick (some? (l - k))
  where
    pick : Some (l - k) → ◌≡◌ {A = ℕ} (get_or (replicate l 0) k 0) 0
    pick (some i) = get_or-replicate l k 0 0 (omega arith)
    pick (none i) = get_or-eq_default (replicate l 0) 0 (rw length-replicate (omega arith))

module _ (ws : List ℕ) (n : ℕ) (w : LabelsWithin (tree_nodes n) n (tree_of ws)) where
  -- every mark is seen once
  EachSeen : Type 0
  EachSeen = (k : ℕ) → k < mark_count n → seen (tree_nodes n) k (tree_of ws) ≡ 1

  once_seen : Once ws n → EachSeen
  unfolding EachSeen
  once_seen h k l = pick (some? (tree_nodes n - k))
    where
      pick : Some (tree_nodes n - k) → seen (tree_nodes n) k (tree_of ws) ≡ 1
      pick (some i) = seen-node (tree_nodes n) k (tree_of ws) (omega arith) ∙ sym (count-labels k (tree_of ws)) ∙ h.nodes k (omega arith)
      pick (none i) =
          let e : k ≡ tree_nodes n + (k - tree_nodes n) = omega arith in
          let p = k - tree_nodes n in
          ap (λ j. seen (tree_nodes n) j (tree_of ws)) e ∙ seen_position (tree_nodes n) n p (tree_of ws) w ∙ sym (count-positions p (tree_of ws)) ∙
          h.held p (omega arith)

  seen_once : AllRead ws (tree_of ws) → EachSeen → Once ws n
  unfolding EachSeen
  seen_once h each = record {
    whole = h;
    nodes = λ v l. count-labels v (tree_of ws) ∙ sym (seen-node (tree_nodes n) v (tree_of ws) l) ∙ each v (omega arith);
    held = λ p l. count-positions p (tree_of ws) ∙ sym (seen_position (tree_nodes n) n p (tree_of ws) w) ∙ each (tree_nodes n + p) (omega arith);
  }

  tells_walk : (went full : Bool) (o o₁ : List ℕ) → ((k : ℕ) → get_or o k 0 ≡ 0) → Walked ws (tree_nodes n) n (tree_of ws) o (marking_if went o₁)
      → Tells ((i : ℕ) → i < mark_count n → 1 ≤ get_or o₁ i 0) full
      → Tells (Once ws n) (went && full)
  unfolding Walked EachSeen
  tells_walk true true o o₁ z h (passes a) =
      let each : EachSeen = λ k l.
      let i = a k l in
      let b = h.1 k in
      let c = z k in
      let d = h.3 k (omega arith) in
      omega arith in
      passes (seen_once h.0 each)
  tells_walk true false o o₁ z h (fails a) = fails (λ e. a (λ i l. let b = h.1 i in let c = once_seen e i l in omega arith))
  tells_walk false full o o₁ z h a =
      fails (λ e.
      let u = h.0 e.whole in
      let c = once_seen e u.0 u.1 in
      let d = z u.0 in
      omega arith)

-- what the code's walk and its look at the marks tell
pub walk_tells : (ws : List ℕ) (n : ℕ) (went : Bool) (o₁ : List ℕ) → LabelsWithin (tree_nodes n) n (tree_of ws) → marking_if went o₁
    ≡ walk ws (tree_nodes n) (tree_of ws) (replicate (mark_count n) 0)
    → Tells (Once ws n) (went && marks_set (mark_count n) o₁)
walk_tells ws n went o₁ w e =
    tells_walk ws n w went (marks_set (mark_count n) o₁) (replicate (mark_count n) 0) o₁ (zeros (mark_count n))
    (rw e (walked ws (tree_nodes n) n (tree_of ws) (replicate (mark_count n) 0) (rw length-replicate (omega arith)) w))
    (all_marked_lem (mark_count n) o₁)
