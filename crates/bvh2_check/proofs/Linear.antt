-- The walk is linear in the number of nodes, whatever the words: each call that goes on has marked a node that was not marked.
use mathlib.Core.Path.{◌≡◌, refl, ◌∙◌}
use mathlib.Core.Bool.{Bool, true, false}
use mathlib.Core.List.{List}
use Prim.Native.Nat.{ℕ, zero, suc, ◌+◌, ◌*◌, ◌<◌, ◌≤◌}
use native.Mathlib.Omega.{arith}
use lib.ListN.{length, get_or, set, length-set}
use lib.Seq.{get_or-set_same, get_or-set_other}
use Rattle.lists.specs.Counts.{same}
use Rattle.lists.proofs.Counts.{Same, equal, apart, same?, same_self, same_apart, same_most}
use Rattle.aabb.specs.declared.Aabb.{Aabb}
use Rattle.bvh2.specs.Tree.{Tree, leaf, inner}
use Rattle.bvh2.specs.Words.{tree_nodes, link_at, tree_at}
use Rattle.bvh2.specs.FirstCause.{is_position}
use Rattle.bvh2.specs.Decoded.{LabelsWithin}
use Rattle.bvh2.proofs.Paths.{within_inside}
use Rattle.bvh2_check.specs.Marking.{Marking, stop, go, mark, walk, mark_calls, MarkReady}

-- how many of the first k are not marked
unfoldable pub unmarked : ℕ → List ℕ → ℕ
unmarked zero o = 0
unmarked (suc k) o = same 0 (get_or o k 0) + unmarked k o

pub unmarked_most : (k : ℕ) (o : List ℕ) → unmarked k o ≤ k
unfolding unmarked
unmarked_most zero o = omega arith
unmarked_most (suc k) o = let h = unmarked_most k o in let i = same_most 0 (get_or o k 0) in omega arith

-- a mark past the first k changes nothing there
unmarked_past : (k i : ℕ) (o : List ℕ) → k ≤ i → unmarked k (set o i 1) ≡ unmarked k o
unfolding unmarked
unmarked_past zero i o h = refl
unmarked_past (suc k) i o h = rw (get_or-set_other o i k 1 0 (λ e. omega arith), unmarked_past k i o (omega arith))

-- and a first mark among them takes one away
unmarked_less : (k i : ℕ) (o : List ℕ) → i < k → i < length o → get_or o i 0 ≡ 0 → suc (unmarked k (set o i 1)) ≡ unmarked k o
unfolding unmarked
unmarked_less zero i o h l z = absurd (omega arith)
unmarked_less (suc k) i o h l z = pick (same? k i) (unmarked_less k i o)
  where
    pick : Same k i → (i < k → i < length o → get_or o i 0 ≡ 0 → suc (unmarked k (set o i 1)) ≡ unmarked k o)
        → suc (same 0 (get_or (set o i 1) k 0) + unmarked k (set o i 1)) ≡ same 0 (get_or o k 0) + unmarked k o
    pick (equal e one) f =
        let a : same 0 (get_or (set o i 1) k 0) ≡ 0 = rw (e, get_or-set_same o i 1 0 l) (same_apart 0 1 (λ q. omega arith)) in
        let b : same 0 (get_or o k 0) ≡ 1 = rw (e, z) (same_self 0) in
        let c = unmarked_past k i o (omega arith) in
        omega arith
    pick (apart e nil) f =
        let a : get_or (set o i 1) k 0 ≡ get_or o k 0 = get_or-set_other o i k 1 0 e in
        let c = f (omega arith) l z in
        rw a (omega arith)

-- what a mark does to them: of a node (d = 1), and of a position (d = 0)
unfoldable Took : ℕ → List ℕ → ℕ → Marking → Type 0
Took m o d (go o₁) = (d + unmarked m o₁ ≡ unmarked m o) × (length o₁ ≡ length o)
Took m o d (stop o₁) = (unmarked m o₁ ≡ unmarked m o) × (length o₁ ≡ length o)

took_node : (m : ℕ) (o : List ℕ) (i : ℕ) → i < m → i < length o → Took m o 1 (mark o i)
unfolding Took
took_node m o i h l = pick (get_or o i 0) refl
  where
    pick : (x : ℕ) → get_or o i 0 ≡ x → Took m o 1 (elim x [ zero ↦ go (set o i 1) | suc k ↦ stop o ])
    pick zero e = let b = unmarked_less m i o h l e in (omega arith, length-set o i 1)
    pick (suc k) e = (refl, refl)

took_position : (m : ℕ) (o : List ℕ) (i : ℕ) → m ≤ i → Took m o 0 (mark o i)
unfolding Took
took_position m o i h = pick (get_or o i 0)
  where
    pick : (x : ℕ) → Took m o 0 (elim x [ zero ↦ go (set o i 1) | suc k ↦ stop o ])
    pick zero = let b = unmarked_past m i o h in (omega arith, length-set o i 1)
    pick (suc k) = (refl, refl)

-- c calls from the marks o: at most one, and two for each node that they mark
unfoldable Spent : ℕ → List ℕ → Marking → ℕ → Type 0
Spent m o (go o₁) c = (c + 2 * unmarked m o₁ ≤ 1 + 2 * unmarked m o) × (length o₁ ≡ length o)
Spent m o (stop o₁) c = (c + 2 * unmarked m o₁ ≤ 1 + 2 * unmarked m o) × (length o₁ ≡ length o)

leaf_spent : (ws : List ℕ) (m v : ℕ) (b : Aabb) (p : ℕ) (o : List ℕ) → v < m → v < length o → Spent m o (walk ws m (leaf v b p) o) 1
unfolding walk Took Spent
leaf_spent ws m v b p o h l = first (mark o v) (took_node m o v h l)
  where
    third : (o₁ : List ℕ) → Took m o 1 (go o₁) → (r : Marking) → Took m o₁ 0 r → Spent m o r 1
    third o₁ x (go o₂) y = let a = x.0 in let c = y.0 in (omega arith, y.1 ∙ x.1)
    third o₁ x (stop o₂) y = let a = x.0 in let c = y.0 in (omega arith, y.1 ∙ x.1)

    second : (o₁ : List ℕ) → Took m o 1 (go o₁) → (s : Bool) → Spent m o (elim s [ false ↦ stop o₁ | true ↦ mark o₁ (m + p) ]) 1
    second o₁ x true = third o₁ x (mark o₁ (m + p)) (took_position m o₁ (m + p) (omega arith))
    second o₁ x false = let a = x.0 in (omega arith, x.1)

    first : (r : Marking) → Took m o 1 r → Spent m o
        (elim r [ stop o₁ ↦ stop o₁ | go o₁ ↦ elim (is_position p (link_at ws v)) [ false ↦ stop o₁ | true ↦ mark o₁ (m + p) ] ]) 1
    first (go o₁) x = second o₁ x (is_position p (link_at ws v))
    first (stop o₁) x = let a = x.0 in (omega arith, x.1)

inner_spent : (ws : List ℕ) (m v : ℕ) (b : Aabb) (l r : Tree ℕ) (o : List ℕ) → v < m → m ≤ length o
    → ((o₁ : List ℕ) → m ≤ length o₁ → Spent m o₁ (walk ws m l o₁) (mark_calls ws m l o₁))
    → ((o₂ : List ℕ) → m ≤ length o₂ → Spent m o₂ (walk ws m r o₂) (mark_calls ws m r o₂))
    → Spent m o (walk ws m (inner v b l r) o) (mark_calls ws m (inner v b l r) o)
unfolding walk mark_calls Took Spent
inner_spent ws m v b l r o h k sl sr = first (mark o v) (took_node m o v h (omega arith))
  where
    third : (o₁ : List ℕ) → Took m o 1 (go o₁) → (o₂ : List ℕ) → Spent m o₁ (go o₂) (mark_calls ws m l o₁) → (s : Marking)
        → Spent m o₂ s (mark_calls ws m r o₂) → Spent m o s (1 + (mark_calls ws m l o₁ + mark_calls ws m r o₂))
    third o₁ x o₂ y (go o₃) z = let p = x.0 in let q = y.0 in let s = z.0 in (omega arith, z.1 ∙ y.1 ∙ x.1)
    third o₁ x o₂ y (stop o₃) z = let p = x.0 in let q = y.0 in let s = z.0 in (omega arith, z.1 ∙ y.1 ∙ x.1)

    second : (o₁ : List ℕ) → Took m o 1 (go o₁) → (s : Marking) → Spent m o₁ s (mark_calls ws m l o₁)
        → Spent m o (elim s [ stop o₂ ↦ stop o₂ | go o₂ ↦ walk ws m r o₂ ])
        (elim s [ stop o₂ ↦ 1 + mark_calls ws m l o₁ | go o₂ ↦ 1 + (mark_calls ws m l o₁ + mark_calls ws m r o₂) ])
    second o₁ x (go o₂) y = third o₁ x o₂ y (walk ws m r o₂) (sr o₂ (omega (arith, x.1, y.1)))
    second o₁ x (stop o₂) y = let p = x.0 in let q = y.0 in (omega arith, y.1 ∙ x.1)

    first : (s : Marking) → Took m o 1 s
        → Spent m o (elim s [ stop o₁ ↦ stop o₁ | go o₁ ↦ elim (walk ws m l o₁) [ stop o₂ ↦ stop o₂ | go o₂ ↦ walk ws m r o₂ ] ])
        (elim s [
          | stop o₁ ↦ 1
          | go o₁ ↦ elim (walk ws m l o₁)
              [ stop o₂ ↦ 1 + mark_calls ws m l o₁ | go o₂ ↦ 1 + (mark_calls ws m l o₁ + mark_calls ws m r o₂) ]
        ])
    first (go o₁) x = second o₁ x (walk ws m l o₁) (sl o₁ (omega (arith, x.1)))
    first (stop o₁) x = let p = x.0 in (omega arith, x.1)

spent : (ws : List ℕ) (m n : ℕ) (t : Tree ℕ) (o : List ℕ) → m ≤ length o → LabelsWithin m n t → Spent m o (walk ws m t o) (mark_calls ws m t o)
unfolding LabelsWithin mark_calls
spent ws m n (leaf v b p) o l w = leaf_spent ws m v b p o w.0 (omega (arith, w.0))
spent ws m n (inner v b l r) o k w = inner_spent ws m v b l r o w.0 k (λ o₁ i. spent ws m n l o₁ i w.1) (λ o₂ i. spent ws m n r o₂ i w.2)

few : (m c : ℕ) (o : List ℕ) (s : Marking) → Spent m o s c → c ≤ 1 + 2 * unmarked m o
unfolding Spent
few m c o (go o₁) h = let a = h.0 in omega arith
few m c o (stop o₁) h = let a = h.0 in omega arith

-- LINEAR: a call makes at most one call and two for each node not yet marked
pub linear : (ws : List ℕ) (n v d : ℕ) (o : List ℕ) → MarkReady ws n (length o) v
    → mark_calls ws (tree_nodes n) (tree_at ws d v) o ≤ 1 + 2 * unmarked (tree_nodes n) o
linear ws n v d o r =
    few (tree_nodes n) (mark_calls ws (tree_nodes n) (tree_at ws d v) o) o (walk ws (tree_nodes n) (tree_at ws d v) o)
    (spent ws (tree_nodes n) n (tree_at ws d v) o (omega (arith, r.room)) (within_inside ws n r.inside d v r.node))

-- so from the root there are at most 1 + 2 (2n − 1)
pub linear_root : (ws : List ℕ) (n : ℕ) (o : List ℕ) → MarkReady ws n (length o) 0
    → mark_calls ws (tree_nodes n) (tree_at ws 127 0) o ≤ 1 + 2 * tree_nodes n
linear_root ws n o r = let i = linear ws n 0 127 o r in let j = unmarked_most (tree_nodes n) o in omega arith
