-- What a walk over a tree does to the marks, and when it goes through.
use mathlib.Core.Path.{◌≡◌, refl, ◌∙◌}
use mathlib.Core.Bool.{Bool, true, false}
use mathlib.Core.List.{List}
use Prim.Native.Nat.{ℕ, zero, suc, ◌+◌, ◌<◌, ◌≤◌}
use native.Mathlib.Omega.{arith}
use lib.ListN.{length, get_or, set, length-set}
use lib.Seq.{get_or-set_same, get_or-set_other}
use Rattle.lists.specs.Counts.{same}
use Rattle.lists.proofs.Counts.{Same, equal, apart, same?, same_self}
use Rattle.lists.proofs.Tells.{Tells, passes, fails}
use Rattle.aabb.specs.declared.Aabb.{Aabb}
use Rattle.bvh2.specs.Tree.{Tree, leaf, inner}
use Rattle.bvh2.specs.Words.{position, link_at}
use Rattle.bvh2.specs.FirstCause.{is_position}
use Rattle.bvh2.specs.Decoded.{AllRead, LabelsWithin}
use Rattle.bvh2.proofs.Once.{position_tells}
use Rattle.bvh2_check.specs.Marking.{Marking, stop, go, mark, walk}

-- a mark: what it asks, and what it changes
unfoldable Marked : List ℕ → ℕ → Marking → Type 0
Marked o i (go o₁) = ((k : ℕ) → get_or o k 0 ≤ 1 → get_or o₁ k 0 ≤ 1) × ((k : ℕ) → get_or o₁ k 0 ≡ get_or o k 0 + same k i) × (length o₁ ≡ length o)
Marked o i (stop o₁) = (1 ≤ get_or o i 0) × (o₁ ≡ o)

set_adds : (o : List ℕ) (i : ℕ) → i < length o → get_or o i 0 ≡ 0 → (k : ℕ) → get_or (set o i 1) k 0 ≡ get_or o k 0 + same k i
set_adds o i h z k = pick (same? k i)
  where
    pick : Same k i → get_or (set o i 1) k 0 ≡ get_or o k 0 + same k i
    pick (equal e one) = rw (e, same_self i, get_or-set_same o i 1 0 h, z)
    pick (apart e nil) = rw (nil, get_or-set_other o i k 1 0 e) (omega arith)

marked : (o : List ℕ) (i : ℕ) → i < length o → Marked o i (mark o i)
unfolding Marked
marked o i h = pick (get_or o i 0) refl
  where
    most : (k : ℕ) → get_or o k 0 ≤ 1 → Same k i → get_or (set o i 1) k 0 ≤ 1
    most k l (equal f one) = rw (f, get_or-set_same o i 1 0 h) (omega arith)
    most k l (apart f nil) = rw (get_or-set_other o i k 1 0 f) l

    pick : (x : ℕ) → get_or o i 0 ≡ x → Marked o i (elim x [ zero ↦ go (set o i 1) | suc k ↦ stop o ])
    pick zero e = (λ k l. most k l (same? k i), set_adds o i h e, length-set o i 1)
    pick (suc k) e = (omega arith, refl)

-- how often a walk marks k
unfoldable pub seen : ℕ → ℕ → Tree ℕ → ℕ
seen m k (leaf v b p) = same k v + same k (m + p)
seen m k (inner v b l r) = same k v + (seen m k l + seen m k r)

-- a walk that goes through adds what it marks and marks nothing twice, and the tree is whole; one that stops does so at a leaf below which the
-- words go on, or at a second mark
unfoldable pub Walked : List ℕ → ℕ → ℕ → Tree ℕ → List ℕ → Marking → Type 0
Walked ws m n t o (go o₁) =
    AllRead ws t × ((k : ℕ) → get_or o₁ k 0 ≡ get_or o k 0 + seen m k t) × (length o₁ ≡ length o) × ((k : ℕ) → get_or o k 0 ≤ 1 → get_or o₁ k 0 ≤ 1)
Walked ws m n t o (stop o₁) = (AllRead ws t → (k : ℕ) × (k < m + n) × (2 ≤ get_or o k 0 + seen m k t)) × (length o₁ ≡ length o)

leaf_walked : (ws : List ℕ) (m n v : ℕ) (b : Aabb) (p : ℕ) (o : List ℕ) → m + n ≤ length o → v < m → p < n
    → Walked ws m n (leaf v b p) o (walk ws m (leaf v b p) o)
unfolding Marked Walked walk seen AllRead
leaf_walked ws m n v b p o h hv hp = first (mark o v) (marked o v (omega arith))
  where
    third : (o₁ : List ℕ) → Marked o v (go o₁) → link_at ws v ≡ position p → (r : Marking) → Marked o₁ (m + p) r → Walked ws m n (leaf v b p) o r
    third o₁ a e (go o₂) c = (e, λ k. c.1 k ∙ rw (a.1 k) (omega arith), c.2 ∙ a.2, λ k l. c.0 k (a.0 k l))
    third o₁ a e (stop o₂) c = (λ _. (m + p, omega arith, let z = a.1 (m + p) in let q = same_self (m + p) in omega arith), rw c.1 a.2)

    second : (o₁ : List ℕ) → Marked o v (go o₁) → (x : Bool) → Tells (link_at ws v ≡ position p) x
        → Walked ws m n (leaf v b p) o (elim x [ false ↦ stop o₁ | true ↦ mark o₁ (m + p) ])
    second o₁ a true (passes e) = third o₁ a e (mark o₁ (m + p)) (marked o₁ (m + p) (omega (arith, a.2)))
    second o₁ a false (fails e) = (λ w. absurd (e w), a.2)

    first : (r : Marking) → Marked o v r → Walked ws m n (leaf v b p) o
        (elim r [ stop o₁ ↦ stop o₁ | go o₁ ↦ elim (is_position p (link_at ws v)) [ false ↦ stop o₁ | true ↦ mark o₁ (m + p) ] ])
    first (go o₁) a = second o₁ a (is_position p (link_at ws v)) (position_tells p (link_at ws v))
    first (stop o₁) a = (λ _. (v, omega arith, let q = same_self v in omega arith), rw a.1 refl)

-- the walks below an inner node, as functions of the marks with which they begin
inner_walked : (ws : List ℕ) (m n v : ℕ) (b : Aabb) (l r : Tree ℕ) (o : List ℕ) → m + n ≤ length o → v < m
    → ((o₁ : List ℕ) → m + n ≤ length o₁ → Walked ws m n l o₁ (walk ws m l o₁))
    → ((o₂ : List ℕ) → m + n ≤ length o₂ → Walked ws m n r o₂ (walk ws m r o₂))
    → Walked ws m n (inner v b l r) o (walk ws m (inner v b l r) o)
unfolding Marked Walked walk seen AllRead
inner_walked ws m n v b l r o h hv wl wr = first (mark o v) (marked o v (omega arith))
  where
    third : (o₁ : List ℕ) → Marked o v (go o₁) → (o₂ : List ℕ) → Walked ws m n l o₁ (go o₂) → (s : Marking) → Walked ws m n r o₂ s
        → Walked ws m n (inner v b l r) o s
    third o₁ x o₂ y (go o₃) z = ((y.0, z.0), λ k. z.1 k ∙ rw (y.1 k, x.1 k) (omega arith), z.2 ∙ y.2 ∙ x.2, λ k i. z.3 k (y.3 k (x.0 k i)))
    third o₁ x o₂ y (stop o₃) z =
        (λ w. let u = z.0 w.1 in (u.0, u.1, let i = x.1 u.0 in let j = y.1 u.0 in omega arith), z.1 ∙ y.2 ∙ x.2)

    second : (o₁ : List ℕ) → Marked o v (go o₁) → (s : Marking) → Walked ws m n l o₁ s
        → Walked ws m n (inner v b l r) o (elim s [ stop o₂ ↦ stop o₂ | go o₂ ↦ walk ws m r o₂ ])
    second o₁ x (go o₂) y = third o₁ x o₂ y (walk ws m r o₂) (wr o₂ (omega (arith, x.2, y.2)))
    second o₁ x (stop o₂) y = (λ w. let u = y.0 w.0 in (u.0, u.1, let i = x.1 u.0 in omega arith), y.1 ∙ x.2)

    first : (s : Marking) → Marked o v s → Walked ws m n (inner v b l r) o
        (elim s [ stop o₁ ↦ stop o₁ | go o₁ ↦ elim (walk ws m l o₁) [ stop o₂ ↦ stop o₂ | go o₂ ↦ walk ws m r o₂ ] ])
    first (go o₁) x = second o₁ x (walk ws m l o₁) (wl o₁ (omega (arith, x.2)))
    first (stop o₁) x = (λ _. (v, omega arith, let q = same_self v in omega arith), rw x.1 refl)

pub walked : (ws : List ℕ) (m n : ℕ) (t : Tree ℕ) (o : List ℕ) → m + n ≤ length o → LabelsWithin m n t → Walked ws m n t o (walk ws m t o)
unfolding LabelsWithin
walked ws m n (leaf v b p) o h w = leaf_walked ws m n v b p o h w.0 w.1
walked ws m n (inner v b l r) o h w = inner_walked ws m n v b l r o h w.0 (λ o₁ h₁. walked ws m n l o₁ h₁ w.1)
    (λ o₂ h₂. walked ws m n r o₂ h₂ w.2)
