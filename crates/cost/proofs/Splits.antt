-- What the entries of a table decide: an entry is entry 0's decision, or distributes the node with splits that add up to less than its number.
use mathlib.Core.Path.{◌≡◌, refl, sym, ap, subst, ◌∙◌}
use mathlib.Core.Bool.{Bool, true, false, ◌&&◌, cond, true≢false}
use mathlib.Core.Logic.{◌⊎◌, inl, inr}
use Prim.Native.Nat.{ℕ, zero, suc, ◌+◌, ◌-◌, ◌/◌, ◌%◌, ◌^◌, ◌≤◌, ◌<◌, max}
use native.Mathlib.Omega.{arith}
use lib.Dec.{T, eqb, leb, leb→le}
use lib.Ieee.{Float, inf, binary32, add, lt}
use borrow.Author.Tests.{eq-eqb, lt-leb}
use Rattle.aabb.specs.declared.Aabb.{Aabb}
use Rattle.aabb.specs.Aabb.{half_area}
use Rattle.bvh2.specs.Tree.{Tree, leaf, inner, leaves}
use Rattle.bvh2.specs.Decoded.{BoxesAccepted}
use Rattle.cost.specs.declared.Split.{Split}
use Rattle.cost.specs.Table.{best_of, best_split, LEAF, INTERNAL, DISTRIBUTE, Decision, leaf_cost, internal_cost, next_decision, decision, table}
use Rattle.cost.specs.Table.{code, word}
use Rattle.cost.proofs.Bound.{either, leaves_pos, first_splits}

-- a split that was found adds up to n
split_cases : (l r : ℕ → Float) (n : ℕ) (start : Float) (k : ℕ) → k ≤ suc n
    → ((best_of l r n start k).left ≡ 255) ⊎ ((best_of l r n start k).left + (best_of l r n start k).right ≡ n)
unfolding best_of
split_cases l r n start zero h = inl refl
split_cases l r n start (suc k) h =
    either (λ (s : Split). (s.left ≡ 255) ⊎ (s.left + s.right ≡ n)) (lt (add binary32 (l k) (r (n - k))) (best_of l r n start k).cost) _
    (best_of l r n start k)
    (inr (omega arith)) (split_cases l r n start k (omega arith))

-- d distributes its node, with splits that add up to less than i
pub record Distributes (d : Decision) (i : ℕ) : Type 0 where
  pub kind : d.kind ≡ DISTRIBUTE
  pub few : d.left + d.right < i

next_cases : (d d₀ : Decision) (s : Split) (i : ℕ) → (s.left ≡ 255) ⊎ (s.left + s.right ≡ i) → (d ≡ d₀) ⊎ Distributes d i
    → (next_decision d s ≡ d₀) ⊎ Distributes (next_decision d s) (suc i)
next_cases d d₀ s i g h = go (eqb s.left 255) refl h
  where
    go : (b : Bool) → eqb s.left 255 ≡ b → (d ≡ d₀) ⊎ Distributes d i → (next_decision d s ≡ d₀) ⊎ Distributes (next_decision d s) (suc i)
    go true q (inl p) = inl (rw q p)
    go true q (inr p) = inr (rw q (record { kind = p.kind; few = omega arith }))
    go false q w = elim g [ inl z ↦ absurd (differ z) | inr z ↦ inr (rw q (record { kind = refl; few = omega arith })) ]
      where
        differ : s.left ≡ 255 → ⊥
        differ z = true≢false (sym (eq-eqb s.left 255 z) ∙ q)

decision_cases : (area : Float) (count limit : ℕ) (l r : ℕ → Float) (i : ℕ)
    → (decision area count limit l r i ≡ decision area count limit l r 0) ⊎ Distributes (decision area count limit l r i) i
unfolding decision
decision_cases area count limit l r zero = inl refl
decision_cases area count limit l r (suc i) =
    let d = decision area count limit l r i in
    next_cases d (decision area count limit l r 0) (best_split l r i d.cost) i (split_cases l r i d.cost (suc i) (omega arith))
    (decision_cases area count limit l r i)

-- kinds differ
pub leaf_distribute : LEAF ≡ DISTRIBUTE → ⊥
leaf_distribute e = let z : ◌≡◌ {A = ℕ} 0 2 = ap code e in omega arith

pub internal_distribute : INTERNAL ≡ DISTRIBUTE → ⊥
internal_distribute e = let z : ◌≡◌ {A = ℕ} 1 2 = ap code e in omega arith

pub internal_leaf : INTERNAL ≡ LEAF → ⊥
internal_leaf e = let z : ◌≡◌ {A = ℕ} 1 0 = ap code e in omega arith

module _ {A : Type 0} (limit : ℕ) where
  pub table_cases : (t : Tree A) (i : ℕ) → (table limit t i ≡ table limit t 0) ⊎ Distributes (table limit t i) i
  unfolding table
  table_cases (leaf v box p) i = inl refl
  table_cases (inner v box a b) i = decision_cases (half_area box) (leaves a + leaves b) limit (λ k. (table limit a k).cost)
      (λ k. (table limit b k).cost) i

  -- entry 0 never distributes its node
  pub first_not_distribute : (t : Tree A) → (table limit t 0).kind ≡ DISTRIBUTE → ⊥
  unfolding table decision
  first_not_distribute (leaf v box p) = leaf_distribute
  first_not_distribute (inner v box a b) =
      let s = best_split (λ k. (table limit a k).cost) (λ k. (table limit b k).cost) 6 (inf false) in
      either (λ (d : Decision). d.kind ≡ DISTRIBUTE → ⊥)
      (leb (leaves a + leaves b) limit && lt (leaf_cost (half_area box) (leaves a + leaves b)) (internal_cost (half_area box) s)) _ _
      leaf_distribute internal_distribute

  -- nor does any entry of a leaf
  pub leaf_kind : (v : A) (box : Aabb) (p i : ℕ) → (table limit (leaf v box p) i).kind ≡ LEAF
  unfolding table
  leaf_kind v box p i = refl

  -- a decision that does not distribute is entry 0's
  pub not_distribute : (t : Tree A) (i : ℕ) → ((table limit t i).kind ≡ DISTRIBUTE → ⊥) → table limit t i ≡ table limit t 0
  not_distribute t i h = elim (table_cases t i) [ inl e ↦ e | inr d ↦ absurd (h d.kind) ]

  -- splits of a DISTRIBUTE at entry i add up to at most i − 1
  pub distribute_splits : (t : Tree A) (i : ℕ) → (table limit t i).kind ≡ DISTRIBUTE → (table limit t i).left + (table limit t i).right < i
  distribute_splits t i h = elim (table_cases t i) [ inl e ↦ absurd (first_not_distribute t (rw e at h)) | inr d ↦ d.few ]

  -- a node that becomes a leaf has at most max(1, limit) leaves
  pub leaf_limit : (t : Tree A) → (table limit t 0).kind ≡ LEAF → leaves t ≤ max 1 limit
  unfolding table decision leaves
  leaf_limit (leaf v box p) h = omega arith
  leaf_limit (inner v box a b) h = go (leb (leaves a + leaves b) limit) (leb→le (leaves a + leaves b) limit) h
    where
      s : Split
      s = best_split (λ k. (table limit a k).cost) (λ k. (table limit b k).cost) 6 (inf false)

      D : Bool → Decision
      D x =
          cond (x && lt (leaf_cost (half_area box) (leaves a + leaves b)) (internal_cost (half_area box) s))
          (record { cost = leaf_cost (half_area box) (leaves a + leaves b); kind = LEAF; left = s.left; right = s.right })
          (record { cost = internal_cost (half_area box) s; kind = INTERNAL; left = s.left; right = s.right })

      go : (x : Bool) → (T x → leaves a + leaves b ≤ limit) → (D x).kind ≡ LEAF → leaves a + leaves b ≤ max 1 limit
      go true k e = let q : leaves a + leaves b ≤ limit = k tt in omega arith
      go false k e = absurd (internal_leaf e)

  -- ---- no split stays INVALID
  leaf_few : (v : A) (box : Aabb) (p : ℕ) → (table limit (leaf v box p) 0).left + (table limit (leaf v box p) 0).right ≤ 6
  unfolding table
  leaf_few v box p = omega arith

  first_few : (t : Tree A) → BoxesAccepted t → leaves t < 2 ^ 23 → (table limit t 0).left + (table limit t 0).right ≤ 6
  first_few (leaf v box p) h s = leaf_few v box p
  first_few (inner v box a b) h s = let e = first_splits limit v box a b h s in omega arith

  pub splits_few : (t : Tree A) → BoxesAccepted t → leaves t < 2 ^ 23 → (i : ℕ) → i ≤ 6 → (table limit t i).left + (table limit t i).right ≤ 6
  splits_few t h s i u = elim (table_cases t i) [
    | inl e ↦ subst (λ (d : Decision). d.left + d.right ≤ 6) (sym e) (first_few t h s)
    | inr d ↦ (let f = d.few in omega arith)
  ]

-- ---- limit 0 acts as 1
same_limit : (area : Float) (count m n : ℕ) (l r : ℕ → Float) (i : ℕ) → leb count m ≡ leb count n → decision area count m l r i
    ≡ decision area count n l r i
unfolding decision
same_limit area count m n l r zero h = rw h
same_limit area count m n l r (suc i) h = rw (same_limit area count m n l r i h)

pub limit_zero : {A : Type 0} (t : Tree A) (i : ℕ) → table 0 t i ≡ table 1 t i
unfolding table
limit_zero (leaf v box p) i = refl
limit_zero (inner v box a b) i =
    let x = leaves_pos a in
    let y = leaves_pos b in
    simp (limit_zero a, limit_zero b)
    (same_limit (half_area box) (leaves a + leaves b) 0 1 (λ k. (table 1 a k).cost) (λ k. (table 1 b k).cost) i
    (lt-leb (leaves a + leaves b) 0 (omega arith) ∙ sym (lt-leb (leaves a + leaves b) 1 (omega arith))))

-- ---- the fields of a word
pub word_fields : (d : Decision) → d.left + d.right ≤ 255
    → (word d / 0x4000_0000 ≡ code d.kind) × (word d / 256 % 256 ≡ d.left) × (word d % 256 ≡ d.right)
word_fields d h = (omega arith, omega arith, omega arith)
