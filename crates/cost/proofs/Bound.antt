-- Costs are finite and not negative: in a tree of k leaves whose boxes are accepted every cost is at most (2k − 1) * 2 ^ 84.
-- So the first split always beats infinity, and entry 0's splits add up to 6.
use mathlib.Core.Path.{◌≡◌, refl, sym, subst}
use mathlib.Core.Bool.{Bool, true, false, ◌&&◌, cond}
use Prim.Native.Nat.{ℕ, zero, suc, ◌+◌, ◌-◌, ◌*◌, ◌^◌, ◌≤◌, ◌<◌}
use native.Mathlib.Nat.{mul-one, one-mul, le_of_eq, mul-le-mul_right}
use native.Mathlib.Omega.{arith}
use lib.Dec.{T, eqb, leb, lit<, lit≤}
use lib.IntN.{pos}
use lib.Ieee.{Float, nan, inf, fin, binary32, add, mul, lt, of_bits, of_int}
use Rattle.float.specs.Magnitude.{Upto, Held}
use Rattle.float.proofs.Held.{held_up, held-pow}
use Rattle.float.proofs.Magnitude.{mul-upto, upto_le, add_costs}
use Rattle.float.proofs.Rounding.{round-upto}
use Rattle.aabb.specs.declared.Aabb.{Aabb}
use Rattle.aabb.specs.Aabb.{half_area, accepted_box}
use Rattle.aabb.proofs.Bounds.{accepted, half_area_bound}
use Rattle.bvh2.specs.Tree.{Tree, leaf, inner, leaves}
use Rattle.bvh2.specs.Decoded.{BoxesAccepted}
use Rattle.cost.specs.declared.Split.{Split}
use Rattle.cost.specs.Table.{best_of, best_split, Decision, prim_cost, leaf_cost, internal_cost, first_decision, leaf_decision, decision, table}

pub leaves_pos : {A : Type 0} (t : Tree A) → 1 ≤ leaves t
unfolding leaves
leaves_pos (leaf v box p) = omega arith
leaves_pos (inner v box a b) = omega (arith, leaves_pos a)

-- ---- floats
pub either : {A : Type 0} (P : A → Type 0) (b : Bool) (x y : A) → P x → P y → P (cond b x y)
either P true x y p q = p
either P false x y p q = q

pub below_infinity : (x : Float) (a c : ℕ) → Upto x a c → lt x (inf false) ≡ true
unfolding lt
below_infinity nan a c h = absurd h
below_infinity (inf s) a c h = absurd h
below_infinity (fin s m e) a c h = refl

more : (x : Float) (m n : ℕ) → m ≤ n → Upto x (m * 2 ^ 84) 1 → Upto x (n * 2 ^ 84) 1
more x m n h p = upto_le x (m * 2 ^ 84) 1 (n * 2 ^ 84) 1 (lit< tt) (mul-le-mul_right 1 (mul-le-mul_right (2 ^ 84) h)) p

prim_cost_lem : Upto prim_cost 1 1
unfolding of_bits
prim_cost_lem = lit≤ tt

of_count : (n : ℕ) → n < 2 ^ 24 → Upto (of_int binary32 (pos n)) n 1
unfolding of_int
of_count n h = round-upto binary32 false n 1 n 1 (λ (t : ⊥). absurd t) (lit< tt) (lit< tt) held (le_of_eq refl)
  where
    held : Held binary32 n 1
    held = subst (λ (z : ℕ). Held binary32 z 1) (mul-one n) (held_up binary32 n 0 h (lit≤ tt))

-- x times the cost of a primitive, where x ≤ n * 2 ^ 84
priced : (x : Float) (n : ℕ) → n < 2 ^ 24 → Upto x (n * 2 ^ 84) 1 → Upto (mul binary32 x prim_cost) (n * 2 ^ 84) 1
priced x n h p =
    subst (λ (z : ℕ). Upto (mul binary32 x prim_cost) z 1) (mul-one (n * 2 ^ 84))
    (mul-upto binary32 x prim_cost (n * 2 ^ 84) 1 1 1 (lit< tt) (lit< tt)
    (subst (λ (z : ℕ). Held binary32 z 1) (sym (mul-one (n * 2 ^ 84))) (held_up binary32 n 84 h (lit≤ tt))) p prim_cost_lem)

leaf_cost_bound : (area : Float) (n : ℕ) → n < 2 ^ 24 → Upto area (2 ^ 84) 1 → Upto (leaf_cost area n) (n * 2 ^ 84) 1
leaf_cost_bound area n h p =
    priced (mul binary32 (of_int binary32 (pos n)) area) n h
    (mul-upto binary32 (of_int binary32 (pos n)) area n 1 (2 ^ 84) 1 (lit< tt) (lit< tt) (held_up binary32 n 84 h (lit≤ tt)) (of_count n h) p)

leaf_bound : (area : Float) → Upto area (2 ^ 84) 1 → Upto (leaf_decision area).cost (1 * 2 ^ 84) 1
leaf_bound area p =
    priced (mul binary32 area (of_int binary32 (pos 1))) 1 (lit< tt)
    (mul-upto binary32 area (of_int binary32 (pos 1)) (2 ^ 84) 1 1 1 (lit< tt) (lit< tt) (held-pow binary32 84 (lit≤ tt)) p (of_count 1 (lit< tt)))

area_bound : (box : Aabb) → accepted_box box ≡ true → Upto (half_area box) (2 ^ 84) 1
area_bound box h = half_area_bound box (accepted box (subst T (sym h) tt))

-- ---- one node, whose children's costs are bounded
pub record Costs (l r : ℕ → Float) (m n : ℕ) : Type 0 where
  pub left : (k : ℕ) → Upto (l k) (m * 2 ^ 84) 1
  pub right : (k : ℕ) → Upto (r k) (n * 2 ^ 84) 1
  pub few : m + n + 1 < 2 ^ 24

module _ (l r : ℕ → Float) (m n : ℕ) (h : Costs l r m n) where
  sum_bound : (i j : ℕ) → Upto (add binary32 (l i) (r j)) ((m + n) * 2 ^ 84) 1
  sum_bound i j = add_costs 84 m n (l i) (r j) (omega arith) (lit≤ tt) (h.left i) (h.right j)

  -- a start that is bounded keeps the best split bounded
  best_bound : (w q : ℕ) (start : Float) (k : ℕ) → m + n ≤ w → Upto start (w * 2 ^ 84) 1 → Upto (best_of l r q start k).cost (w * 2 ^ 84) 1
  unfolding best_of
  best_bound w q start zero u p = p
  best_bound w q start (suc k) u p =
      either (λ (s : Split). Upto s.cost (w * 2 ^ 84) 1) (lt (add binary32 (l k) (r (q - k))) (best_of l r q start k).cost) _
      (best_of l r q start k)
      (more (add binary32 (l k) (r (q - k))) (m + n) w u (sum_bound k (q - k))) (best_bound w q start k u p)

  -- from infinity on, the first split is taken
  first_best : (q k : ℕ) → k ≤ q
      → Upto (best_of l r q (inf false) (suc k)).cost ((m + n) * 2 ^ 84) 1
      × ((best_of l r q (inf false) (suc k)).left + (best_of l r q (inf false) (suc k)).right ≡ q)
  unfolding best_of
  first_best q zero u =
      rw (below_infinity (add binary32 (l 0) (r (q - 0))) ((m + n) * 2 ^ 84) 1 (sum_bound 0 (q - 0))) (sum_bound 0 (q - 0), omega arith)
  first_best q (suc k) u =
      either (λ (s : Split). Upto s.cost ((m + n) * 2 ^ 84) 1 × (s.left + s.right ≡ q))
      (lt (add binary32 (l (suc k)) (r (q - suc k))) (best_of l r q (inf false) (suc k)).cost) _ (best_of l r q (inf false) (suc k))
      (sum_bound (suc k) (q - suc k), omega arith) (first_best q k (omega arith))

  module _ (area : Float) (count limit : ℕ) (a : Upto area (2 ^ 84) 1) (c : count ≤ m + n + 1) where
    first_bound : (s : Split) → Upto s.cost ((m + n) * 2 ^ 84) 1 → Upto (first_decision area count limit s).cost ((m + n + 1) * 2 ^ 84) 1
    first_bound s p =
        either (λ (d : Decision). Upto d.cost ((m + n + 1) * 2 ^ 84) 1) (leb count limit && lt (leaf_cost area count) (internal_cost area s)) _ _
        (more (leaf_cost area count) count (m + n + 1) c (leaf_cost_bound area count (omega arith) a))
        (add_costs 84 (m + n) 1 s.cost area h.few (lit≤ tt) p (subst (λ (z : ℕ). Upto area z 1) (sym (one-mul (2 ^ 84))) a))

    decision_bound : (i : ℕ) → Upto (decision area count limit l r i).cost ((m + n + 1) * 2 ^ 84) 1
    unfolding decision
    decision_bound zero = first_bound (best_split l r 6 (inf false)) (first_best 6 6 (lit≤ tt)).0
    decision_bound (suc i) =
        let d = decision area count limit l r i in
        either (λ (e : Decision). Upto e.cost ((m + n + 1) * 2 ^ 84) 1) (eqb (best_split l r i d.cost).left 255) d _
        (decision_bound i) (best_bound (m + n + 1) i d.cost (suc i) (omega arith) (decision_bound i))

-- ---- trees
module _ {A : Type 0} (limit : ℕ) where
  -- the costs of an inner node's children
  children : (a b : Tree A)
      → ((i : ℕ) → Upto (table limit a i).cost ((2 * leaves a - 1) * 2 ^ 84) 1)
      → ((i : ℕ) → Upto (table limit b i).cost ((2 * leaves b - 1) * 2 ^ 84) 1)
      → leaves a + leaves b < 2 ^ 23 → Costs (λ k. (table limit a k).cost) (λ k. (table limit b k).cost) (2 * leaves a - 1) (2 * leaves b - 1)
  children a b l r h = record { left = l; right = r; few = omega (arith, leaves_pos a, leaves_pos b) }

  -- every cost is finite, not negative as a number, and at most (2k − 1) * 2 ^ 84 for k leaves
  pub cost_bound : (t : Tree A) → BoxesAccepted t → leaves t < 2 ^ 23 → (i : ℕ) → Upto (table limit t i).cost ((2 * leaves t - 1) * 2 ^ 84) 1
  unfolding table BoxesAccepted leaves
  cost_bound (leaf v box p) h s i = leaf_bound (half_area box) (area_bound box h)
  cost_bound (inner v box a b) h s i =
      let x = leaves_pos a in
      let y = leaves_pos b in
      let e : 2 * leaves a - 1 + (2 * leaves b - 1) + 1 ≡ 2 * (leaves a + leaves b) - 1 = omega arith in
      subst (λ (n : ℕ). Upto (table limit (inner v box a b) i).cost (n * 2 ^ 84) 1) e
      (decision_bound (λ k. (table limit a k).cost) (λ k. (table limit b k).cost) (2 * leaves a - 1) (2 * leaves b - 1)
      (children a b (cost_bound a h.1 (omega arith)) (cost_bound b h.2 (omega arith)) s)
      (half_area box) (leaves a + leaves b) limit (area_bound box h.0) (omega arith) i)

  -- entry 0 of an inner node always has splits, and they add up to 6
  pub first_splits : (v : A) (box : Aabb) (a b : Tree A) → BoxesAccepted (inner v box a b) → leaves (inner v box a b) < 2 ^ 23
      → (table limit (inner v box a b) 0).left + (table limit (inner v box a b) 0).right ≡ 6
  unfolding table decision BoxesAccepted leaves
  first_splits v box a b h s =
      let l : ℕ → Float = λ k. (table limit a k).cost in
      let r : ℕ → Float = λ k. (table limit b k).cost in
      let c = children a b (cost_bound a h.1 (omega arith)) (cost_bound b h.2 (omega arith)) s in
      let p = (first_best l r (2 * leaves a - 1) (2 * leaves b - 1) c 6 6 (lit≤ tt)).1 in
      either (λ (d : Decision). d.left + d.right ≡ 6)
      (leb (leaves a + leaves b) limit && lt (leaf_cost (half_area box) (leaves a + leaves b))
      (internal_cost (half_area box) (best_split l r 6 (inf false)))) _ _ p p
