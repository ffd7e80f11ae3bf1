-- One step of the recursion over a tree's nodes: what the code needs at a node, what each call needs, and what the calls left makes the node's own.
use mathlib.Core.Path.{◌≡◌, refl, sym, ap, ◌∙◌}
use mathlib.Core.Logic.{◌⊎◌, inl, inr}
use mathlib.Core.List.{List}
use Prim.Native.Nat.{ℕ, ◌+◌, ◌*◌, ◌-◌, ◌<◌, ◌≤◌}
use native.Mathlib.Decide.{dec_lt}
use native.Mathlib.Omega.{arith}
use lib.ListN.{length}
use lib.Ieee.{Float, nan}
use Rattle.lists.specs.Counts.{count}
use Rattle.lists.proofs.Counts.{same_self}
use Rattle.aabb.specs.Aabb.{half_area}
use Rattle.bvh2.specs.Tree.{Tree, leaf, inner, label_of, labels, leaves}
use Rattle.bvh2.specs.declared.Link.{Link as Told}
use Rattle.bvh2.specs.declared.Link.TheVariants as L
use Rattle.bvh2.specs.Said.{said}
use Rattle.bvh2.specs.Words.{children, position, malformed, link_at, box_at, tree_at}
use Rattle.bvh2.specs.Decoded.{Subtree}
use Rattle.bvh2.proofs.Counts.{label_count, count-labels}
use Rattle.bvh2.proofs.Decoded.{subtree_leaves}
use Rattle.bvh2.proofs.Reading.{label_is}
use Rattle.bvh2.proofs.Subtree.{node, Leaf, leaf_link, formed, Inner, inner_link}
use Rattle.cost.specs.Table.{Decision, leaf_decision, table, word, word_of, cost_of}
use Rattle.cost.specs.Rows.{row, fill, costs_at, entry_from, RowRoom, RowsReady}
use Rattle.cost.proofs.Rows.{row_cong}
use Rattle.cost.proofs.Entries.{decision_cong}
use Rattle.cost.proofs.Fill.{length-fill, outside, at_root}

-- ---- at a node
pub record Here (n d c v : ℕ) : Type 0 where
  pub words : v * 7 + 7 ≤ n
  pub decisions : v * 7 + 7 ≤ d
  pub costs : v * 7 + 7 ≤ c

pub here : {ws : List ℕ} {d c e v : ℕ} → RowsReady ws d c e v → Here (length ws) d c v
here h =
    let k = node h.tree in
    record { words = k.room; decisions = omega (arith, k.below, h.decisions); costs = omega (arith, k.below, h.costs) }

-- the call on t is done: it counted t's leaves and wrote t's tables
pub record Done (limit : ℕ) (t : Tree ℕ) (r : ℕ) (ds : List ℕ) (cs : List Float) (ds' : List ℕ) (cs' : List Float) : Type 0 where
  pub counted : r ≡ leaves t
  pub decided : ds' ≡ fill (word_of limit) t ds
  pub priced : cs' ≡ fill (cost_of limit) t cs

-- ---- a leaf
leaf_fills : (limit v : ℕ) (t : Tree ℕ) (box : _) (p : ℕ) {area : Float} {ds ds' : List ℕ} {cs cs' : List Float} → t ≡ leaf v box p → area
    ≡ half_area box
    → ds' ≡ row (λ i. word (leaf_decision area)) (v * 7) 7 ds → cs' ≡ row (λ i. (leaf_decision area).cost) (v * 7) 7 cs → Done limit t 1 ds cs ds' cs'
unfolding leaves fill table
leaf_fills limit v t box p e q x y = rw e (record { counted = refl; decided = x; priced = rw q at y })

-- a node whose link is none to children is a leaf
pub no_children : {ws : List ℕ} {n e v : ℕ} {l : Told} → Subtree ws n e v → said l ≡ link_at ws v → ((f : ℕ) → l ≡ L.Children f → ⊥)
    → (p : ℕ) × Leaf ws n e v p
no_children {l = L.Children f} s q k = absurd (k f refl)
no_children {l = L.Position p} s q k = (p, leaf_link s (sym q))
no_children {ws} {e = e} {v = v} {l = L.Malformed} s q k = absurd (formed ws e v (sym q) s.whole)

pub link_formed : {ws : List ℕ} {d c e v : ℕ} → RowsReady ws d c e v → malformed ≡ link_at ws v → ⊥
link_formed {ws} {e = e} {v = v} h q = formed ws e v (sym q) h.tree.whole

pub leaf_done : {ws : List ℕ} {d c e v p : ℕ} → RowsReady ws d c e v → position p ≡ link_at ws v
    → (limit : ℕ) {area : Float} {ds ds' : List ℕ} {cs cs' : List Float}
    → area ≡ half_area (box_at ws v) → ds' ≡ row (λ i. word (leaf_decision area)) (v * 7) 7 ds → cs'
    ≡ row (λ i. (leaf_decision area).cost) (v * 7) 7 cs
    → Done limit (tree_at ws e v) 1 ds cs ds' cs'
leaf_done {ws} {e = e} {v = v} {p = p} h q limit a x y =
    leaf_fills limit v (tree_at ws e v) (box_at ws v) p (leaf_link h.tree (sym q)).tree a x y

-- ---- an inner node
root_counts : (t : Tree ℕ) → 1 ≤ label_count (label_of t) t
unfolding label_count label_of
root_counts (leaf v box p) = omega (arith, same_self v)
root_counts (inner v box a b) = omega (arith, same_self v)

-- a tree's own label is among its labels
own_label : (ws : List ℕ) (e v : ℕ) → 1 ≤ count v (labels (tree_at ws e v))
own_label ws e v = rw (count-labels v (tree_at ws e v)) (rw (label_is ws e v) at (root_counts (tree_at ws e v)))

pub record Down (ws : List ℕ) (d c depth v f : ℕ) : Type 0 where
  pub deep : 0 < depth
  pub left : RowsReady ws d c (depth - 1) f
  pub right : RowsReady ws d c (depth - 1) (f + 1)
  pub tree : tree_at ws depth v ≡ inner v (box_at ws v) (tree_at ws (depth - 1) f) (tree_at ws (depth - 1) (f + 1))
  pub room : RowRoom d c v f
  pub other : count f (labels (tree_at ws (depth - 1) (f + 1))) ≡ 0
  pub few : leaves (tree_at ws (depth - 1) f) + leaves (tree_at ws (depth - 1) (f + 1)) ≤ 65536
  pub second : f + 1 < 2 * 65536

between : (v f : ℕ) → (v ≡ f → ⊥) → (v ≡ f + 1 → ⊥) → (v < f) ⊎ (f + 1 < v)
between v f p q = pick (dec_lt v f)
  where
    pick : Dec (v < f) → (v < f) ⊎ (f + 1 < v)
    pick (yes l) = inl l
    pick (no l) = inr (omega arith)

leaves_inner : (t : Tree ℕ) (v : ℕ) (box : _) (a b : Tree ℕ) → t ≡ inner v box a b → leaves t ≡ leaves a + leaves b
unfolding leaves
leaves_inner t v box a b e = rw e

from_inner : {ws : List ℕ} {d c e v f : ℕ} (h : RowsReady ws d c e v) → Inner ws h.n e v f → Down ws d c e v f
from_inner {ws} {d} {c} {e} {v} {f} h i =
    let L = tree_at ws (e - 1) f in
    let R = tree_at ws (e - 1) (f + 1) in
    let a = own_label ws (e - 1) f in
    let k : leaves (tree_at ws e v) ≡ leaves L + leaves R = leaves_inner (tree_at ws e v) v (box_at ws v) L R i.tree in
    let r = here h in
    let m = subtree_leaves h.tree in
    let s = h.tree.few in
    record {
      deep = i.deep;
      left = record { n = h.n; tree = i.left; decisions = h.decisions; costs = h.costs };
      right = record { n = h.n; tree = i.right; decisions = h.decisions; costs = h.costs };
      tree = i.tree;
      room = record {
        decisions = r.decisions;
        costs = r.costs;
        children = omega (arith, i.second, h.costs);
        apart = between v f (λ z. differ f (labels L) z a i.apart.not_left)
            (λ z. differ (f + 1) (labels R) z (own_label ws (e - 1) (f + 1)) i.apart.not_right);
      };
      other = i.apart.not_both f a;
      few = omega arith;
      second = omega (arith, i.second, s);
    }
  where
    differ : (x : ℕ) (l : List ℕ) → v ≡ x → 1 ≤ count x l → count v l ≡ 0 → ⊥
    differ x l z p q = let y : count v l ≡ count x l = ap (λ (u : ℕ). count u l) z in omega arith

pub down : {ws : List ℕ} {d c e v f : ℕ} → RowsReady ws d c e v → children f ≡ link_at ws v → Down ws d c e v f
down {ws} {e = e} {v = v} {f = f} h q = from_inner h (inner_link ws h.n e v f h.tree (sym q))

-- after both calls the tables have the length that they had, and the children's costs stand in their rows
pub record Both (limit f : ℕ) (l r : Tree ℕ) (d c a b : ℕ) (ds : List ℕ) (cs : List Float) : Type 0 where
  pub few : a + b ≤ 65536
  pub left : (k : ℕ) → k ≤ 6 → costs_at cs f k ≡ cost_of limit l k
  pub right : (k : ℕ) → k ≤ 6 → costs_at cs (f + 1) k ≡ cost_of limit r k
  pub words_length : length ds ≡ d
  pub costs_length : length cs ≡ c

pub both : {ws : List ℕ} {d c e v f : ℕ} → Down ws d c e v f → (limit : ℕ) {a b : ℕ} {ds₀ ds₁ ds₂ : List ℕ} {cs₀ cs₁ cs₂ : List Float} → length ds₀
    ≡ d → length cs₀ ≡ c
    → Done limit (tree_at ws (e - 1) f) a ds₀ cs₀ ds₁ cs₁ → Done limit (tree_at ws (e - 1) (f + 1)) b ds₁ cs₁ ds₂ cs₂
    → Both limit f (tree_at ws (e - 1) f) (tree_at ws (e - 1) (f + 1)) d c a b ds₂ cs₂
both {ws} {d} {c} {e} {v} {f} h limit {a} {b} {ds₀} {ds₁} {ds₂} {cs₀} {cs₁} {cs₂} p q x y =
    let L = tree_at ws (e - 1) f in
    let R = tree_at ws (e - 1) (f + 1) in
    let F = fill (cost_of limit) L cs₀ in
    let E : cs₂ ≡ fill (cost_of limit) R F = y.priced ∙ ap (fill (cost_of limit) R) x.priced in
    let FL : length F ≡ length cs₀ = length-fill (cost_of limit) L cs₀ in
    let room : f * 7 + 14 ≤ c = h.room.children in
    record {
      few = rw (x.counted, y.counted) h.few;
      left = λ k u.
          ap (λ (s : List Float). costs_at s f k) E
          ∙ outside (cost_of limit) R F f k nan h.other (omega arith)
          ∙ root_cost_lem L f cs₀ k (label_is ws (e - 1) f) (omega arith) (omega arith);
      right = λ k u. ap (λ (s : List Float). costs_at s (f + 1) k) E ∙ root_cost_lem R (f + 1) F k (label_is ws (e - 1) (f + 1)) (omega arith)
          (omega arith);
      words_length = ap length y.decided ∙ length-fill (word_of limit) R ds₁ ∙ ap length x.decided ∙ length-fill (word_of limit) L ds₀ ∙ p;
      costs_length = ap length E ∙ length-fill (cost_of limit) R F ∙ FL ∙ q;
    }
  where
    root_cost_lem : (t : Tree ℕ) (x : ℕ) (s : List Float) (k : ℕ) → label_of t ≡ x → x * 7 + 7 ≤ length s → k < 7
        → costs_at (fill (cost_of limit) t s) x k
        ≡ cost_of limit t k
    root_cost_lem t x s k z u l = rw z at (at_root (cost_of limit) t s k nan (rw z u) l)

-- back up: the node's own row makes its table of the children's
pub up : {ws : List ℕ} {d c e v f : ℕ} → Down ws d c e v f
    → (limit : ℕ) {a b : ℕ} {area : Float} {ds₀ ds₁ ds₂ ds₃ : List ℕ} {cs₀ cs₁ cs₂ cs₃ : List Float}
    → Done limit (tree_at ws (e - 1) f) a ds₀ cs₀ ds₁ cs₁ → Done limit (tree_at ws (e - 1) (f + 1)) b ds₁ cs₁ ds₂ cs₂
    → Both limit f (tree_at ws (e - 1) f) (tree_at ws (e - 1) (f + 1)) d c a b ds₂ cs₂ → area ≡ half_area (box_at ws v)
    → ds₃ ≡ row (λ i. word (entry_from cs₂ f area (a + b) limit i)) (v * 7) 7 ds₂
    → cs₃ ≡ row (λ i. (entry_from cs₂ f area (a + b) limit i).cost) (v * 7) 7 cs₂
    → Done limit (tree_at ws e v) (a + b) ds₀ cs₀ ds₃ cs₃
unfolding leaves fill table
up {ws} {e = e} {v = v} {f = f} h limit {a} {b} {area} {ds₂ = ds₂} {cs₂ = cs₂} x y z q r s =
    let L = tree_at ws (e - 1) f in
    let R = tree_at ws (e - 1) (f + 1) in
    let t = inner v (box_at ws v) L R in
    let same : (i : ℕ) → i < 7 → entry_from cs₂ f area (a + b) limit i ≡ table limit t i =
    λ i u. rw (q, x.counted, y.counted) (decision_cong (half_area (box_at ws v)) (leaves L + leaves R) limit _ (cost_of limit L) _ (cost_of limit R) i
    z.left z.right (omega arith)) in
    rw h.tree (record {
      counted = rw (x.counted, y.counted);
      decided =
          r ∙ row_cong _ (word_of limit t) (v * 7) 7 ds₂ (λ k u. ap word (same k u))
          ∙ ap (row (word_of limit t) (v * 7) 7) (y.decided ∙ ap (fill (word_of limit) R) x.decided);
      priced =
          s ∙ row_cong _ (cost_of limit t) (v * 7) 7 cs₂ (λ k u. ap (λ (d : Decision). d.cost) (same k u))
          ∙ ap (row (cost_of limit t) (v * 7) 7) (y.priced ∙ ap (fill (cost_of limit) R) x.priced);
    })
