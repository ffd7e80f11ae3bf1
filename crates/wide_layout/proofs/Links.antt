-- Each node but the first hangs in a slot of its parent, at a level one deeper.
use mathlib.Core.List.{List}
use mathlib.Core.Path.{◌≡◌, refl, sym, ap, ◌∙◌, subst}
use Prim.Native.Nat.{ℕ, zero, suc, ◌+◌, ◌<◌, ◌≤◌}
use native.Mathlib.Nat.{add-zero, zero-add}
use native.Mathlib.Omega.{arith}
use Rattle.aabb.specs.declared.Aabb.{Aabb}
use Rattle.wide_layout.specs.Wide.{Slots, end, empty, leaf, inner, Wide}
use Rattle.wide_layout.specs.Sizes.{inner_children, inner_before, inner_at, nodes_below, own_count, count_below}
use Rattle.wide_layout.specs.Layout.{Entry, entry, entries, layout, EachEntry, nodes}
use Rattle.wide_layout.specs.Shape.{layout_entry, Linked}
use Rattle.wide_layout.proofs.Each.{each_append, each_left, each_right, each_map, node-each, node_has, node-number}

inner_slot : {w : ℕ} (s : Slots w) (k : ℕ) → inner_at s k ≡ 1 → k < w
inner_slot end k h = absurd (omega arith)
inner_slot (empty s) zero h = omega arith
inner_slot (empty s) (suc k) h = omega (arith, inner_slot s k h)
inner_slot (leaf b ps s) zero h = omega arith
inner_slot (leaf b ps s) (suc k) h = omega (arith, inner_slot s k h)
inner_slot (inner b t s) zero h = omega arith
inner_slot (inner b t s) (suc k) h = omega (arith, inner_slot s k h)

-- the slots s are those from slot k on of slots t whose inner children have the numbers from c on, the next of them i
abbrev From : {w : ℕ} → Slots w → Slots 8 → ℕ → ℕ → ℕ → Type 0
From s t k i c = (j : ℕ) → inner_at s j ≡ 1 → (inner_at t (k + j) ≡ 1) × (i + inner_before s j ≡ c + inner_before t (k + j))

from_start : (t : Slots 8) (c : ℕ) → From t t 0 c c
from_start t c j h = (rw (zero-add j) h, rw (zero-add j))

-- one slot further, which adds n to the rank
from_next : {w v : ℕ} (s : Slots w) (r : Slots v) (t : Slots 8) (k i u c n : ℕ) → u ≡ i + n → ((j : ℕ) → inner_at s (suc j) ≡ inner_at r j)
    → ((j : ℕ) → inner_before s (suc j) ≡ n + inner_before r j)
    → From s t k i c → From r t (k + 1) u c
from_next s r t k i u c n z a b f j h =
    let g = f (suc j) (a j ∙ h) in
    let e : k + suc j ≡ k + 1 + j = omega arith in
    (subst (λ (x : ℕ). inner_at t x ≡ 1) e g.0, omega (arith, g.1, b j, ap (λ (x : ℕ). inner_before t x) e))

module _ (node : ℕ → Entry) where
  -- node p has the slots t, the child_base d and the level above l
  record Above (t : Slots 8) (l p d : ℕ) : Type 0 where
    slots : (node p).slots ≡ t
    base : (node p).child_base ≡ d
    level : (node p).level + 1 ≡ l

  above : (b : Aabb) (t : Slots 8) (l p k i c q : ℕ) → node i ≡ entry b t l p k i c q → Above t (l + 1) i c
  above b t l p k i c q e = record {
    slots = ap (λ (x : Entry). x.slots) e;
    base = ap (λ (x : Entry). x.child_base) e;
    level = ap
        (λ (x : Entry). x.level + 1) e;
  }

  linked_here : {w : ℕ} (b : Aabb) (u : Slots 8) (s : Slots w) (t : Slots 8) (l p k i c d q : ℕ) → p < i → Above t l p d
      → From (inner b u s) t k i d → Linked node (entry b u l p k i c q)
  linked_here b u s t l p k i c d q z a f =
      let g = f 0 refl in
      let n : inner_at t k ≡ 1 = rw (add-zero k) at g.0 in
      let e = ap (λ (x : ℕ). inner_before t x) (add-zero k) in
      let m : inner_before (node p).slots k ≡ inner_before t k = ap (λ (x : Slots 8). inner_before x k) a.slots in
      let h = a.base in
      record {
        earlier = z;
        slot = inner_slot t k n;
        inner = ap (λ (x : Slots 8). inner_at x k) a.slots ∙ n;
        number = omega (arith, g.1);
        level = sym a.level;
      }

  linked_below : {w : ℕ} (s : Slots w) (t : Slots 8) (l p k i c d q : ℕ) → p < i → i + inner_children s ≤ c → Above t l p d → From s t k i d
      → EachEntry (λ e. node e.number ≡ e) (entries s l p k i c q) → EachEntry (Linked node) (entries s l p k i c q)
  linked_below end t l p k i c d q z y a f h = tt
  linked_below (empty s) t l p k i c d q z y a f h = linked_below s t l p (k + 1) i c d q z y a
      (from_next (empty s) s t k i i d 0 (omega arith) (λ j. refl) (λ j. omega arith) f) h
  linked_below (leaf b ps s) t l p k i c d q z y a f h = linked_below s t l p (k + 1) i c d q z y a
      (from_next (leaf b ps s) s t k i i d 0 (omega arith) (λ j. refl) (λ j. omega arith) f) h
  linked_below (inner b u s) t l p k i c d q z y a f h = (
    linked_here b u s t l p k i c d q z a f,
    each_append (Linked node) first last
        (linked_below u u (l + 1) i 0 c (c + inner_children u) c (q + own_count u) (omega arith) (omega arith) (above b u l p k i c q h.0)
        (from_start u c) (each_left (λ e. node e.number ≡ e) first last h.1))
        (linked_below s t l p (k + 1) (i + 1) (c + (inner_children u + nodes_below u)) d (q + (own_count u + count_below u)) (omega arith)
        (omega arith) a
        (from_next (inner b u s) s t k i (i + 1) d 1 refl (λ j. refl) (λ j. omega arith) f)
        (each_right (λ e. node e.number ≡ e) first last h.1)),
  )
    where
      first : List Entry
      first = entries u (l + 1) i 0 c (c + inner_children u) (q + own_count u)

      last : List Entry
      last = entries s l p (k + 1) (i + 1) (c + (inner_children u + nodes_below u)) (q + (own_count u + count_below u))

  -- for any way to give every node of the layout by its number
  pub linked : (t : Wide) → EachEntry (λ e. node e.number ≡ e) (layout t)
      → EachEntry (Linked node) (entries t.slots 1 0 0 1 (1 + inner_children t.slots) (0 + own_count t.slots))
  linked t h =
      linked_below t.slots t.slots 1 0 0 1 (1 + inner_children t.slots) 1 (0 + own_count t.slots) (omega arith) (omega arith)
      (above t.box t.slots 0 0 0 0 1 0 h.0) (from_start t.slots 1) h.1

-- every node but the first, by its number
pub node_linked : (t : Wide) (v : ℕ) → 0 < v → v < nodes t → Linked (layout_entry t) (layout_entry t v)
node_linked t v z h =
    let r = node_has (λ e. (0 < e.number) → Linked (layout_entry t) e) t (
      (λ k. absurd (omega arith)),
      each_map (Linked (layout_entry t)) (λ e. (0 < e.number) → Linked (layout_entry t) e)
          (entries t.slots 1 0 0 1 (1 + inner_children t.slots) (0 + own_count t.slots)) (λ e k u. k) (linked (layout_entry t) t (node-each t)),
    )
    v h in
    r (omega (arith, node-number t v h))
