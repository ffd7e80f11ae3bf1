-- Children in slots: where each has a slot of its own, what the slots hold together is what the children hold.
use mathlib.Core.Path.{◌≡◌, refl, sym, ap, ◌∙◌}
use mathlib.Core.Bool.{cond}
use mathlib.Core.List.{List, [], ◌∷◌, ◌++◌}
use Prim.Native.Nat.{ℕ, zero, suc, ◌+◌, ◌≤◌, ◌<◌}
use native.Mathlib.Decide.{ℕ_discrete, dec_lt}
use native.Mathlib.Omega.{arith}
use lib.Dec.{ltb}
use lib.ListN.{length}
use borrow.Author.Tests.{lt-ltb, le-ltb}
use Rattle.wide_layout.specs.Wide.{Slots, end, empty}
use Rattle.wide_layout.specs.Content.{content_at}
use Rattle.wide_layout.specs.Content as C
use Rattle.wide_tree.specs.WideTree.{Child, leaf_child, inner_child, hold, filled_slot, slots_from}

-- `child` puts each of n children into one of eight slots, and into no other
pub record OneToOne (n : ℕ) (child : ℕ → ℕ) : Type 0 where
  pub slot : ℕ → ℕ
  pub below : (c : ℕ) → c < n → slot c < 8
  pub there : (c : ℕ) → c < n → child (slot c) ≡ c
  pub back : (s : ℕ) → s < 8 → child s < n → slot (child s) ≡ s

-- ---- what stands in a slot
-- a child as a slot's content
abbrev pub held_as : Child → C.Content
held_as (leaf_child b ps) = C.leaf_child b ps
held_as (inner_child b s) = C.inner_child b s

-- child i of a list, nothing past its end
abbrev pub held_at : List Child → ℕ → C.Content
held_at [] i = C.none
held_at (c ∷ cs) zero = held_as c
held_at (c ∷ cs) (suc i) = held_at cs i

slot_first : {w : ℕ} (cs : List Child) (i : ℕ) (s : Slots w) → content_at (filled_slot cs i s) 0 ≡ held_at cs i
unfolding content_at
slot_first [] i s = refl
slot_first (leaf_child b ps ∷ cs) zero s = refl
slot_first (inner_child b t ∷ cs) zero s = refl
slot_first (c ∷ cs) (suc i) s = slot_first cs i s

slot_later : {w : ℕ} (cs : List Child) (i : ℕ) (s : Slots w) (k : ℕ) → content_at (filled_slot cs i s) (suc k) ≡ content_at s k
unfolding content_at
slot_later [] i s k = refl
slot_later (leaf_child b ps ∷ cs) zero s k = refl
slot_later (inner_child b t ∷ cs) zero s k = refl
slot_later (c ∷ cs) (suc i) s k = slot_later cs i s k

-- slot j of those that are filled from a list of children
pub from_at : (child : ℕ → ℕ) (cs : List Child) (k w j : ℕ) → j < w → content_at (slots_from child cs k w) j ≡ held_at cs (child (k + j))
unfolding slots_from
from_at child cs k zero j h = absurd (omega arith)
from_at child cs k (suc w) zero h = slot_first cs (child k) (slots_from child cs (suc k) w) ∙ ap (λ (i : ℕ). held_at cs (child i)) (omega arith)
from_at child cs k (suc w) (suc j) h =
    slot_later cs (child k) (slots_from child cs (suc k) w) j ∙ from_at child cs (suc k) w j (omega arith) ∙ ap (λ (i : ℕ). held_at cs (child i))
    (omega arith)

-- each child is in its own slot
pub own_slot : (child : ℕ → ℕ) (cs : List Child) (h : OneToOne (length cs) child) (c : ℕ) → c < length cs
    → content_at (slots_from child cs 0 8) (h.slot c) ≡ held_at cs c
own_slot child cs h c u =
    from_at child cs 0 8 (h.slot c) (h.below c u) ∙ ap (λ (i : ℕ). held_at cs (child i)) (omega arith) ∙ ap (held_at cs) (h.there c u)

-- ---- sums over consecutive numbers
unfoldable sum_from : (ℕ → ℕ) → ℕ → ℕ → ℕ
sum_from f k zero = 0
sum_from f k (suc w) = f k + sum_from f (suc k) w

sum-zero : (k w : ℕ) → sum_from (λ i. 0) k w ≡ 0
unfolding sum_from
sum-zero k zero = refl
sum-zero k (suc w) = omega (arith, sum-zero (suc k) w)

sum-last : (f : ℕ → ℕ) (k w : ℕ) → sum_from f k (suc w) ≡ sum_from f k w + f (k + w)
unfolding sum_from
sum-last f k zero = let e : f (k + 0) ≡ f k = ap f (omega arith) in omega arith
sum-last f k (suc w) = let e : f (suc k + w) ≡ f (k + suc w) = ap f (omega arith) in omega (arith, sum-last f (suc k) w)

sum_shift : (f : ℕ → ℕ) (k w : ℕ) → sum_from f (suc k) w ≡ sum_from (λ i. f (suc i)) k w
unfolding sum_from
sum_shift f k zero = refl
sum_shift f k (suc w) = omega (arith, sum_shift f (suc k) w)

sum_same : (f g : ℕ → ℕ) (k w : ℕ) → ((s : ℕ) → k ≤ s → s < k + w → g s ≡ f s) → sum_from g k w ≡ sum_from f k w
unfolding sum_from
sum_same f g k zero h = refl
sum_same f g k (suc w) h = omega (arith, h k (omega arith) (omega arith), sum_same f g (suc k) w (λ s u v. h s (omega arith) (omega arith)))

-- one of them larger by a
sum_one : (f g : ℕ → ℕ) (k w y a : ℕ) → k ≤ y → y < k + w → g y ≡ f y + a → ((s : ℕ) → k ≤ s → s < k + w → (s ≡ y → ⊥) → g s ≡ f s) → sum_from g k w
    ≡ sum_from f k w + a
unfolding sum_from
sum_one f g k zero y a p q e h = absurd (omega arith)
sum_one f g k (suc w) y a p q e h = pick (ℕ_discrete k y) (sum_one f g (suc k) w y a)
  where
    pick : Dec (k ≡ y) → (suc k ≤ y → y < suc k + w → g y ≡ f y + a → ((s : ℕ) → suc k ≤ s → s < suc k + w → (s ≡ y → ⊥) → g s ≡ f s)
        → sum_from g (suc k) w ≡ sum_from f (suc k) w + a)
        → g k + sum_from g (suc k) w ≡ f k + sum_from f (suc k) w + a
    pick (yes z) r =
        let x : g k ≡ f k + a = rw z e in
        let t = sum_same f g (suc k) w (λ s u v. h s (omega arith) (omega arith) (λ i. omega arith)) in
        omega arith
    pick (no z) r =
        let x = h k (omega arith) (omega arith) z in
        let t = r (omega arith) (omega arith) e (λ s u v i. h s (omega arith) (omega arith) i) in
        omega arith

-- ---- sums over the children of a list
unfoldable pub total : (Child → ℕ) → List Child → ℕ
total f [] = 0
total f (c ∷ cs) = f c + total f cs

pub total_append : (f : Child → ℕ) (s t : List Child) → total f (s ++ t) ≡ total f s + total f t
unfolding total
total_append f [] t = omega arith
total_append f (c ∷ s) t = omega (arith, total_append f s t)

-- child i's share, 0 past the end
unfoldable measure_at : (Child → ℕ) → List Child → ℕ → ℕ
measure_at f [] i = 0
measure_at f (c ∷ cs) zero = f c
measure_at f (c ∷ cs) (suc i) = measure_at f cs i

past_end : (f : Child → ℕ) (cs : List Child) (i : ℕ) → length cs ≤ i → measure_at f cs i ≡ 0
unfolding measure_at
past_end f [] i h = refl
past_end f (c ∷ cs) zero h = absurd (omega arith)
past_end f (c ∷ cs) (suc i) h = past_end f cs i (omega arith)

all_measures : (f : Child → ℕ) (cs : List Child) → sum_from (measure_at f cs) 0 (length cs) ≡ total f cs
unfolding sum_from total measure_at
all_measures f [] = refl
all_measures f (c ∷ cs) = omega (arith, sum_shift (measure_at f (c ∷ cs)) 0 (length cs), all_measures f cs)

-- ---- a measure of slots that adds up the children's
module _ (M : (w : ℕ) → Slots w → ℕ) (F : Child → ℕ)
    (m-end : M 0 end ≡ 0) (m-empty : (w : ℕ) (s : Slots w) → M (suc w) (empty s) ≡ M w s)
    (m-hold : (w : ℕ) (c : Child) (s : Slots w) → M (suc w) (hold c s) ≡ F c + M w s)
  where
    slot_measure : (w : ℕ) (cs : List Child) (i : ℕ) (s : Slots w) → M (suc w) (filled_slot cs i s) ≡ measure_at F cs i + M w s
    unfolding measure_at
    slot_measure w [] i s = omega (arith, m-empty w s)
    slot_measure w (c ∷ cs) zero s = m-hold w c s
    slot_measure w (c ∷ cs) (suc i) s = slot_measure w cs i s

    from_measure : (child : ℕ → ℕ) (cs : List Child) (k w : ℕ) → M w (slots_from child cs k w) ≡ sum_from (λ s. measure_at F cs (child s)) k w
    unfolding slots_from sum_from
    from_measure child cs k zero = m-end
    from_measure child cs k (suc w) = omega (arith, slot_measure w cs (child k) (slots_from child cs (suc k) w), from_measure child cs (suc k) w)

    module _ (child : ℕ → ℕ) (cs : List Child) (h : OneToOne (length cs) child) where
      -- only the children before m
      first : ℕ → ℕ → ℕ
      first m i = cond (ltb i m) (measure_at F cs i) 0

      first_in : (m i : ℕ) → i < m → first m i ≡ measure_at F cs i
      unfolding first
      first_in m i u = rw (lt-ltb i m u)

      first_out : (m i : ℕ) → m ≤ i → first m i ≡ 0
      unfolding first
      first_out m i u = rw (le-ltb i m u)

      first_more : (m i : ℕ) → (i ≡ m → ⊥) → first (suc m) i ≡ first m i
      first_more m i u = pick (dec_lt i m)
        where
          pick : Dec (i < m) → first (suc m) i ≡ first m i
          pick (yes l) = first_in (suc m) i (omega arith) ∙ sym (first_in m i l)
          pick (no l) = first_out (suc m) i (omega arith) ∙ sym (first_out m i (omega arith))

      first_sum : (m : ℕ) → m ≤ length cs → sum_from (λ s. first m (child s)) 0 8 ≡ sum_from (measure_at F cs) 0 m
      unfolding sum_from
      first_sum zero u = sum_same (λ i. 0) (λ s. first 0 (child s)) 0 8 (λ s p q. first_out 0 (child s) (omega arith)) ∙ sum-zero 0 8
      first_sum (suc m) u =
          let t = h.there m u in
          let x : first (suc m) (child (h.slot m)) ≡ measure_at F cs m = ap (first (suc m)) t ∙ first_in (suc m) m (omega arith) in
          let y : first m (child (h.slot m)) ≡ 0 = ap (first m) t ∙ first_out m m (omega arith) in
          let z = sum_one (λ s. first m (child s)) (λ s. first (suc m) (child s)) 0 8 (h.slot m) (measure_at F cs m) (omega arith)
          (omega (arith, h.below m u)) (omega arith)
          (λ s p q n. first_more m (child s) (λ e. n (other s (omega arith) e))) in
          let l : measure_at F cs (0 + m) ≡ measure_at F cs m = ap (measure_at F cs) (omega arith) in
          omega (arith, first_sum m (omega arith), sum-last (measure_at F cs) 0 m)
        where
          other : (s : ℕ) → s < 8 → child s ≡ m → s ≡ h.slot m
          other s q e = sym (h.back s q (omega arith)) ∙ ap h.slot e

      -- what the slots hold is what the children hold
      pub slots_total : M 8 (slots_from child cs 0 8) ≡ total F cs
      slots_total =
          from_measure child cs 0 8
          ∙ sum_same (λ s. first (length cs) (child s)) (λ s. measure_at F cs (child s)) 0 8
          (λ s p q. sym (all (child s) (dec_lt (child s) (length cs))))
          ∙ first_sum (length cs) (omega arith) ∙ all_measures F cs
        where
          all : (i : ℕ) → Dec (i < length cs) → first (length cs) i ≡ measure_at F cs i
          all i (yes l) = first_in (length cs) i l
          all i (no l) = first_out (length cs) i (omega arith) ∙ sym (past_end F cs i (omega arith))

-- ---- a property of slots that asks one of each child
unfoldable pub EachChild : (Child → Type 0) → List Child → Type 0
EachChild K [] = Unit {0}
EachChild K (c ∷ cs) = K c × EachChild K cs

module _ (Q : (w : ℕ) → Slots w → Type 0) (K : Child → Type 0)
    (q-end : Q 0 end) (q-empty : (w : ℕ) (s : Slots w) → Q w s → Q (suc w) (empty s))
    (q-hold : (w : ℕ) (c : Child) (s : Slots w) → K c → Q w s → Q (suc w) (hold c s))
  where
    slot_each : (w : ℕ) (cs : List Child) (i : ℕ) (s : Slots w) → EachChild K cs → Q w s → Q (suc w) (filled_slot cs i s)
    unfolding EachChild
    slot_each w [] i s h q = q-empty w s q
    slot_each w (c ∷ cs) zero s h q = q-hold w c s h.0 q
    slot_each w (c ∷ cs) (suc i) s h q = slot_each w cs i s h.1 q

    pub slots_each : (child : ℕ → ℕ) (cs : List Child) (k w : ℕ) → EachChild K cs → Q w (slots_from child cs k w)
    unfolding slots_from
    slots_each child cs k zero h = q-end
    slots_each child cs k (suc w) h = slot_each w cs (child k) (slots_from child cs (suc k) w) h (slots_each child cs (suc k) w h)
