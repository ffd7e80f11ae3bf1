-- The entries of a node as the code works them out and stores them.
use mathlib.Core.Path.{◌≡◌, refl, ap, ◌∙◌}
use mathlib.Core.Bool.{Bool, true, false, cond}
use mathlib.Core.List.{List}
use mathlib.Core.Logic.{inl, inr}
use Prim.Native.Nat.{ℕ, zero, suc, ◌+◌, ◌-◌, ◌*◌, ◌≤◌, ◌<◌}
use native.Mathlib.Omega.{arith}
use native.Mathlib.Numerals.{add-one}
use lib.Dec.{eqb}
use lib.ListN.{length, set, length-set}
use lib.Ieee.{Float, nan, inf, binary32, add, lt}
use borrow.Author.Tests.{lt-leb, le-leb}
use Rattle.cost.specs.declared.Split.{Split}
use Rattle.cost.specs.declared.Entry.{Entry}
use Rattle.cost.specs.Table.{best_of, best_split, DISTRIBUTE, Decision, leaf_cost, internal_cost, first_decision, next_decision, decision, word}
use Rattle.cost.specs.Rows.{row, costs_at, stored, next_entry, Small, RowRoom}
use Rattle.cost.proofs.Bound.{either}
use Rattle.cost.proofs.Rows.{row_none, row_step, row_before, row_after}

-- ---- an entry turns only on the costs that its splits name
best_cong : (l l' r r' : ℕ → Float) (n : ℕ) (start : Float) (k : ℕ) → ((j : ℕ) → j ≤ n → l j ≡ l' j) → ((j : ℕ) → j ≤ n → r j ≡ r' j) → k ≤ suc n
    → best_of l r n start k ≡ best_of l' r' n start k
unfolding best_of
best_cong l l' r r' n start zero p q h = refl
best_cong l l' r r' n start (suc k) p q h = rw (best_cong l l' r r' n start k p q (omega arith), p k (omega arith), q (n - k) (omega arith))

pub decision_cong : (area : Float) (count limit : ℕ) (l l' r r' : ℕ → Float) (i : ℕ) → ((j : ℕ) → j ≤ 6 → l j ≡ l' j)
    → ((j : ℕ) → j ≤ 6 → r j ≡ r' j) → i ≤ 6
    → decision area count limit l r i ≡ decision area count limit l' r' i
unfolding decision
decision_cong area count limit l l' r r' zero p q h = ap (first_decision area count limit) (best_cong l l' r r' 6 (inf false) 7 p q (omega arith))
decision_cong area count limit l l' r r' (suc i) p q h =
    let d = decision area count limit l' r' i in
    rw (
      decision_cong area count limit l l' r r' i p q (omega arith),
      best_cong l l' r r' i d.cost (suc i) (λ j u. p j (omega arith))
          (λ j u. q j (omega arith)) (omega arith),
    )

-- ---- splits fit a byte
best_small : (l r : ℕ → Float) (n : ℕ) (start : Float) (k : ℕ) → n ≤ 6 → k ≤ suc n → Small (best_of l r n start k)
unfolding best_of
best_small l r n start zero h g = record { left = omega arith; right = omega arith }
best_small l r n start (suc k) h g =
    either Small (lt (add binary32 (l k) (r (n - k))) (best_of l r n start k).cost) _ (best_of l r n start k)
    (record { left = omega arith; right = omega arith }) (best_small l r n start k h (omega arith))

pub small_split : (l r : ℕ → Float) (n : ℕ) (start : Float) {s : Split} → n ≤ 6 → s ≡ best_split l r n start → Small s
small_split l r n start h e = rw e (best_small l r n start (suc n) h (omega arith))

-- ---- entry 0 by its cases, and the entry after another
module _ (area : Float) (count limit : ℕ) (s : Split) where
  abbrev wide : Entry
  wide = record { cost = internal_cost area s; word = 0x4000_0000 + (s.left * 256 + s.right) }

  pub leaf_dearer : count ≤ limit → lt (leaf_cost area count) (internal_cost area s) ≡ false → wide ≡ stored (first_decision area count limit s)
  leaf_dearer h e = rw (le-leb count limit h, e)

  pub leaf_over : limit < count → wide ≡ stored (first_decision area count limit s)
  leaf_over h = rw (lt-leb count limit h)

pub first_stored : (area : Float) (count limit : ℕ) (l r : ℕ → Float) {s : Split} {e : Entry} → s ≡ best_split l r 6 (inf false) → e
    ≡ stored (first_decision area count limit s)
    → e ≡ stored (decision area count limit l r 0)
unfolding decision
first_stored area count limit l r h g = rw (← h) g

next_stored : (d : Decision) (s : Split) → next_entry (stored d) s ≡ stored (next_decision d s)
next_stored d s = go (eqb s.left 255)
  where
    go : (b : Bool) → cond b (stored d) (record { cost = s.cost; word = 0x8000_0000 + (s.left * 256 + s.right) })
        ≡ stored (cond b d (record { cost = s.cost; kind = DISTRIBUTE; left = s.left; right = s.right }))
    go true = refl
    go false = refl

pub entry_next : (area : Float) (count limit : ℕ) (l r l' r' : ℕ → Float) (i : ℕ) {e f : Entry} {s : Split} → ((j : ℕ) → j ≤ i → l' j ≡ l j)
    → ((j : ℕ) → j ≤ i → r' j ≡ r j)
    → e ≡ stored (decision area count limit l r i) → s ≡ best_split l' r' i e.cost → f ≡ next_entry e s → f
    ≡ stored (decision area count limit l r (i + 1))
unfolding decision
entry_next area count limit l r l' r' i {s = s} p q h g k =
    let d = decision area count limit l r i in
    let a = g ∙ ap (λ (x : Entry). best_split l' r' i x.cost) h ∙ best_cong l' l r' r i d.cost (suc i) p q (omega arith) in
    rw (add-one i) (k ∙ ap (λ (x : Entry). next_entry x s) h ∙ ap (next_entry (stored d)) a ∙ next_stored d (best_split l r i d.cost))

-- ---- both tables with the first n entries of a node written from `base` on, as a loop leaves them
pub record Filled (f : ℕ → Decision) (base n : ℕ) (ds₀ : List ℕ) (cs₀ : List Float) (ds : List ℕ) (cs : List Float) : Type 0 where
  pub words : ds ≡ row (λ k. word (f k)) base n ds₀
  pub costs : cs ≡ row (λ k. (f k).cost) base n cs₀
  pub words_length : length ds ≡ length ds₀
  pub costs_length : length cs ≡ length cs₀

pub filled_none : (f : ℕ → Decision) (base : ℕ) (ds : List ℕ) (cs : List Float) → Filled f base 0 ds cs ds cs
filled_none f base ds cs = record {
  words = row_none (λ k. word (f k)) base ds;
  costs = row_none (λ k. (f k).cost) base cs;
  words_length = refl;
  costs_length = refl;
}

pub filled_step : (f : ℕ → Decision) (base n : ℕ) {ds₀ ds : List ℕ} {cs₀ cs : List Float} {e : Entry} → Filled f base n ds₀ cs₀ ds cs → e
    ≡ stored (f n)
    → Filled f base (n + 1) ds₀ cs₀ (set ds (base + n) e.word) (set cs (base + n) e.cost)
filled_step f base n {ds₀} {ds} {cs₀} {cs} {e} h g = record {
  words = row_step (λ k. word (f k)) base n ds₀ h.words (ap (λ (x : Entry). x.word) g);
  costs = row_step (λ k. (f k).cost) base n cs₀ h.costs (ap (λ (x : Entry). x.cost) g);
  words_length = length-set ds (base + n) e.word ∙ h.words_length;
  costs_length = length-set cs (base + n) e.cost ∙ h.costs_length;
}

-- the children's costs stay while the node's own are written
pub child_stays : {d c v first : ℕ} → RowRoom d c v first → (f : ℕ → Float) (n : ℕ) (s : List Float) {t : List Float} → t ≡ row f (v * 7) n s → n ≤ 7
    → (x : ℕ) → first ≤ x → x ≤ first + 1 → (j : ℕ) → j ≤ 6 → costs_at t x j ≡ costs_at s x j
child_stays {v = v} {first = first} h f n s e u x lo hi j w =
    rw e (elim h.apart [
      | inl a ↦ row_after f (v * 7) n s (x * 7 + j) nan (omega arith)
      | inr a ↦ row_before f (v * 7) n s (x * 7 + j) nan (omega arith)
    ])

-- ---- the loop over an inner node's entries: after i turns entries 0 to i − 1 are written, and e is entry i
pub record Turn (f : ℕ → Decision) (base i : ℕ) (ds₀ : List ℕ) (cs₀ : List Float) (ds : List ℕ) (cs : List Float) (e : Entry) : Type 0 where
  pub entry : e ≡ stored (f i)
  pub filled : Filled f base i ds₀ cs₀ ds cs

pub turn_writes : {f : ℕ → Decision} {base i : ℕ} {ds₀ ds : List ℕ} {cs₀ cs : List Float} {e : Entry} → Turn f base i ds₀ cs₀ ds cs e
    → Filled f base (i + 1) ds₀ cs₀ (set ds (base + i) e.word) (set cs (base + i) e.cost)
turn_writes {f} {base} {i} h = filled_step f base i h.filled h.entry

-- the seventh is the last
pub last_writes : {f : ℕ → Decision} {base i : ℕ} {ds₀ ds : List ℕ} {cs₀ cs : List Float} {e : Entry} → i ≡ 6 → Turn f base i ds₀ cs₀ ds cs e
    → Filled f base 7 ds₀ cs₀ (set ds (base + 6) e.word) (set cs (base + 6) e.cost)
last_writes q h = rw q at (turn_writes h)
