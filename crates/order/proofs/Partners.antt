-- The slot of a child and the child of a slot, as pairs are added.
use mathlib.Core.Path.{◌≡◌, refl, sym, ap, ◌∙◌, subst}
use mathlib.Core.Logic.{◌⊎◌, inl, inr}
use mathlib.Core.Bool.{Bool, true, false, cond}
use mathlib.Core.List.{List, [], ◌∷◌, ◌++◌}
use Prim.Native.Nat.{ℕ, ◌≤◌, ◌<◌}
use native.Mathlib.Nat.{lt_of_lt_of_le}
use native.Mathlib.Omega.{arith}
use lib.Dec.{eqb}
use lib.ListN.{length}
use borrow.Author.Tests.{eq-eqb, ne_eqb, eqb-true, eqb-false}
use Rattle.order.specs.Assign.{Pair, partner, slot_of, child_of}
use Rattle.order.proofs.Lists.{All, all_append, all_map, all_both}

full : (v : ℕ) → v < 8 → v ≡ 8 → ⊥
full v l e = omega arith

module _ (key value : Pair → ℕ) where
  pub partner_other : (ps : List Pair) (p : Pair) (k : ℕ) → (k ≡ key p → ⊥) → partner key value (ps ++ (p ∷ [])) k ≡ partner key value ps k
  unfolding partner
  partner_other [] p k h = rw (ne_eqb (key p) k (λ e. h (sym e)))
  partner_other (q ∷ ps) p k h = ap (λ (z : ℕ). cond (eqb (key q) k) (value q) z) (partner_other ps p k h)

  -- a key that is new
  pub partner-same : (ps : List Pair) (p : Pair) → All (λ q. value q < 8) ps → partner key value ps (key p) ≡ 8
      → partner key value (ps ++ (p ∷ [])) (key p) ≡ value p
  unfolding partner
  partner-same [] p h e = rw (eq-eqb (key p) (key p) refl)
  partner-same (q ∷ ps) p h e = go (eqb (key q) (key p)) e (λ f. partner-same ps p h.1 f)
    where
      go : (t : Bool) → cond t (value q) (partner key value ps (key p)) ≡ 8
          → (partner key value ps (key p) ≡ 8 → partner key value (ps ++ (p ∷ [])) (key p) ≡ value p)
          → cond t (value q) (partner key value (ps ++ (p ∷ [])) (key p)) ≡ value p
      go true f r = absurd (full (value q) h.0 f)
      go false f r = r f

-- ---- no two pairs of one key
abbrev pub Apart : (Pair → ℕ) → List Pair → Type 0
Apart key [] = Unit {0}
Apart key (p ∷ ps) = All (λ q. key q ≡ key p → ⊥) ps × Apart key ps

apart_append : (key : Pair → ℕ) (ps : List Pair) (p : Pair) → Apart key ps → All (λ q. key q ≡ key p → ⊥) ps → Apart key (ps ++ (p ∷ []))
apart_append key [] p a h = (tt, tt)
apart_append key (q ∷ ps) p a h =
    (all_append (λ r. key r ≡ key q → ⊥) ps (p ∷ []) a.0 (λ e. h.0 (sym e), tt), apart_append key ps p a.1 h.1)

module _ (key value : Pair → ℕ) where
  -- a key without a partner is no pair's
  pub new_key : (ps : List Pair) (k : ℕ) → All (λ q. value q < 8) ps → partner key value ps k ≡ 8 → All (λ q. key q ≡ k → ⊥) ps
  unfolding partner
  new_key [] k h e = tt
  new_key (q ∷ ps) k h e = go (eqb (key q) k) refl e (new_key ps k h.1)
    where
      go : (t : Bool) → eqb (key q) k ≡ t → cond t (value q) (partner key value ps k) ≡ 8 → (partner key value ps k ≡ 8 → All (λ r. key r ≡ k → ⊥) ps)
          → (key q ≡ k → ⊥) × All (λ r. key r ≡ k → ⊥) ps
      go true d f r = absurd (full (value q) h.0 f)
      go false d f r = (eqb-false (key q) k d, r f)

  -- and a key that no pair has is without one
  pub partner_none : (ps : List Pair) (k : ℕ) → All (λ p. key p ≡ k → ⊥) ps → partner key value ps k ≡ 8
  unfolding partner
  partner_none [] k h = refl
  partner_none (p ∷ ps) k h = rw (ne_eqb (key p) k h.0) (partner_none ps k h.1)

  -- each pair's value is its key's
  pub partner_own : (ps : List Pair) → Apart key ps → All (λ p. partner key value ps (key p) ≡ value p) ps
  unfolding partner
  partner_own [] a = tt
  partner_own (p ∷ ps) a =
      (rw (eq-eqb (key p) (key p) refl), later ps a.0 (partner_own ps a.1))
    where
      later : (qs : List Pair) → All (λ q. key q ≡ key p → ⊥) qs → All (λ q. partner key value ps (key q) ≡ value q) qs
          → All (λ q. cond (eqb (key p) (key q)) (value p) (partner key value ps (key q)) ≡ value q) qs
      later [] h r = tt
      later (q ∷ qs) h r = (rw (ne_eqb (key p) (key q) (λ e. h.0 (sym e))) r.0, later qs h.1 r.1)

  -- what is found comes from a pair
  pub partner_of : (P : Pair → Type 0) (ps : List Pair) → All P ps → (k : ℕ)
      → (partner key value ps k ≡ 8) ⊎ ((p : Pair) × P p × (key p ≡ k) × (partner key value ps k ≡ value p))
  unfolding partner
  partner_of P [] h k = inl refl
  partner_of P (p ∷ ps) h k = go (eqb (key p) k) refl (partner_of P ps h.1 k)
    where
      go : (t : Bool) → eqb (key p) k ≡ t → (partner key value ps k ≡ 8) ⊎ ((q : Pair) × P q × (key q ≡ k) × (partner key value ps k ≡ value q))
          → (cond t (value p) (partner key value ps k) ≡ 8) ⊎ ((q : Pair) × P q × (key q ≡ k) × (cond t (value p) (partner key value ps k) ≡ value q))
      go true e r = inr (p, h.0, eqb-true (key p) k e, refl)
      go false e r = r

-- from a key to its value and back
there_and_back : (key value : Pair → ℕ) (ps : List Pair) (m l : ℕ) → All (λ p. key p < m) ps → All (λ p. value p < l) ps → Apart value ps
    → (k : ℕ) → (partner key value ps k ≡ 8) ⊎ ((k < m) × (partner key value ps k < l) × (partner value key ps (partner key value ps k) ≡ k))
there_and_back key value ps m l hk hv a k =
    elim (partner_of key value (λ p. ((key p < m) × (value p < l)) × (partner value key ps (value p) ≡ key p)) ps
    (all_both (λ p. (key p < m) × (value p < l)) (λ p. partner value key ps (value p) ≡ key p) ps
    (all_both (λ p. key p < m) (λ p. value p < l) ps hk hv) (partner_own value key ps a)) k) [
      | inl e ↦ inl e
      | inr (p, h, e, f) ↦ inr (
        subst (λ (z : ℕ). z < m) e h.0.0,
        subst (λ (z : ℕ). z < l) (sym f) h.0.1,
        ap (partner value key ps) f ∙ h.1
            ∙ e,
      )
    ]

-- ---- the pairs of n children: below the bounds, no child twice and no slot twice
pub record Matched (n : ℕ) (ps : List Pair) : Type 0 where
  pub children : All (λ p. p.child < n) ps
  pub slots : All (λ p. p.slot < 8) ps
  pub children_apart : Apart (λ p. p.child) ps
  pub slots_apart : Apart (λ p. p.slot) ps

pub matched_none : (n : ℕ) → Matched n []
matched_none n = record { children = tt; slots = tt; children_apart = tt; slots_apart = tt }

-- more children may come
pub matched_of_more : (n m : ℕ) (ps : List Pair) → n ≤ m → Matched n ps → Matched m ps
matched_of_more n m ps few h = record {
  children = all_map (λ p. p.child < n) (λ p. p.child < m) ps (λ p l. lt_of_lt_of_le l few) h.children;
  slots = h.slots;
  children_apart = h.children_apart;
  slots_apart = h.slots_apart;
}

-- a child without a slot and a slot without a child, paired
pub matched_pair : (n : ℕ) (ps : List Pair) (p : Pair) → n ≤ 8 → p.child < n → p.slot < 8 → slot_of ps p.child ≡ 8 → child_of ps p.slot ≡ 8
    → Matched n ps → Matched n (ps ++ (p ∷ []))
matched_pair n ps p few a b e f m = record {
  children = all_append (λ q. q.child < n) ps (p ∷ []) m.children (a, tt);
  slots = all_append (λ q. q.slot < 8) ps (p ∷ []) m.slots (b, tt);
  children_apart = apart_append (λ q. q.child) ps p m.children_apart (new_key (λ q. q.child) (λ q. q.slot) ps p.child m.slots e);
  slots_apart = apart_append (λ q. q.slot) ps p m.slots_apart (new_key (λ q. q.slot) (λ q. q.child) ps p.slot below f);
}
  where
    below : All (λ q. q.child < 8) ps
    below = all_map (λ q. q.child < n) (λ q. q.child < 8) ps (λ q l. omega arith) m.children

module _ (n : ℕ) (ps : List Pair) (m : Matched n ps) where
  -- a child's slot is its own, and so is a slot's child
  pub child_slot : (c : ℕ) → (slot_of ps c ≡ 8) ⊎ ((c < n) × (slot_of ps c < 8) × (child_of ps (slot_of ps c) ≡ c))
  child_slot = there_and_back (λ p. p.child) (λ p. p.slot) ps n 8 m.children m.slots m.slots_apart

  pub slot_child : (s : ℕ) → (child_of ps s ≡ 8) ⊎ ((s < 8) × (child_of ps s < n) × (slot_of ps (child_of ps s) ≡ s))
  slot_child = there_and_back (λ p. p.slot) (λ p. p.child) ps 8 n m.slots m.children m.children_apart

-- ---- n children, each with a slot of its own
pub record OneToOne (n : ℕ) (ps : List Pair) : Type 0 where
  pub matched : Matched n ps
  pub all : length ps ≡ n
  pub slot : (c : ℕ) → c < n → slot_of ps c < 8
  pub there : (c : ℕ) → c < n → child_of ps (slot_of ps c) ≡ c
  pub back : (s : ℕ) → (child_of ps s ≡ 8) ⊎ ((s < 8) × (child_of ps s < n) × (slot_of ps (child_of ps s) ≡ s))

pub one_to_one : (n : ℕ) (ps : List Pair) → Matched n ps → length ps ≡ n → ((c : ℕ) → c < n → eqb (slot_of ps c) 8 ≡ false) → OneToOne n ps
one_to_one n ps m e h = record { matched = m; all = e; slot = λ c l. (way c l).1; there = λ c l. (way c l).2; back = slot_child n ps m }
  where
    way : (c : ℕ) → c < n → (c < n) × (slot_of ps c < 8) × (child_of ps (slot_of ps c) ≡ c)
    way c l = elim (child_slot n ps m c) [ inl w ↦ absurd (eqb-false (slot_of ps c) 8 (h c l) w) | inr w ↦ w ]
