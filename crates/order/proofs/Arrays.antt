-- The arrays that the code keeps are those of the pairs assigned.
use mathlib.Core.Path.{◌≡◌, refl, sym, ap, ◌∙◌, subst}
use mathlib.Core.Logic.{◌⊎◌, inl, inr}
use mathlib.Core.Bool.{cond}
use mathlib.Core.List.{List, [], ◌∷◌, ◌++◌, map, map-append}
use Prim.Native.Nat.{ℕ, suc, ◌+◌, ◌≤◌, ◌<◌}
use native.Mathlib.Decide.{ℕ_discrete}
use native.Mathlib.Nat.{lt_of_lt_of_le}
use native.Mathlib.Numerals.{add-one}
use native.Mathlib.Omega.{arith}
use lib.Dec.{eqb, ltb}
use lib.ListN.{length, get_or, set, length-set, length-append, length-map}
use lib.Seq.{ext_get_or, get_or-set_same, get_or-set_other}
use lib.Ieee.{Float}
use borrow.Author.Tests.{eqb-false, lt-ltb, le-ltb}
use Rattle.words.proofs.Upto.{eight, lt_or_ge}
use Rattle.order.specs.Lists.{eight_of, padded}
use Rattle.order.specs.Assign.{Pair, cost_in, pairs, partner, slot_of, child_of, next_pair, assigned, assignment}
use Rattle.order.specs.Assign.{rounds_of, arrays_of, assigned_arrays}
use Rattle.order.specs.Scan.{priced, first_or, best_open}
use Rattle.order.specs.declared.Assignment.{Assignment}
use Rattle.order.specs.declared.Best.{Best}
use Rattle.order.proofs.Counts.{count_none}
use Rattle.order.proofs.Greedy.{Taken, Stuck, round_cases, round_taken, matched_after, stuck_on, left_after}
use Rattle.order.proofs.Lists.{All}
use Rattle.order.proofs.Padded.{padded_next}
use Rattle.order.proofs.Pairs.{pairs-all}
use Rattle.order.proofs.Partners.{partner-same, partner_other, Matched, matched_of_more}
use Rattle.order.proofs.Scan.{Alike, best_alike}

pub eight_at : {A : Type 0} (f : ℕ → A) (d : A) (i : ℕ) → i < 8 → get_or (eight_of f) i d ≡ f i
eight_at f d i h = eight (λ i. get_or (eight_of f) i d ≡ f i) refl refl refl refl refl refl refl refl i h

pub eight-set : {A : Type 0} (f g : ℕ → A) (i : ℕ) (v : A) → i < 8 → g i ≡ v → ((j : ℕ) → (j ≡ i → ⊥) → g j ≡ f j) → set (eight_of f) i v ≡ eight_of g
eight-set f g i v h e k = ext_get_or v (set (eight_of f) i v) (eight_of g) (length-set (eight_of f) i v)
    (λ j l. at j (subst (λ (z : ℕ). j < z) (length-set (eight_of f) i v) l) (ℕ_discrete j i))
  where
    at : (j : ℕ) → j < 8 → Dec (j ≡ i) → get_or (set (eight_of f) i v) j v ≡ get_or (eight_of g) j v
    at j l (yes d) = ap (λ (z : ℕ). get_or (set (eight_of f) i v) z v) d ∙ get_or-set_same (eight_of f) i v v h ∙ sym (eight_at g v j l ∙ ap g d ∙ e)
    at j l (no d) = get_or-set_other (eight_of f) i j v v d ∙ eight_at f v j l ∙ sym (k j d) ∙ sym (eight_at g v j l)

-- one pair more
pub partners_next : (key value : Pair → ℕ) (ps : List Pair) (p : Pair) (xs : List ℕ) → xs ≡ eight_of (partner key value ps)
    → All (λ q. value q < 8) ps → key p < 8 → partner key value ps (key p) ≡ 8
    → set xs (key p) (value p) ≡ eight_of (partner key value (ps ++ (p ∷ [])))
partners_next key value ps p xs e h l f =
    ap (λ (z : List ℕ). set z (key p) (value p)) e
    ∙ eight-set (partner key value ps) (partner key value (ps ++ (p ∷ []))) (key p) (value p) l (partner-same key value ps p h f)
    (partner_other key value ps p)

-- field by field
arrays_are : (a : Assignment) (rounds : ℕ) (ps : List Pair) → a.slot ≡ eight_of (slot_of ps) → a.child ≡ eight_of (child_of ps)
    → a.seated ≡ padded 8 (map (λ p. p.child) ps) → a.count ≡ length ps → a.rounds ≡ rounds → a ≡ arrays_of rounds ps
arrays_are a rounds ps p q s c r = λ i. record { slot = p i; child = q i; seated = s i; count = c i; rounds = r i }

-- a child that has no slot and a slot that has no child, paired by one round more
pub arrays_next : (ps : List Pair) (p : Pair) (rounds : ℕ) (a : Assignment) → Matched 8 ps → p.child < 8 → p.slot < 8
    → slot_of ps p.child ≡ 8 → child_of ps p.slot ≡ 8 → length ps < 8 → a ≡ arrays_of a.rounds ps
    → ◌≡◌ {A = Assignment} (record {
      slot = set a.slot p.child p.slot;
      child = set a.child p.slot p.child;
      seated = set a.seated a.count p.child;
      count = a.count + 1;
      rounds = rounds;
    }) (arrays_of rounds (ps ++ (p ∷ [])))
arrays_next ps p rounds a m c s w f l h =
    arrays_are _ rounds (ps ++ (p ∷ []))
    (partners_next (λ q. q.child) (λ q. q.slot) ps p a.slot (ap (λ (z : Assignment). z.slot) h) m.slots c w)
    (partners_next (λ q. q.slot) (λ q. q.child) ps p a.child (ap (λ (z : Assignment). z.child) h) m.children s f)
    (ap (λ (z : Assignment). set z.seated z.count p.child) h
    ∙ padded_next 8 (map (λ q. q.child) ps) (length ps) p.child (length-map ps (λ q. q.child)) l
    ∙ ap (padded 8) (sym (map-append (λ q. q.child) ps (p ∷ []))))
    (omega (arith, length-append ps (p ∷ []), ap (λ (z : Assignment). z.count) h)) refl

module _ (table : List (List Float)) (n : ℕ) where
  abbrev after : ℕ → List Pair
  after k = assigned (cost_in table) n k

  -- what the code holds after k rounds, each of which seated a child
  pub record Kept (k : ℕ) (a : Assignment) : Type 0 where
    pub arrays : a ≡ arrays_of k (after k)
    pub all : length (after k) ≡ k
    pub most : k ≤ n

  -- a scan of the arrays finds the next pair
  next_found : n ≤ 8 → (k : ℕ) (a : Assignment) (b : Best) → Kept k a → b ≡ best_open table a.slot a.child n
      → b ≡ first_or (cost_in table) (next_pair (cost_in table) n (after k))
  unfolding best_open
  next_found few k a b h e =
      e
      ∙ best_alike (λ c. get_or a.slot c 0) (λ s. get_or a.child s 0) (slot_of (after k)) (child_of (after k)) (cost_in table) (cost_in table)
      (pairs n)
      (pairs-all (Alike (λ c. get_or a.slot c 0) (λ s. get_or a.child s 0) (slot_of (after k)) (child_of (after k)) (cost_in table) (cost_in table)) n
      (λ c s l m. record {
        slots = ap (λ (z : Assignment). get_or z.slot c 0) h.arrays ∙ eight_at (slot_of (after k)) 0 c (lt_of_lt_of_le l few);
        children = ap (λ (z : Assignment). get_or z.child s 0) h.arrays ∙ eight_at (child_of (after k)) 0 s m;
        costs = refl;
      }))

  -- a pair was found, or the assignment is whole
  pub record Found (k : ℕ) (b : Best) : Type 0 where
    pub pair : Pair
    pub taken : Taken (cost_in table) n (after k) pair
    pub child : b.child ≡ pair.child
    pub slot : b.slot ≡ pair.slot

  found_cases : (k : ℕ) (b : Best) → b ≡ first_or (cost_in table) (next_pair (cost_in table) n (after k))
      → ((b.slot ≡ 8) × Stuck (cost_in table) n (after k)) ⊎ Found k b
  found_cases k b e = elim (round_cases (cost_in table) n (after k)) [
    | inl s ↦ inl (ap (λ (z : Best). z.slot) (e ∙ ap (first_or (cost_in table)) s.is), s)
    | inr w ↦
        let f : b ≡ priced (cost_in table) w.0 = e ∙ ap (first_or (cost_in table)) w.1.is in
        inr (record { pair = w.0; taken = w.1; child = ap (λ (z : Best). z.child) f; slot = ap (λ (z : Best). z.slot) f })
  ]

  pub found : n ≤ 8 → (k : ℕ) (a : Assignment) (b : Best) → Kept k a → b ≡ best_open table a.slot a.child n → (b.slot ≡ 8 → ⊥) → Found k b
  found few k a b h e q = elim (found_cases k b (next_found few k a b h e)) [ inl w ↦ absurd (q w.0) | inr w ↦ w ]

  -- a child that is found waits for a slot, so fewer than all are seated
  pub found_room : n ≤ 8 → (k : ℕ) (a : Assignment) (b : Best) → Kept k a → Found k b → k < n
  found_room few k a b h f = elim (lt_or_ge k n) [
    | inl l ↦ l
    | inr l ↦
        let o = f.taken.fits in
        absurd
        (eqb-false (slot_of (after k) f.pair.child) 8
        (count_none (λ c. eqb (slot_of (after k) c) 8) n
        (omega (arith, l, h.all, (left_after (cost_in table) n few k).children)) f.pair.child o.child)
        o.waits)
  ]

  pub kept_none : Kept 0 (arrays_of 0 [])
  unfolding assigned
  kept_none = record { arrays = refl; all = refl; most = omega arith }

  pub kept_next : n ≤ 8 → (k : ℕ) (a : Assignment) (b : Best) → Kept k a → Found k b
      → Kept (k + 1) (record {
        slot = set a.slot b.child b.slot;
        child = set a.child b.slot b.child;
        seated = set a.seated a.count b.child;
        count = a.count + 1;
        rounds = a.rounds + 1;
      })
  kept_next few k a b h f =
      let l = found_room few k a b h f in
      let r = f.pair in
      let o = f.taken.fits in
      let e : after k ++ (r ∷ []) ≡ after (k + 1) = sym (round_taken (cost_in table) n k r f.taken) ∙ ap after (sym (add-one k)) in
      let w : a.rounds ≡ k = ap (λ (z : Assignment). z.rounds) h.arrays in
      record {
        arrays =
            (λ i. record {
              slot = set a.slot (f.child i) (f.slot i);
              child = set a.child (f.slot i) (f.child i);
              seated = set a.seated a.count (f.child i);
              count = a.count + 1;
              rounds = w i + 1;
            })
            ∙ arrays_next (after k) r (k + 1) a (matched_of_more n 8 (after k) few (matched_after (cost_in table) n few k))
            (lt_of_lt_of_le o.child few) o.slot o.waits o.free (omega (arith, few, l, h.all))
            (h.arrays ∙ ap (λ (z : ℕ). arrays_of z (after k)) (sym w))
            ∙ ap (arrays_of (k + 1)) e;
        all = omega (arith, sym (ap length e), length-append (after k) (r ∷ []), h.all);
        most = omega (arith, l);
      }

  -- the last search found none
  pub kept_stuck : n ≤ 8 → (k : ℕ) (a : Assignment) (b : Best) → Kept k a → b ≡ best_open table a.slot a.child n → b.slot ≡ 8 → k < n
      → ◌≡◌ {A = Assignment} (record { slot = a.slot; child = a.child; seated = a.seated; count = a.count; rounds = a.rounds + 1 })
      (assigned_arrays (cost_in table) n)
  unfolding rounds_of
  kept_stuck few k a b h e q l = elim (found_cases k b (next_found few k a b h e)) [
    | inl w ↦
        let s : assignment (cost_in table) n ≡ after k = stuck_on (cost_in table) n k n h.most w.1 in
        let r : cond (ltb (length (after k)) n) (suc (length (after k))) (length (after k)) ≡ k + 1 =
        rw (h.all, lt-ltb k n l) (sym (add-one k)) in
        arrays_are _ (k + 1) (after k) (ap (λ (z : Assignment). z.slot) h.arrays) (ap (λ (z : Assignment). z.child) h.arrays)
        (ap (λ (z : Assignment). z.seated) h.arrays) (ap (λ (z : Assignment). z.count) h.arrays) (ap (λ (z : Assignment). z.rounds + 1) h.arrays)
        ∙ ap (λ (r : ℕ). arrays_of r (after k)) (sym r)
        ∙ ap (λ (ps : List Pair). arrays_of (rounds_of n ps) ps) (sym s)
    | inr w ↦ absurd (omega (arith, q, w.slot, w.taken.fits.slot))
  ]

  -- every child has a slot
  pub kept_all : (k : ℕ) (a : Assignment) → Kept k a → n ≤ k → a ≡ (assigned_arrays (cost_in table) n)
  unfolding rounds_of
  kept_all k a h l =
      let e : k ≡ n = omega (arith, h.most, l) in
      let r : cond (ltb (length (after k)) n) (suc (length (after k))) (length (after k)) ≡ k = rw (h.all, le-ltb k n l) refl in
      h.arrays
      ∙ ap (λ (r : ℕ). arrays_of r (after k)) (sym r)
      ∙ ap (λ (j : ℕ). arrays_of (rounds_of n (after j)) (after j)) e
