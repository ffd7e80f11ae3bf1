-- What the rounds give: each takes one free child and one free slot or finds none; the pairs match children and slots; with every cost below
-- the greatest f32 each of n rounds takes one, so that every child has a slot of its own.
use mathlib.Core.Path.{◌≡◌, refl, sym, ap, ap₂, ◌∙◌, subst}
use mathlib.Core.Logic.{◌⊎◌, inl, inr}
use mathlib.Core.Bool.{Bool, true, false, ◌&&◌, true≢false}
use mathlib.Core.List.{List, [], ◌∷◌, ◌++◌, append-nil}
use Prim.Native.Nat.{ℕ, zero, suc, ◌+◌, ◌≤◌, ◌<◌}
use native.Mathlib.Nat.{le_of_suc-le-suc, eq-or-lt_of_le, le_refl}
use native.Mathlib.Numerals.{add-one}
use native.Mathlib.Omega.{arith}
use lib.Dec.{eqb}
use lib.ListN.{length, length-append}
use lib.Ieee.{Float, lt}
use borrow.Author.Tests.{eq-eqb, ne_eqb, eqb-true}
use Rattle.order.specs.Lists.{keep}
use Rattle.order.specs.Assign.{Pair, greatest_finite, pairs, partner, slot_of, child_of, open_pairs, least_pair, next_pair, assigned, assignment}
use Rattle.order.proofs.Counts.{count_below, count-all, count-some, count_none, count_less}
use Rattle.order.proofs.Least.{Least, least_of, least_is}
use Rattle.order.proofs.Lists.{All, all_right, all_map, all_kept, all_keep, none_kept}
use Rattle.order.proofs.Pairs.{pairs-all, pairs-each}
use Rattle.order.proofs.Partners.{partner-same, partner_other, Matched, matched_none, matched_pair, OneToOne, one_to_one}
use Rattle.order.proofs.Scan.{open_below, Alike, next_same}

and_parts : (a b c : Bool) → (a && b && c) ≡ true → (a ≡ true) × (b ≡ true) × (c ≡ true)
and_parts true true true h = (refl, refl, refl)
and_parts true true false h = absurd (true≢false (sym h))
and_parts true false c h = absurd (true≢false (sym h))
and_parts false b c h = absurd (true≢false (sym h))

-- a pair that a round may take
pub record Open (cost : Pair → Float) (n : ℕ) (ps : List Pair) (p : Pair) : Type 0 where
  pub child : p.child < n
  pub slot : p.slot < 8
  pub waits : slot_of ps p.child ≡ 8
  pub free : child_of ps p.slot ≡ 8
  pub below : lt (cost p) greatest_finite ≡ true

module _ (cost : Pair → Float) (n : ℕ) where
  abbrev open_now : List Pair → List Pair
  open_now ps = open_pairs (slot_of ps) (child_of ps) cost (pairs n)

  abbrev Bounded : Pair → Type 0
  Bounded p = (p.child < n) × (p.slot < 8)

  open_bounded : (ps : List Pair) → All Bounded (open_now ps)
  unfolding open_pairs
  open_bounded ps =
      all_kept Bounded (λ p. eqb (slot_of ps p.child) 8 && eqb (child_of ps p.slot) 8 && lt (cost p) greatest_finite) (pairs n)
      (pairs-all Bounded n (λ c s l m. (l, m)))

  abbrev Free : List Pair → Pair → Type 0
  Free ps p = (slot_of ps p.child ≡ 8) × (child_of ps p.slot ≡ 8) × (lt (cost p) greatest_finite ≡ true)

  open_free : (ps : List Pair) → All (Free ps) (open_now ps)
  unfolding open_pairs
  open_free ps =
      all_keep (Free ps) (λ p. eqb (slot_of ps p.child) 8 && eqb (child_of ps p.slot) 8 && lt (cost p) greatest_finite) (pairs n)
      (λ p h.
      let w = and_parts (eqb (slot_of ps p.child) 8) (eqb (child_of ps p.slot) 8) (lt (cost p) greatest_finite) h in
      (eqb-true (slot_of ps p.child) 8 w.0, eqb-true (child_of ps p.slot) 8 w.1, w.2))

  -- ---- a round takes a pair, the first of the least, or there is none to take
  pub record Taken (ps : List Pair) (p : Pair) : Type 0 where
    pub is : next_pair cost n ps ≡ p ∷ []
    pub fits : Open cost n ps p
    pub least : Least cost (open_now ps) p

  pub record Stuck (ps : List Pair) : Type 0 where
    pub is : next_pair cost n ps ≡ []
    pub none : (p : Pair) → Open cost n ps p → ⊥

  taken : (ps : List Pair) (p : Pair) → Least cost (open_now ps) p → Taken ps p
  taken ps p l =
      let b : Bounded p = (all_right Bounded l.before (p ∷ l.after) (subst (All Bounded) l.is (open_bounded ps))).0 in
      let f : Free ps p = (all_right (Free ps) l.before (p ∷ l.after) (subst (All (Free ps)) l.is (open_free ps))).0 in
      record {
        is = least_is cost (open_now ps) p l;
        fits = record { child = b.0; slot = b.1; waits = f.0; free = f.1; below = f.2 };
        least = l;
      }

  stuck : (ps : List Pair) → open_now ps ≡ [] → Stuck ps
  unfolding open_pairs least_pair keep
  stuck ps e = record {
    is = ap (least_pair cost) e;
    none = λ p o.
        true≢false
        (sym (rw (eq-eqb (slot_of ps p.child) 8 o.waits, eq-eqb (child_of ps p.slot) 8 o.free) o.below)
        ∙ pairs-each (λ q. (eqb (slot_of ps q.child) 8 && eqb (child_of ps q.slot) 8 && lt (cost q) greatest_finite) ≡ false) n
        (none_kept (λ q. eqb (slot_of ps q.child) 8 && eqb (child_of ps q.slot) 8 && lt (cost q) greatest_finite) (pairs n) e) p.child
        p.slot o.child o.slot);
  }

  pub round_cases : (ps : List Pair) → Stuck ps ⊎ ((p : Pair) × Taken ps p)
  round_cases ps = elim (least_of cost (open_now ps) (open_below (slot_of ps) (child_of ps) cost (pairs n)))
      [ inl e ↦ inl (stuck ps e) | inr w ↦ inr (w.0, taken ps w.0 w.1) ]

  pub round_stuck : (k : ℕ) → Stuck (assigned cost n k) → assigned cost n (suc k) ≡ assigned cost n k
  unfolding assigned
  round_stuck k s = rw s.is (append-nil (assigned cost n k))

  pub round_taken : (k : ℕ) (p : Pair) → Taken (assigned cost n k) p → assigned cost n (suc k) ≡ assigned cost n k ++ (p ∷ [])
  unfolding assigned
  round_taken k p t = rw t.is

  -- ---- for any costs
  pub matched_after : n ≤ 8 → (k : ℕ) → Matched n (assigned cost n k)
  unfolding assigned
  matched_after few zero = matched_none n
  matched_after few (suc k) = go (matched_after few k) (round_cases (assigned cost n k))
    where
      go : Matched n (assigned cost n k) → Stuck (assigned cost n k) ⊎ ((p : Pair) × Taken (assigned cost n k) p)
          → Matched n (assigned cost n (suc k))
      go m (inl s) = subst (Matched n) (sym (round_stuck k s)) m
      go m (inr (p, t)) =
          subst (Matched n) (sym (round_taken k p t))
          (matched_pair n (assigned cost n k) p few t.fits.child t.fits.slot t.fits.waits t.fits.free m)

  -- a round that finds none is the last
  pub stuck_on : (k m : ℕ) → k ≤ m → Stuck (assigned cost n k) → assigned cost n m ≡ assigned cost n k
  stuck_on k zero h s = ap (assigned cost n) (omega arith)
  stuck_on k (suc m) h s = go (eq-or-lt_of_le h) (λ l. stuck_on k m l s)
    where
      go : (k ≡ suc m) ⊎ (k < suc m) → (k ≤ m → assigned cost n m ≡ assigned cost n k) → assigned cost n (suc m) ≡ assigned cost n k
      go (inl e) r = ap (assigned cost n) (sym e)
      go (inr l) r =
          let e : assigned cost n m ≡ assigned cost n k = r (le_of_suc-le-suc l) in
          round_stuck m (subst Stuck (sym e) s) ∙ e

  -- ---- how many wait, and how many slots are free
  abbrev waiting : List Pair → ℕ
  waiting ps = count_below (λ c. eqb (slot_of ps c) 8) n

  abbrev free : List Pair → ℕ
  free ps = count_below (λ s. eqb (child_of ps s) 8) 8

  pub record Left (ps : List Pair) : Type 0 where
    pub children : waiting ps + length ps ≡ n
    pub slots : free ps + length ps ≡ 8

  left_none : Left []
  unfolding partner
  left_none = record {
    children = omega (arith, count-all (λ c. eqb (slot_of [] c) 8) n (λ i l. refl));
    slots = omega (arith, count-all (λ s. eqb (child_of [] s) 8) 8 (λ i l. refl));
  }

  left_pair : (ps : List Pair) (p : Pair) → Matched n ps → n ≤ 8 → Open cost n ps p → Left ps → Left (ps ++ (p ∷ []))
  left_pair ps p m few o l = record {
    children = omega (
      arith,
      l.children,
      length-append ps (p ∷ []),
      fewer (λ q. q.child) (λ q. q.slot) n m.slots o.child o.slot
          o.waits,
    );
    slots = omega (
      arith,
      l.slots,
      length-append ps (p ∷ []),
      fewer (λ q. q.slot) (λ q. q.child) 8 below o.slot (omega (arith, o.child))
          o.free,
    );
  }
    where
      below : All (λ q. q.child < 8) ps
      below = all_map (λ q. q.child < n) (λ q. q.child < 8) ps (λ q h. omega arith) m.children

      fewer : (key value : Pair → ℕ) (b : ℕ) → All (λ q. value q < 8) ps → key p < b → value p < 8 → partner key value ps (key p) ≡ 8
          → count_below (λ k. eqb (partner key value ps k) 8) b ≡ suc (count_below (λ k. eqb (partner key value (ps ++ (p ∷ [])) k) 8) b)
      fewer key value b h u v e =
          count_less (λ k. eqb (partner key value ps k) 8) (λ k. eqb (partner key value (ps ++ (p ∷ [])) k) 8) b (key p) u
          (eq-eqb (partner key value ps (key p)) 8 e)
          (ne_eqb (partner key value (ps ++ (p ∷ [])) (key p)) 8 (λ d. omega (arith, partner-same key value ps p h e)))
          (λ i d. ap (λ (z : ℕ). eqb z 8) (sym (partner_other key value ps p i d)))

  pub left_after : n ≤ 8 → (k : ℕ) → Left (assigned cost n k)
  unfolding assigned
  left_after few zero = left_none
  left_after few (suc k) = go (left_after few k) (round_cases (assigned cost n k))
    where
      go : Left (assigned cost n k) → Stuck (assigned cost n k) ⊎ ((p : Pair) × Taken (assigned cost n k) p) → Left (assigned cost n (suc k))
      go l (inl s) = subst Left (sym (round_stuck k s)) l
      go l (inr (p, t)) = subst Left (sym (round_taken k p t)) (left_pair (assigned cost n k) p (matched_after few k) few t.fits l)

  -- ---- each round takes one until none is left to take
  length_taken : (k : ℕ) (p : Pair) → Taken (assigned cost n k) p → length (assigned cost n (suc k)) ≡ suc (length (assigned cost n k))
  length_taken k p t = ap length (round_taken k p t) ∙ length-append (assigned cost n k) (p ∷ []) ∙ add-one (length (assigned cost n k))

  pub length_after : (k : ℕ) → (length (assigned cost n k) ≡ k) ⊎ Stuck (assigned cost n k)
  unfolding assigned
  length_after zero = inl refl
  length_after (suc k) = go (length_after k) (round_cases (assigned cost n k))
    where
      go : (length (assigned cost n k) ≡ k) ⊎ Stuck (assigned cost n k) → Stuck (assigned cost n k) ⊎ ((p : Pair) × Taken (assigned cost n k) p)
          → (length (assigned cost n (suc k)) ≡ suc k) ⊎ Stuck (assigned cost n (suc k))
      go e (inl s) = inr (subst Stuck (sym (round_stuck k s)) s)
      go (inr s) (inr (p, t)) = absurd (s.none p t.fits)
      go (inl e) (inr (p, t)) = inl (length_taken k p t ∙ ap suc e)

  -- after as many rounds as there are children a further one finds none
  pub no_more : n ≤ 8 → Stuck (assignment cost n)
  no_more few = go (length_after n) (round_cases (assignment cost n)) (left_after few n)
    where
      go : (length (assignment cost n) ≡ n) ⊎ Stuck (assignment cost n) → Stuck (assignment cost n) ⊎ ((p : Pair) × Taken (assignment cost n) p)
          → Left (assignment cost n)
          → Stuck (assignment cost n)
      go e (inl s) l = s
      go (inr s) (inr w) l = s
      go (inl e) (inr (p, t)) l =
          absurd
          (true≢false
          (sym (eq-eqb (slot_of (assignment cost n) p.child) 8 t.fits.waits)
          ∙ count_none (λ c. eqb (slot_of (assignment cost n) c) 8) n (omega (arith, l.children)) p.child t.fits.child))

  -- ---- every cost below the greatest f32
  module _ (few : n ≤ 8) (low : (c s : ℕ) → c < n → s < 8 → lt (cost (record { child = c; slot = s })) greatest_finite ≡ true) where
    never_stuck : (ps : List Pair) → Left ps → length ps < n → Stuck ps → ⊥
    never_stuck ps l h s =
        let c = count-some (λ c. eqb (slot_of ps c) 8) n (omega (arith, l.children)) in
        let f = count-some (λ s. eqb (child_of ps s) 8) 8 (omega (arith, l.slots)) in
        s.none (record { child = c.0; slot = f.0 })
        (record {
          child = c.1;
          slot = f.1;
          waits = eqb-true (slot_of ps c.0) 8 c.2;
          free = eqb-true (child_of ps f.0) 8 f.2;
          below = low
              c.0 f.0 c.1 f.1;
        })

    pub each_takes : (k : ℕ) → k ≤ n → length (assigned cost n k) ≡ k
    unfolding assigned
    each_takes zero h = refl
    each_takes (suc k) h = go (each_takes k (omega arith)) (round_cases (assigned cost n k))
      where
        go : length (assigned cost n k) ≡ k → Stuck (assigned cost n k) ⊎ ((p : Pair) × Taken (assigned cost n k) p)
            → length (assigned cost n (suc k)) ≡ suc k
        go e (inl s) = absurd (never_stuck (assigned cost n k) (left_after few k) (omega arith) s)
        go e (inr (p, t)) = length_taken k p t ∙ ap suc e

    pub all-assigned : OneToOne n (assignment cost n)
    all-assigned = one_to_one n (assignment cost n) (matched_after few n) (each_takes n (le_refl n))
        (count_none (λ c. eqb (slot_of (assignment cost n) c) 8) n (omega (arith, (left_after few n).children, each_takes n (le_refl n))))

-- ---- costs that agree on the children and slots give the same pairs
pub assigned-same : (cost other : Pair → Float) (n : ℕ)
    → ((c s : ℕ) → c < n → s < 8 → cost (record { child = c; slot = s }) ≡ other (record { child = c; slot = s }))
    → (k : ℕ) → assigned cost n k ≡ assigned other n k
unfolding assigned
assigned-same cost other n h zero = refl
assigned-same cost other n h (suc k) = go (assigned cost n k) (assigned other n k) (assigned-same cost other n h k)
  where
    go : (ps qs : List Pair) → ps ≡ qs → ps ++ next_pair cost n ps ≡ qs ++ next_pair other n qs
    go ps qs e =
        ap₂ (λ (x y : List Pair). x ++ y) e
        (next_same (slot_of ps) (child_of ps) (slot_of qs) (child_of qs) cost other (pairs n)
        (pairs-all (Alike (slot_of ps) (child_of ps) (slot_of qs) (child_of qs) cost other) n
        (λ c s l m. record { slots = ap (λ (z : List Pair). slot_of z c) e; children = ap (λ (z : List Pair). child_of z s) e; costs = h c s l m })))
