-- The order in which children take their slots.
use mathlib.Core.Path.{◌≡◌, refl, sym, ap, ◌∙◌, subst}
use mathlib.Core.Logic.{inl, inr}
use mathlib.Core.List.{List, map}
use Prim.Native.Nat.{ℕ, suc, ◌≤◌, ◌<◌}
use native.Mathlib.Nat.{lt_of_lt_of_le, le_of_lt}
use native.Mathlib.Omega.{arith}
use lib.Dec.{eqb}
use lib.ListN.{length, take, get_or, get_or-map, get_or-eq_default}
use lib.Ieee.{Float}
use lib.Seq.{take_all, get_or-take, length-take-le}
use borrow.Author.Tests.{eqb-true, eqb-false, lt-ltb, le-ltb}
use Rattle.words.proofs.Upto.{lt_or_ge}
use Rattle.order.specs.Lists.{eight_of}
use Rattle.order.specs.Assign.{Pair, slot_of, child_of, assigned, assignment, rounds_of, assigned_arrays}
use Rattle.order.specs.declared.Assignment.{Assignment}
use Rattle.order.proofs.Arrays.{eight_at}
use Rattle.order.proofs.Counts.{count-some, count_none}
use Rattle.order.proofs.Greedy.{Open, Stuck, matched_after, left_after, no_more, stuck_on}
use Rattle.order.proofs.Lists.{All, all_map, all_at, all_by_index}
use Rattle.order.proofs.Padded.{padded_at}
use Rattle.order.proofs.Partners.{Matched, new_key, partner_none, partner_own, partner_of}
use Rattle.order.proofs.Rule.{Rule, next_rule}
use Rattle.order_laws.specs.Seated.{seated_in, Free, ByRule, SeatedByRound, SeatedOnce, Stops, SameSlots}
use Rattle.order_laws.proofs.Rounds.{no_pair, rounds_before, at_most, length_of_rounds, round_takes}

module _ (cost : Pair → Float) (n : ℕ) (few : n ≤ 8) where
  abbrev ps : List Pair
  ps = assignment cost n

  abbrev a : Assignment
  a = assigned_arrays cost n

  abbrev matched : Matched n ps
  matched = matched_after cost n few n

  below : All (λ p. p.child < 8) ps
  below = all_map (λ p. p.child < n) (λ p. p.child < 8) ps (λ p l. lt_of_lt_of_le l few) matched.children

  -- ---- the arrays and the pairs
  child_at : (k : ℕ) → get_or a.seated k 8 ≡ (get_or ps k no_pair).child
  child_at k = padded_at 8 (map (λ p. p.child) ps) k ∙ get_or-map (λ p. p.child) ps k no_pair

  slot_at : (c : ℕ) → c < 8 → get_or a.slot c 8 ≡ slot_of ps c
  slot_at c l = eight_at (slot_of ps) 8 c l

  pub pair_at : (k : ℕ) → k < length ps → seated_in a k ≡ get_or ps k no_pair
  pair_at k l =
      let p = get_or ps k no_pair in
      let e : get_or a.seated k 8 ≡ p.child = child_at k in
      let s : get_or a.slot (get_or a.seated k 8) 8 ≡ p.slot =
      ap (λ (c : ℕ). get_or a.slot c 8) e
      ∙ slot_at p.child (all_at (λ q. q.child < 8) ps k no_pair l below)
      ∙ all_at (λ q. slot_of ps q.child ≡ q.slot) ps k no_pair l (partner_own (λ q. q.child) (λ q. q.slot) ps matched.children_apart) in
      λ i. record { child = e i; slot = s i }

  -- the slot's child is the child itself
  pub child_in : (k : ℕ) → k < length ps → child_of ps (seated_in a k).slot ≡ (seated_in a k).child
  child_in k l =
      subst (λ (p : Pair). child_of ps p.slot ≡ p.child) (sym (pair_at k l))
      (all_at (λ q. child_of ps q.slot ≡ q.child) ps k no_pair l (partner_own (λ q. q.slot) (λ q. q.child) ps matched.slots_apart))

  -- one of the first k pairs
  before_at : (k j : ℕ) → k ≤ length ps → j < k → get_or (take k ps) j no_pair ≡ seated_in a j
  before_at k j h l = get_or-take k ps j no_pair l ∙ sym (pair_at j (lt_of_lt_of_le l h))

  -- ---- what is free before round k is what the pairs so far leave open
  apart_from : (key : Pair → ℕ) (k x : ℕ) → k ≤ length ps → ((j : ℕ) → j < k → key (seated_in a j) ≡ x → ⊥)
      → All (λ q. key q ≡ x → ⊥) (assigned cost n k)
  apart_from key k x h f =
      subst (All (λ q. key q ≡ x → ⊥)) (sym (rounds_before cost n n k h))
      (all_by_index (λ q. key q ≡ x → ⊥) (take k ps) no_pair
      (λ j l e. f j (omega (arith, l, length-take-le k ps h)) (ap key (sym (before_at k j h (omega (arith, l, length-take-le k ps h)))) ∙ e)))

  from_apart : (key : Pair → ℕ) (k x : ℕ) → k ≤ length ps → All (λ q. key q ≡ x → ⊥) (assigned cost n k)
      → (j : ℕ) → j < k → key (seated_in a j) ≡ x → ⊥
  from_apart key k x h f j l e =
      all_at (λ q. key q ≡ x → ⊥) (take k ps) j no_pair (omega (arith, l, length-take-le k ps h))
      (subst (All (λ q. key q ≡ x → ⊥)) (rounds_before cost n n k h) f) (ap key (before_at k j h l) ∙ e)

  open_of : (k : ℕ) (q : Pair) → k ≤ length ps → Free cost n a k q → Open cost n (assigned cost n k) q
  open_of k q h f = record {
    child = f.child;
    slot = f.slot;
    waits = partner_none (λ p. p.child) (λ p. p.slot) (assigned cost n k) q.child (apart_from (λ p. p.child) k q.child h f.waits);
    free = partner_none (λ p. p.slot) (λ p. p.child) (assigned cost n k) q.slot (apart_from (λ p. p.slot) k q.slot h f.free);
    below = f.below;
  }

  free_of : (k : ℕ) (q : Pair) → k ≤ length ps → Open cost n (assigned cost n k) q → Free cost n a k q
  free_of k q h o =
      let w = matched_after cost n few k in
      record {
        child = o.child;
        slot = o.slot;
        waits = from_apart (λ p. p.child) k q.child h (new_key (λ p. p.child) (λ p. p.slot) (assigned cost n k) q.child w.slots o.waits);
        free = from_apart (λ p. p.slot) k q.slot h (new_key (λ p. p.slot) (λ p. p.child) (assigned cost n k) q.slot
            (all_map (λ p. p.child < n) (λ p. p.child < 8) (assigned cost n k) (λ p l. lt_of_lt_of_le l few) w.children) o.free);
        below = o.below;
      }

  -- ---- round by round, by the rule
  pub seated_by_round : SeatedByRound cost n a
  seated_by_round k l = subst (ByRule cost n a k) (sym (pair_at k l)) (by_rule (next_rule cost n (assigned cost n k) (get_or ps k no_pair)
      (round_takes cost n few k l)))
    where
      by_rule : Rule cost n (assigned cost n k) (get_or ps k no_pair) → ByRule cost n a k (get_or ps k no_pair)
      by_rule r = record {
        fits = free_of k (get_or ps k no_pair) (le_of_lt l) r.fits;
        least = λ q f. r.least q (open_of k q (le_of_lt l) f);
        first = λ q f. r.first q (open_of k q (le_of_lt l) f);
      }

  -- ---- each once
  stands : (c : ℕ) → get_or a.slot c 8 < 8 → (k : ℕ) × (k < length ps) × ((seated_in a k).child ≡ c)
  stands c h = elim (lt_or_ge c 8) [
    | inl l ↦
        elim (partner_of (λ p. p.child) (λ p. p.slot) (λ p. (k : ℕ) × (k < length ps) × (get_or ps k no_pair ≡ p)) ps
        (all_by_index (λ p. (k : ℕ) × (k < length ps) × (get_or ps k no_pair ≡ p)) ps no_pair (λ k b. (k, b, refl))) c) [
          | inl e ↦ absurd (omega (arith, h, slot_at c l, e))
          | inr (p, (k, b, e), d, f) ↦ (k, b, child_at k ∙ ap (λ (q : Pair). q.child) e ∙ d)
        ]
    | inr l ↦ absurd (omega (arith, h, get_or-eq_default a.slot 8 {n = c} l))
  ]

  pub seated_once : SeatedOnce cost n a
  seated_once = record {
    apart = λ i j l h. (seated_by_round j h).fits.waits i l;
    has_slot = λ k h. let f = (seated_by_round k h).fits in (f.child, f.slot);
    has_child = λ k h. eight_at (child_of ps) 8 (seated_in a k).slot (seated_by_round k h).fits.slot ∙ child_in k h;
    stands = stands;
    behind = λ k h. child_at k ∙ ap (λ (p : Pair). p.child) (get_or-eq_default ps no_pair {n = k} h);
  }

  -- ---- where the searches end
  rounds_all : length ps ≡ n → a.rounds ≡ n
  unfolding rounds_of
  rounds_all e = rw (e, le-ltb n n (omega arith)) refl

  rounds_left : length ps < n → a.rounds ≡ suc (length ps)
  unfolding rounds_of
  rounds_left l = rw (lt-ltb (length ps) n l) refl

  everyone : ((c : ℕ) → c < n → get_or a.slot c 8 < 8) → length ps ≡ n
  everyone h = elim (lt_or_ge (length ps) n) [
    | inl l ↦
        let w = count-some (λ c. eqb (slot_of ps c) 8) n (omega (arith, l, (left_after cost n few n).children)) in
        absurd (omega (arith, h w.0 w.1, slot_at w.0 (lt_of_lt_of_le w.1 few), eqb-true (slot_of ps w.0) 8 w.2))
    | inr l ↦ omega (arith, l, at_most cost n few)
  ]

  someone : (c : ℕ) → c < n → get_or a.slot c 8 ≡ 8 → length ps < n
  someone c l e = elim (lt_or_ge (length ps) n) [
    | inl h ↦ h
    | inr h ↦
        absurd
        (eqb-false (slot_of ps c) 8
        (count_none (λ d. eqb (slot_of ps d) 8) n (omega (arith, h, (left_after cost n few n).children)) c l)
        (sym (slot_at c (lt_of_lt_of_le l few)) ∙ e))
  ]

  -- before round k
  someone_waits : (k : ℕ) → k ≤ length ps → k < n → (c : ℕ) × (c < n) × ((j : ℕ) → j < k → (seated_in a j).child ≡ c → ⊥)
  someone_waits k h l =
      let b = assigned cost n k in
      let w = count-some (λ c. eqb (slot_of b c) 8) n (omega (arith, l, (left_after cost n few k).children, length_of_rounds cost n few k h)) in (
        w.0,
        w.1,
        from_apart (λ p. p.child) k w.0 h
            (new_key (λ p. p.child) (λ p. p.slot) b w.0 (matched_after cost n few k).slots (eqb-true (slot_of b w.0) 8 w.2)),
      )

  after_all : assigned cost n (length ps) ≡ ps
  after_all = rounds_before cost n n (length ps) (omega arith) ∙ take_all (length ps) ps (omega arith)

  pub stops : Stops cost n a
  stops = record {
    all = λ h. let e = everyone h in (rounds_all e, e);
    left = λ c l e. rounds_left (someone c l e);
    most = elim (lt_or_ge (length ps) n) [
      | inl l ↦ omega (arith, l, rounds_left l)
      | inr l ↦ omega (arith, l, at_most cost n few, rounds_all (omega (arith, l, at_most cost n few)))
    ];
    waits = λ k l. elim (lt_or_ge (length ps) n) [
      | inl h ↦ someone_waits k (omega (arith, l, rounds_left h)) (omega (arith, h, l, rounds_left h))
      | inr h ↦
          let e : length ps ≡ n = omega (arith, h, at_most cost n few) in
          someone_waits k (omega (arith, l, e, rounds_all e)) (omega (arith, l, rounds_all e))
    ];
    none = λ p f. (no_more cost n few).none p (subst (λ (z : List Pair). Open cost n z p) after_all (open_of (length ps) p (omega arith) f));
  }

  -- ---- and nothing comes after
  settled : (k : ℕ) → length ps ≤ k → assigned cost n k ≡ ps
  settled k l = stuck_on cost n (length ps) k l (subst (Stuck cost n) (sym after_all) (no_more cost n few)) ∙ after_all

  pub same_slots : SameSlots cost n a
  same_slots = record {
    slots = λ k l. ap (λ (z : List Pair). eight_of (slot_of z)) (settled k l);
    children = λ k l. ap (λ (z : List Pair). eight_of (child_of z)) (settled k l);
  }
