-- One turn of each scan, as the code takes it.
use mathlib.Core.Path.{◌≡◌, refl, sym, ap, ap₂, ◌∙◌}
use mathlib.Core.Bool.{Bool, true, false, ◌&&◌, true≢false}
use mathlib.Core.List.{List, [], ◌∷◌, ◌++◌}
use Prim.Native.Nat.{ℕ, ◌+◌}
use native.Mathlib.Numerals.{add-one}
use lib.Dec.{eqb}
use lib.ListN.{get_or}
use lib.Ieee.{Float, nan, lt}
use borrow.Author.Tests.{eq-eqb, ne_eqb}
use Rattle.order.specs.Lists.{keep}
use Rattle.order.specs.Assign.{Pair, cost_in, greatest_finite, row_pairs, pairs, open_pairs, least_pair}
use Rattle.order.specs.Scan.{priced, no_best, best_pair, cheaper, row_cost, best_slot, best_open}
use Rattle.order.specs.declared.Best.{Best}
use Rattle.order.proofs.Lists.{All, all_map, all_keep, all_kept, keep_append, keep_same, keep_none}
use Rattle.order.proofs.Pairs.{row-all}
use Rattle.order.proofs.Least.{Under, Below, best_under, best_append, best_one, least_same, best_same, cheaper_none, cheaper_past}

-- ---- open pairs
and_third : (a b c : Bool) → (a && b && c) ≡ true → c ≡ true
and_third true true c h = h
and_third true false c h = absurd (true≢false (sym h))
and_third false b c h = absurd (true≢false (sym h))

module _ (slot child : ℕ → ℕ) (cost : Pair → Float) where
  pub open_below : (ps : List Pair) → Below cost (open_pairs slot child cost ps)
  unfolding open_pairs
  open_below ps =
      all_keep (λ p. lt (cost p) greatest_finite ≡ true) (λ p. eqb (slot p.child) 8 && eqb (child p.slot) 8 && lt (cost p) greatest_finite) ps
      (λ p h. and_third (eqb (slot p.child) 8) (eqb (child p.slot) 8) (lt (cost p) greatest_finite) h)

  open_apart : (xs ys : List Pair) → open_pairs slot child cost (xs ++ ys) ≡ open_pairs slot child cost xs ++ open_pairs slot child cost ys
  unfolding open_pairs
  open_apart xs ys = keep_append (λ p. eqb (slot p.child) 8 && eqb (child p.slot) 8 && lt (cost p) greatest_finite) xs ys

  abbrev best : List Pair → Best
  best ps = best_pair cost (open_pairs slot child cost ps)

  open_under : (ps : List Pair) → Under (best ps)
  open_under ps = best_under cost (open_pairs slot child cost ps) (open_below ps)

  -- the least open pair of two lists in a row
  pub open_append : (xs ys : List Pair) → best (xs ++ ys) ≡ cheaper (best xs) (best ys)
  open_append xs ys =
      ap (best_pair cost) (open_apart xs ys) ∙ best_append cost (open_pairs slot child cost xs) (open_pairs slot child cost ys) (open_below xs)
      (open_below ys)

  -- no pair of the second list is open
  pub open_shut : (xs ys : List Pair) → All (λ p. (eqb (slot p.child) 8 && eqb (child p.slot) 8) ≡ false) ys → best (xs ++ ys) ≡ best xs
  unfolding open_pairs least_pair keep
  open_shut xs ys h =
      open_append xs ys
      ∙ ap (λ (l : List Pair). cheaper (best xs) (best_pair cost l))
      (keep_none (λ p. eqb (slot p.child) 8 && eqb (child p.slot) 8 && lt (cost p) greatest_finite) ys
      (all_map (λ p. (eqb (slot p.child) 8 && eqb (child p.slot) 8) ≡ false)
      (λ p. (eqb (slot p.child) 8 && eqb (child p.slot) 8 && lt (cost p) greatest_finite) ≡ false) ys (λ p e. rw e) h))
      ∙ cheaper_none (best xs) (open_under xs)

  -- one pair more, of a free child and a free slot
  pub open_one : (xs : List Pair) (p : Pair) → (eqb (slot p.child) 8 && eqb (child p.slot) 8) ≡ true → best (xs ++ (p ∷ []))
      ≡ cheaper (best xs) (priced cost p)
  unfolding open_pairs least_pair keep
  open_one xs p h = open_append xs (p ∷ []) ∙ go (lt (cost p) greatest_finite) refl
    where
      go : (t : Bool) → lt (cost p) greatest_finite ≡ t → cheaper (best xs) (best (p ∷ [])) ≡ cheaper (best xs) (priced cost p)
      go true e = ap (λ (b : Best). cheaper (best xs) b) (rw (h, e) (best_one cost p e))
      go false e = shut e (rw (h, e)) ∙ sym (cheaper_past (best xs) (priced cost p) (open_under xs) e)
        where
          shut : lt (cost p) greatest_finite ≡ false → best (p ∷ []) ≡ no_best → cheaper (best xs) (best (p ∷ [])) ≡ best xs
          shut e f = ap (λ (b : Best). cheaper (best xs) b) f ∙ cheaper_none (best xs) (open_under xs)

-- ---- what the rounds see alike gives the same
pub record Alike (slot child slot' child' : ℕ → ℕ) (cost cost' : Pair → Float) (p : Pair) : Type 0 where
  pub slots : slot p.child ≡ slot' p.child
  pub children : child p.slot ≡ child' p.slot
  pub costs : cost p ≡ cost' p

module _ (slot child slot' child' : ℕ → ℕ) (cost cost' : Pair → Float) (ps : List Pair) (h : All (Alike slot child slot' child' cost cost') ps) where
  pub open_same : open_pairs slot child cost ps ≡ open_pairs slot' child' cost' ps
  unfolding open_pairs
  open_same =
      keep_same (λ p. eqb (slot p.child) 8 && eqb (child p.slot) 8 && lt (cost p) greatest_finite)
      (λ p. eqb (slot' p.child) 8 && eqb (child' p.slot) 8 && lt (cost' p) greatest_finite) ps
      (all_map (Alike slot child slot' child' cost cost')
      (λ p. (eqb (slot p.child) 8 && eqb (child p.slot) 8 && lt (cost p) greatest_finite)
      ≡ (eqb (slot' p.child) 8 && eqb (child' p.slot) 8 && lt (cost' p) greatest_finite)) ps
      (λ p a. rw (a.slots, a.children, a.costs)) h)

  open_costs : All (λ p. cost p ≡ cost' p) (open_pairs slot child cost ps)
  unfolding open_pairs
  open_costs =
      all_kept (λ p. cost p ≡ cost' p) (λ p. eqb (slot p.child) 8 && eqb (child p.slot) 8 && lt (cost p) greatest_finite) ps
      (all_map (Alike slot child slot' child' cost cost') (λ p. cost p ≡ cost' p) ps (λ p a. a.costs) h)

  pub next_same : least_pair cost (open_pairs slot child cost ps) ≡ least_pair cost' (open_pairs slot' child' cost' ps)
  next_same = least_same cost cost' (open_pairs slot child cost ps) open_costs ∙ ap (least_pair cost') open_same

  pub best_alike : best_pair cost (open_pairs slot child cost ps) ≡ best_pair cost' (open_pairs slot' child' cost' ps)
  best_alike = best_same cost cost' (open_pairs slot child cost ps) open_costs ∙ ap (best_pair cost') open_same

-- ---- a row
pub slot_taken : (row : List Float) (child : List ℕ) (c k : ℕ) (b r : Best) → get_or child k 0 ≡ 8 → b ≡ best_slot row child c k
    → r ≡ cheaper b (record { cost = get_or row k nan; child = c; slot = k }) → r ≡ best_slot row child c (k + 1)
unfolding best_slot row_pairs
slot_taken row child c k b r h e f =
    rw add-one (f ∙ ap (λ (z : Best). cheaper z (record { cost = get_or row k nan; child = c; slot = k })) e ∙ sym
    (open_one (λ j. 8) (λ s. get_or child s 0) (row_cost row) (row_pairs c k) (record { child = c; slot = k }) (eq-eqb (get_or child k 0) 8 h)))

pub slot_left : (row : List Float) (child : List ℕ) (c k : ℕ) (b r : Best) → (get_or child k 0 ≡ 8 → ⊥) → b ≡ best_slot row child c k
    → r ≡ b → r ≡ best_slot row child c (k + 1)
unfolding best_slot row_pairs
slot_left row child c k b r h e f =
    rw add-one (f ∙ e ∙ sym (open_shut (λ j. 8) (λ s. get_or child s 0) (row_cost row) (row_pairs c k) (record { child = c; slot = k } ∷ [])
    (ne_eqb (get_or child k 0) 8 h, tt)))

-- ---- the table
pub pair_taken : (table : List (List Float)) (slot child : List ℕ) (c : ℕ) (b x r : Best) → get_or slot c 0 ≡ 8 → b ≡ best_open table slot child c
    → x ≡ best_slot (get_or table c []) child c 8 → r ≡ cheaper b x → r ≡ best_open table slot child (c + 1)
unfolding best_open best_slot pairs
pair_taken table slot child c b x r h e f g =
    rw add-one
    (g ∙ ap₂ cheaper e (f ∙ same) ∙ sym (open_append (λ k. get_or slot k 0) (λ s. get_or child s 0) (cost_in table) (pairs c) (row_pairs c 8)))
  where
    same : best_pair (row_cost (get_or table c [])) (open_pairs (λ j. 8) (λ s. get_or child s 0) (row_cost (get_or table c [])) (row_pairs c 8))
        ≡ best_pair (cost_in table) (open_pairs (λ k. get_or slot k 0) (λ s. get_or child s 0) (cost_in table) (row_pairs c 8))
    same =
        best_alike (λ j. 8) (λ s. get_or child s 0) (λ k. get_or slot k 0) (λ s. get_or child s 0) (row_cost (get_or table c [])) (cost_in table)
        (row_pairs c 8)
        (row-all (Alike (λ j. 8) (λ s. get_or child s 0) (λ k. get_or slot k 0) (λ s. get_or child s 0) (row_cost (get_or table c []))
        (cost_in table)) c 8
        (λ s l. record { slots = sym h; children = refl; costs = refl }))

pub pair_left : (table : List (List Float)) (slot child : List ℕ) (c : ℕ) (b r : Best) → (get_or slot c 0 ≡ 8 → ⊥) → b ≡ best_open table slot child c
    → r ≡ b → r ≡ best_open table slot child (c + 1)
unfolding best_open pairs
pair_left table slot child c b r h e f =
    rw add-one
    (f ∙ e ∙ sym (open_shut (λ k. get_or slot k 0) (λ s. get_or child s 0) (cost_in table) (pairs c) (row_pairs c 8)
    (row-all (λ p. (eqb (get_or slot p.child 0) 8 && eqb (get_or child p.slot 0) 8) ≡ false) c 8 (λ s l. rw (ne_eqb (get_or slot c 0) 8 h)))))
