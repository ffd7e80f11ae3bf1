-- The children of a node, seated.
use mathlib.Core.Path.{◌≡◌, refl, sym, ap, ap₂, ◌∙◌, subst, fun_ext}
use mathlib.Core.Logic.{◌⊎◌, inl, inr}
use mathlib.Core.Bool.{Bool, true, false, cond}
use mathlib.Core.List.{List, [], ◌∷◌, ◌++◌, map, map-append, map-map, map-id, flat_map, Perm}
use Prim.Native.Nat.{ℕ, zero, suc, ◌-◌, ◌≤◌, ◌<◌}
use native.Mathlib.Numerals.{add-one}
use native.Mathlib.Omega.{arith}
use lib.Dec.{T, ltb}
use lib.ListN.{length, take, get_or, replicate, length-map, get_or-eq_default}
use Rattle.std.proofs.lemmas.List.{get_or-map}
use lib.Seq.{ext_get_or, take-append_seam}
use borrow.Author.Tests.{lt-ltb, le-ltb}
use Rattle.lists.specs.Counts.{upto}
use Rattle.lists.proofs.Counts.{upto-length}
use Rattle.lists.specs.Values.{values}
use Rattle.lists.proofs.Values.{values_length, values_at, values_next}
use Rattle.aabb.specs.declared.Aabb.{Aabb}
use Rattle.aabb.specs.Aabb.{accepted_box}
use Rattle.order.specs.Lists.{eight_of, padded}
use Rattle.order.specs.Assign.{Pair, child_of, rounds_of}
use Rattle.order.specs.Order.{gathered_order, slots_of, placed, seated_of, no_child}
use Rattle.order.proofs.Arrays.{eight_at}
use Rattle.words.proofs.Upto.{lt_or_ge}
use Rattle.order.proofs.InOrder.{in_order_slot, in_order_one_to_one, length_in_order}
use Rattle.order.proofs.Lists.{All, all_map, all_by_index, all_mapped}
use Rattle.order.proofs.Partners.{OneToOne}
use Rattle.order.proofs.Padded.{padded_at}
use Rattle.order.proofs.Permutation.{eight-padded, seated_perm}
use Rattle.order.proofs.Slots.{AcceptedAll, slots_one_to_one}
use Rattle.order_laws.specs.Nodes.{seating, node_cost, by_cost, SeatedByCost, AsGathered, AllSeated, AllPlaces}
use Rattle.order_laws.specs.Seated.{seated_in}
use Rattle.order_laws.proofs.Rounds.{no_pair}
use Rattle.order_laws.proofs.Seated.{pair_at, child_in, seated_by_round, seated_once}

-- ---- the values of those seated are the values of all, rearranged
module _ {B : Type 0} (v : ℕ → B) where
  flat_ones : (h : ℕ → List B) (l : List ℕ) → All (λ c. h c ≡ v c ∷ []) l → flat_map h l ≡ map v l
  unfolding flat_map
  flat_ones h [] a = refl
  flat_ones h (c ∷ l) a = ap₂ (λ (x y : List B). x ++ y) a.0 (flat_ones h l a.1)

  upto_at : (n i : ℕ) → i < n → get_or (upto 0 n) i 8 ≡ i
  upto_at n i l = ap (λ (xs : List ℕ). get_or xs i 8) (sym (map-id (upto 0 n))) ∙ values_at (λ x. x) n i 8 l

  places_perm : (n : ℕ) (ps : List Pair) → n ≤ 8 → OneToOne n ps → Perm (map v (map (λ p. p.child) ps)) (values v n)
  places_perm n ps few o =
      subst (λ (l : List B). Perm l (values v n))
      (flat_ones (λ c. g (get_or (upto 0 n) c 8)) (map (λ p. p.child) ps)
      (all_mapped (λ c. g (get_or (upto 0 n) c 8) ≡ v c ∷ []) (λ p. p.child) ps
      (all_map (λ p. p.child < n) (λ p. g (get_or (upto 0 n) p.child 8) ≡ v p.child ∷ []) ps (λ p l. ap g (upto_at n p.child l) ∙ one p.child l)
      o.matched.children)))
      (subst (λ (l : List B). Perm (flat_map (λ c. g (get_or (upto 0 n) c 8)) (map (λ p. p.child) ps)) l)
      (flat_ones g (upto 0 n) (all_by_index (λ c. g c ≡ v c ∷ []) (upto 0 n) 8
      (λ i l. let k : i < n = omega (arith, l, upto-length 0 n) in ap g (upto_at n i k) ∙ one i k ∙ ap (λ (c : ℕ). v c ∷ []) (sym (upto_at n i k)))))
      (seated_perm 8 g (none (le-ltb 8 n few)) ps (upto 0 n) (omega (arith, upto-length 0 n))
      (subst (λ (m : ℕ). OneToOne m ps) (sym (upto-length 0 n)) o)))
    where
      g : ℕ → List B
      g c = cond (ltb c n) (v c ∷ []) []

      one : (c : ℕ) → c < n → g c ≡ v c ∷ []
      one c l = rw (lt-ltb c n l) refl

      none : ltb 8 n ≡ false → g 8 ≡ []
      none e = rw e refl

  gathered_values : (n : ℕ) → map (λ p. v p.child) (gathered_order n) ≡ values v n
  unfolding gathered_order upto
  gathered_values zero = refl
  gathered_values (suc n) =
      map-append (λ p. v p.child) (gathered_order n) (record { child = n; slot = n } ∷ [])
      ∙ ap (λ (l : List B). l ++ (v n ∷ [])) (gathered_values n)
      ∙ sym (ap (values v) (sym (add-one n)) ∙ values_next v n)

-- a list by its places
by_place : (none : ℕ) (xs : List ℕ) → values (λ c. get_or xs c none) (length xs) ≡ xs
by_place none xs =
    ext_get_or none (values (λ c. get_or xs c none) (length xs)) xs (values_length (λ c. get_or xs c none) (length xs))
    (λ i l. values_at (λ c. get_or xs c none) (length xs) i none (omega (arith, l, values_length (λ c. get_or xs c none) (length xs))))

-- the front of an array is the list in it
front : {A : Type 0} (d : A) (xs : List A) → take (length xs) (padded d xs) ≡ xs
unfolding padded
front d xs = take-append_seam xs (replicate (8 - length xs) d)

-- ---- without ordering
gathered_child : (n s : ℕ) → n ≤ 8 → (child_of (gathered_order n) s ≡ s) ⊎ ((n ≤ s) × (child_of (gathered_order n) s ≡ 8))
gathered_child n s few =
    let o = in_order_one_to_one n few in
    elim (o.back s) [
      | inr w ↦ inl (sym (in_order_slot n (child_of (gathered_order n) s) few w.1) ∙ w.2)
      | inl e ↦ elim (lt_or_ge s n) [
        | inl l ↦ inl (ap (child_of (gathered_order n)) (sym (in_order_slot n s few l)) ∙ o.there s l)
        | inr l ↦ inr (l, e)
      ]
    ]

gathered_slots : (none : ℕ) (xs : List ℕ) (n : ℕ) → n ≤ 8 → length xs ≡ n → placed none (gathered_order n) xs ≡ padded none xs
unfolding placed
gathered_slots none xs n few e = ap eight_of (fun_ext at) ∙ eight-padded none xs (omega (arith, few, e))
  where
    at : (s : ℕ) → get_or xs (child_of (gathered_order n) s) none ≡ get_or xs s none
    at s = elim (gathered_child n s few) [
      | inl d ↦ ap (λ (c : ℕ). get_or xs c none) d
      | inr w ↦
          ap (λ (c : ℕ). get_or xs c none) w.1
          ∙ get_or-eq_default xs none {n = 8} (omega (arith, few, e)) ∙ sym (get_or-eq_default xs none {n = s} (omega (arith, w.0, e)))
    ]

gathered_seated : (none : ℕ) (xs : List ℕ) (n : ℕ) → length xs ≡ n → seated_of none (gathered_order n) xs ≡ padded none xs
unfolding seated_of
gathered_seated none xs n e =
    ap (padded none)
    (gathered_values (λ c. get_or xs c none) n ∙ ap (values (λ c. get_or xs c none)) (sym e) ∙ by_place none xs)

-- ---- a node's children
module _ (parent : Aabb) (boxes : List Aabb) (few : length boxes ≤ 8) where
  -- the pairs, with ordering or without
  abbrev pairs : Bool → List Pair
  pairs ordered = slots_of ordered parent boxes

  -- as many searches as children, if all have a slot
  one_each : (ps : List Pair) → length ps ≡ length boxes → rounds_of (length boxes) ps ≡ length boxes
  unfolding rounds_of
  one_each ps e = rw (e, le-ltb (length boxes) (length boxes) (omega arith)) refl

  pub all_places : T (accepted_box parent) → AcceptedAll boxes → AllPlaces parent boxes
  unfolding slots_of
  all_places p h =
      let o = slots_one_to_one true parent boxes few p h in
      let order = map (λ q. q.child) (pairs true) in
      record {
        count = o.all;
        rounds = one_each (pairs true) o.all;
        rearranged = subst (λ (l : List ℕ). Perm l (upto 0 (length boxes)))
            (map-id order ∙ sym (front 8 order) ∙ ap (λ (k : ℕ). take k (padded 8 order)) (length-map (pairs true) (λ q. q.child)))
            (subst (Perm (map (λ c. c) order)) (map-id (upto 0 (length boxes))) (places_perm (λ c. c) (length boxes) (pairs true) few o));
      }

  module _ (children : List ℕ) where
    pub seated_by_cost : SeatedByCost parent boxes children
    unfolding slots_of placed seated_of
    seated_by_cost = record {
      rule = seated_by_round (node_cost parent boxes) (length boxes) few;
      count = refl;
      rounds = refl;
      seated = seated;
      slots = λ k l.
          eight_at (λ s. get_or children (child_of (pairs true) s) no_child) no_child (seated_in (by_cost parent boxes) k).slot
          ((seated_once (node_cost parent boxes) (length boxes) few).has_slot k l).1
          ∙ ap (λ (c : ℕ). get_or children c no_child) (child_in (node_cost parent boxes) (length boxes) few k l)
          ∙ sym (seated k l);
    }
      where
        seated : (k : ℕ) → k < (by_cost parent boxes).count
            → get_or (seating parent boxes children true).seated k no_child ≡ get_or children (seated_in (by_cost parent boxes) k).child no_child
        seated k l =
            padded_at no_child (map (λ p. get_or children p.child no_child) (pairs true)) k
            ∙ get_or-map (λ p. get_or children p.child no_child) (pairs true) k no_pair no_child l
            ∙ ap (λ (p : Pair). get_or children p.child no_child) (sym (pair_at (node_cost parent boxes) (length boxes) few k l))

    module _ (same : length children ≡ length boxes) where
      pub as_gathered : AsGathered parent boxes children
      unfolding slots_of
      as_gathered = record {
        slots = gathered_slots no_child children (length boxes) few same;
        seated = gathered_seated no_child children (length boxes) same;
        count = length_in_order (length boxes) ∙ sym same;
        rounds = refl;
      }

      pub all_seated : T (accepted_box parent) → AcceptedAll boxes → (ordered : Bool) → AllSeated parent boxes children ordered
      unfolding seated_of
      all_seated p h ordered =
          let o = slots_one_to_one ordered parent boxes few p h in
          let numbers = map (λ q. get_or children q.child no_child) (pairs ordered) in
          record {
            count = o.all;
            rounds = ap (λ (r : ℕ). cond ordered r 0) (one_each (pairs ordered) o.all);
            rearranged = subst (λ (l : List ℕ). Perm l children)
                (map-map (λ c. get_or children c no_child) (λ q. q.child) (pairs ordered)
                ∙ sym (front no_child numbers)
                ∙ ap (λ (k : ℕ). take k (padded no_child numbers)) (length-map (pairs ordered) (λ q. get_or children q.child no_child)))
                (subst (Perm (map (λ c. get_or children c no_child) (map (λ q. q.child) (pairs ordered))))
                (ap (values (λ c. get_or children c no_child)) (sym same) ∙ by_place no_child children)
                (places_perm (λ c. get_or children c no_child) (length boxes) (pairs ordered) few o));
          }
