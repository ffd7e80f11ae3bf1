-- The children by slots are the children in gathered order, rearranged: whatever each child lists, the slots list it as often.
use mathlib.Core.Path.{◌≡◌, refl, sym, ap, ap₂, ◌∙◌, subst, fun_ext}
use mathlib.Core.Logic.{inl, inr}
use mathlib.Core.List.Permᴰ
use mathlib.Core.List.{List, [], ◌∷◌, ◌++◌, map, flat_map, append_assoc, Perm, Permᴰ}
use Prim.Native.Nat.{ℕ, zero, suc, ◌-◌, ◌≤◌, ◌<◌}
use native.Mathlib.Nat.{not-suc-le-zero, le_of_suc-le-suc}
use native.Mathlib.Omega.{arith}
use lib.ListN.{length, get_or, set, replicate, length-append, length-replicate, get_or-eq_default}
use lib.Seq.{ext_get_or}
use borrow.Author.Tests.{eq-eqb, ne_eqb}
use Rattle.words.proofs.Upto.{lt_or_ge}
use Rattle.order.specs.Lists.{eight_of, padded}
use Rattle.order.specs.Assign.{Pair, partner, slot_of, child_of}
use Rattle.order.specs.Order.{placed}
use Rattle.order.proofs.Arrays.{eight_at, eight-set}
use Rattle.order.proofs.Lists.{All, all_map}
use Rattle.order.proofs.Padded.{padded_at}
use Rattle.order.proofs.Partners.{Apart, partner_none, partner_own, child_slot, OneToOne}

-- a pair in front sets its key's place
front_set : (key value : Pair → ℕ) (p : Pair) (ps : List Pair) → key p < 8 → set (eight_of (partner key value ps)) (key p) (value p)
    ≡ eight_of (partner key value (p ∷ ps))
unfolding partner
front_set key value p ps l =
    eight-set (partner key value ps) (partner key value (p ∷ ps)) (key p) (value p) l (rw (eq-eqb (key p) (key p) refl))
    (λ j d. rw (ne_eqb (key p) j (λ e. d (sym e))))

swap_front : {B : Type 0} (x y z : List B) → Permᴰ (x ++ (y ++ z)) (y ++ (x ++ z))
swap_front x y z = rw (← append_assoc x y z, ← append_assoc y x z) (Permᴰ.append_right z (Permᴰ.append_comm x y))

module _ {B : Type 0} (h : ℕ → List B) (none : h 8 ≡ []) where
  -- a list that changes at one place, where it listed nothing
  flat-set : (xs : List ℕ) (i v d : ℕ) → i < length xs → h (get_or xs i d) ≡ [] → Permᴰ (flat_map h (set xs i v)) (h v ++ flat_map h xs)
  unfolding flat_map
  flat-set [] i v d l e = absurd (not-suc-le-zero l)
  flat-set (x ∷ xs) zero v d l e = rw e (Permᴰ.refl (h v ++ flat_map h xs))
  flat-set (x ∷ xs) (suc i) v d l e =
      Permᴰ.trans (Permᴰ.append_left (h x) (flat-set xs i v d (le_of_suc-le-suc l) e)) (swap_front (h x) (h v) (flat_map h xs))

  -- by key or in the order of the pairs
  by_key : (key value : Pair → ℕ) (ps : List Pair) → All (λ p. key p < 8) ps → Apart key ps
      → Permᴰ (flat_map h (eight_of (partner key value ps))) (flat_map h (map value ps))
  unfolding flat_map partner
  by_key key value [] b a = rw none (Permᴰ.refl [])
  by_key key value (p ∷ ps) b a =
      subst (λ (l : List ℕ). Permᴰ (flat_map h l) (h (value p) ++ flat_map h (map value ps))) (front_set key value p ps b.0)
      (Permᴰ.trans
      (flat-set (eight_of (partner key value ps)) (key p) (value p) 0 b.0
      (ap h (eight_at (partner key value ps) 0 (key p) b.0 ∙ partner_none key value ps (key p) a.0) ∙ none))
      (Permᴰ.append_left (h (value p)) (by_key key value ps b.1 a.1)))

flat-same : {B : Type 0} (f g : ℕ → List B) (u v : Pair → ℕ) (ps : List Pair) → All (λ p. f (u p) ≡ g (v p)) ps → flat_map f (map u ps)
    ≡ flat_map g (map v ps)
unfolding flat_map
flat-same f g u v [] h = refl
flat-same f g u v (p ∷ ps) h = ap₂ (λ (x y : List _). x ++ y) h.0 (flat-same f g u v ps h.1)

-- ---- what fills a list up to eight lists nothing
module _ {A : Type 0} (none : A) where
  pub eight-padded : (xs : List A) → length xs ≤ 8 → eight_of (λ i. get_or xs i none) ≡ padded none xs
  unfolding padded
  eight-padded xs few =
      ext_get_or none (eight_of (λ i. get_or xs i none)) (xs ++ replicate (8 - length xs) none)
      (omega (arith, length-append xs (replicate (8 - length xs) none), length-replicate (8 - length xs) none))
      (λ i l. eight_at (λ i. get_or xs i none) none i l ∙ sym (padded_at none xs i))

  flat-padded : {B : Type 0} (g : A → List B) → g none ≡ [] → (xs : List A) (m : ℕ) → flat_map g (xs ++ replicate m none) ≡ flat_map g xs
  unfolding flat_map
  flat-padded g e [] zero = refl
  flat-padded g e [] (suc m) = rw e (flat-padded g e [] m)
  flat-padded g e (x ∷ xs) m = ap (λ (l : List _). g x ++ l) (flat-padded g e xs m)

-- ---- the theorem: g says what a child lists, and nothing where there is none
module _ {A B : Type 0} (none : A) (g : A → List B) (e : g none ≡ []) (ps : List Pair) (xs : List A) (few : length xs ≤ 8)
    (o : OneToOne (length xs) ps) where
  abbrev listed : ℕ → List B
  listed c = g (get_or xs c none)

  listed_past : (c : ℕ) → length xs ≤ c → listed c ≡ []
  listed_past c h = ap g (get_or-eq_default xs none {n = c} h) ∙ e

  no_ninth : child_of ps 8 ≡ 8
  no_ninth = partner_none (λ p. p.slot) (λ p. p.child) ps 8
      (all_map (λ p. p.slot < 8) (λ p. p.slot ≡ 8 → ⊥) ps (λ p l d. omega arith) o.matched.slots)

  -- through its slot a child comes back to itself
  round_trip : (c : ℕ) → listed (child_of ps (slot_of ps c)) ≡ listed c
  round_trip c = elim (lt_or_ge c (length xs)) [
    | inl l ↦ ap listed (o.there c l)
    | inr l ↦ elim (child_slot (length xs) ps o.matched c) [
      | inl d ↦ ap (λ (s : ℕ). listed (child_of ps s)) d ∙ ap listed no_ninth ∙ listed_past 8 few ∙ sym (listed_past c l)
      | inr w ↦ absurd (omega (arith, w.0))
    ]
  ]

  in_gathered_order : flat_map (λ s. listed (child_of ps s)) (eight_of (slot_of ps)) ≡ flat_map g xs
  unfolding flat_map padded
  in_gathered_order =
      ap (λ (f : ℕ → List B). flat_map f (eight_of (λ c. c))) (fun_ext round_trip)
      ∙ ap (flat_map g) (eight-padded none xs few)
      ∙ flat-padded none g e xs (8 - length xs)

  in_pair_order : flat_map (λ s. listed (child_of ps s)) (map (λ p. p.slot) ps) ≡ flat_map listed (map (λ p. p.child) ps)
  in_pair_order =
      flat-same (λ s. listed (child_of ps s)) listed (λ p. p.slot) (λ p. p.child) ps
      (all_map (λ p. child_of ps p.slot ≡ p.child) (λ p. listed (child_of ps p.slot) ≡ listed p.child) ps (λ p d. ap listed d)
      (partner_own (λ p. p.slot) (λ p. p.child) ps o.matched.slots_apart))

  seated_permᴰ : Permᴰ (flat_map listed (map (λ p. p.child) ps)) (flat_map g xs)
  unfolding flat_map
  seated_permᴰ =
      let m = o.matched in
      let below : All (λ p. p.child < 8) ps = all_map (λ p. p.child < length xs) (λ p. p.child < 8) ps (λ p l. omega arith) m.children in
      subst (λ (l : List B). Permᴰ (flat_map listed (map (λ p. p.child) ps)) l) in_gathered_order
      (subst (λ (l : List B). Permᴰ l (flat_map (λ s. listed (child_of ps s)) (eight_of (slot_of ps)))) in_pair_order
      (Permᴰ.symm (by_key (λ s. listed (child_of ps s)) (ap listed no_ninth ∙ listed_past 8 few) (λ p. p.child) (λ p. p.slot) ps below
      m.children_apart)))

  placed_permᴰ : Permᴰ (flat_map g (placed none ps xs)) (flat_map g xs)
  unfolding placed flat_map
  placed_permᴰ = Permᴰ.trans (by_key listed (listed_past 8 few) (λ p. p.slot) (λ p. p.child) ps o.matched.slots o.matched.slots_apart) seated_permᴰ

  pub placed_perm : Perm (flat_map g (placed none ps xs)) (flat_map g xs)
  placed_perm = ∣ placed_permᴰ ∣₁

  -- in the order seated as well
  pub seated_perm : Perm (flat_map listed (map (λ p. p.child) ps)) (flat_map g xs)
  seated_perm = ∣ seated_permᴰ ∣₁
