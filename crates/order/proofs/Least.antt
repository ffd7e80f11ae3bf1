-- The first of the least, built from the right and joined from two parts.
use mathlib.Core.Path.{◌≡◌, refl, sym, ap, ap₂, ◌∙◌, subst}
use mathlib.Core.Logic.{◌⊎◌, inl, inr}
use mathlib.Core.Bool.{Bool, true, false, not, cond, true≢false}
use mathlib.Core.List.{List, [], ◌∷◌, ◌++◌}
use lib.Dec.{T}
use lib.ListN.{take}
use lib.Ieee.{Float, of_bits, lt, is_nan}
use Rattle.float.proofs.Order.{lt_through, lt_self, lt_between}
use Rattle.float.proofs.Sign.{no_nan_lt_l}
use Rattle.order.specs.Lists.{keep, some}
use Rattle.order.specs.Assign.{Pair, greatest_finite, least_pair}
use Rattle.order.specs.Scan.{priced, no_best, first_or, best_pair, cheaper}
use Rattle.order.specs.declared.Best.{Best}
use Rattle.order.proofs.Lists.{All, all_append, all_map, all_kept, all_take, keep_same, keep_first, some_same, some_none, some_one}

-- ---- less than, as a test
pub lt_not_both : (x y : Float) → lt x y ≡ true → lt y x ≡ false
lt_not_both x y h = go (lt y x) refl
  where
    go : (t : Bool) → lt y x ≡ t → lt y x ≡ false
    go true e = absurd (true≢false (sym (lt_through x y x h e) ∙ lt_self x))
    go false e = e

-- x is not below y, nor y below z: x is not below z, where y is no NaN
pub not_below : (x y z : Float) → T (not (is_nan y)) → lt x y ≡ false → lt y z ≡ false → lt x z ≡ false
not_below x y z n h k = go (lt x z) refl
  where
    go : (t : Bool) → lt x z ≡ t → lt x z ≡ false
    go true e = absurd (true≢false (sym (lt_between x z y n e h) ∙ k))
    go false e = e

-- ---- the cheaper of two
abbrev Proper : Best → Type 0
Proper b = T (not (is_nan b.cost))

pub cheaper_assoc : (a b c : Best) → Proper b → cheaper (cheaper a b) c ≡ cheaper a (cheaper b c)
unfolding cheaper
cheaper_assoc a b c n = go (lt b.cost a.cost) refl (lt c.cost b.cost) refl
  where
    go : (t : Bool) → lt b.cost a.cost ≡ t → (u : Bool) → lt c.cost b.cost ≡ u
        → cond (lt c.cost (cond t b a).cost) c (cond t b a) ≡ cond (lt (cond u c b).cost a.cost) (cond u c b) a
    go true h true k = rw (k, lt_through c.cost b.cost a.cost k h)
    go true h false k = rw (k, h)
    go false h true k = refl
    go false h false k = rw (h, not_below c.cost b.cost a.cost n k h)

-- nothing found yet, or a cost below the greatest
abbrev pub Under : Best → Type 0
Under b = (b ≡ no_best) ⊎ (lt b.cost greatest_finite ≡ true)

greatest_proper : T (not (is_nan greatest_finite))
unfolding of_bits is_nan
greatest_proper = tt

under_proper : (b : Best) → Under b → Proper b
under_proper b (inl e) = subst (λ (z : Best). Proper z) (sym e) greatest_proper
under_proper b (inr l) = no_nan_lt_l b.cost greatest_finite l

pub cheaper_none : (b : Best) → Under b → cheaper b no_best ≡ b
unfolding cheaper
cheaper_none b (inl e) = rw (e, lt_self greatest_finite)
cheaper_none b (inr l) = rw (lt_not_both b.cost greatest_finite l)

pub none_cheaper : (b : Best) → Under b → cheaper no_best b ≡ b
unfolding cheaper
none_cheaper b (inl e) = rw (e, lt_self greatest_finite)
none_cheaper b (inr l) = rw l

-- what is not below the greatest is not cheaper
pub cheaper_past : (b x : Best) → Under b → lt x.cost greatest_finite ≡ false → cheaper b x ≡ b
unfolding cheaper
cheaper_past b x (inl e) h = rw (e, h)
cheaper_past b x (inr l) h = rw (past (lt x.cost b.cost) refl)
  where
    past : (t : Bool) → lt x.cost b.cost ≡ t → lt x.cost b.cost ≡ false
    past true e = absurd (true≢false (sym (lt_through x.cost b.cost greatest_finite e l) ∙ h))
    past false e = e

cheaper_under : (a b : Best) → Under a → Under b → Under (cheaper a b)
unfolding cheaper
cheaper_under a b u v = go (lt b.cost a.cost)
  where
    go : (t : Bool) → Under (cond t b a)
    go true = v
    go false = u

-- ---- the least of a list, from the right
module _ (cost : Pair → Float) where
  -- each costs less than the greatest
  abbrev pub Below : List Pair → Type 0
  Below ps = All (λ p. lt (cost p) greatest_finite ≡ true) ps

  best_in : List Pair → Best
  best_in [] = no_best
  best_in (p ∷ ps) = cheaper (priced cost p) (best_in ps)

  best_in_under : (ps : List Pair) → Below ps → Under (best_in ps)
  unfolding best_in
  best_in_under [] h = inl refl
  best_in_under (p ∷ ps) h = cheaper_under (priced cost p) (best_in ps) (inr h.0) (best_in_under ps h.1)

  best_in_append : (xs ys : List Pair) → Below xs → Below ys → best_in (xs ++ ys) ≡ cheaper (best_in xs) (best_in ys)
  unfolding best_in
  best_in_append [] ys h k = sym (none_cheaper (best_in ys) (best_in_under ys k))
  best_in_append (x ∷ xs) ys h k =
      ap (cheaper (priced cost x)) (best_in_append xs ys h.1 k)
      ∙ sym (cheaper_assoc (priced cost x) (best_in xs) (best_in ys) (under_proper (best_in xs) (best_in_under xs h.1)))

  -- p is the first of the least of ps
  pub record Least (ps : List Pair) (p : Pair) : Type 0 where
    pub before : List Pair
    pub after : List Pair
    pub is : ps ≡ before ++ (p ∷ after)
    pub dearer : All (λ q. lt (cost p) (cost q) ≡ true) before
    pub none : All (λ q. lt (cost q) (cost p) ≡ false) ps

  pub least_is : (ps : List Pair) (p : Pair) → Least ps p → least_pair cost ps ≡ p ∷ []
  unfolding least_pair
  least_is ps p l =
      ap (λ (z : List Pair). take 1 (keep (λ q. not (some (λ r. lt (cost r) (cost q)) ps)) z)) l.is
      ∙ keep_first (λ q. not (some (λ r. lt (cost r) (cost q)) ps)) l.before p l.after
      (all_map (λ q. lt (cost p) (cost q) ≡ true) (λ q. not (some (λ r. lt (cost r) (cost q)) ps) ≡ false) l.before beaten l.dearer)
      (ap not (some_none (λ r. lt (cost r) (cost p)) ps l.none))
    where
      beaten : (q : Pair) → lt (cost p) (cost q) ≡ true → not (some (λ r. lt (cost r) (cost q)) ps) ≡ false
      beaten q e =
          ap (λ (z : List Pair). not (some (λ r. lt (cost r) (cost q)) z)) l.is
          ∙ ap not (some_one (λ r. lt (cost r) (cost q)) l.before p l.after e)

  abbrev Chosen : List Pair → Best → Type 0
  Chosen ps b = (p : Pair) × Least ps p × (lt (cost p) greatest_finite ≡ true) × (b ≡ priced cost p)

  chosen_one : (p : Pair) → lt (cost p) greatest_finite ≡ true → Chosen (p ∷ []) (cheaper (priced cost p) no_best)
  chosen_one p u = (
    p,
    record { before = []; after = []; is = refl; dearer = tt; none = (lt_self (cost p), tt) },
    u,
    cheaper_none (priced cost p)
        (inr u),
  )

  chosen_next : (p : Pair) (ps : List Pair) (b : Best) → lt (cost p) greatest_finite ≡ true → Chosen ps b
      → Chosen (p ∷ ps) (cheaper (priced cost p) b)
  unfolding cheaper
  chosen_next p ps b u (q, l, v, e) = subst (λ (z : Best). Chosen (p ∷ ps) (cond (lt z.cost (cost p)) z (priced cost p))) (sym e)
      (go (lt (cost q) (cost p)) refl)
    where
      go : (t : Bool) → lt (cost q) (cost p) ≡ t → Chosen (p ∷ ps) (cond t (priced cost q) (priced cost p))
      go true h = (
        q,
        record {
          before = p ∷ l.before;
          after = l.after;
          is = ap (λ (z : List Pair). p ∷ z) l.is;
          dearer = (h, l.dearer);
          none = (lt_not_both (cost q) (cost p) h, l.none);
        },
        v,
        refl,
      )
      go false h = (
        p,
        record {
          before = [];
          after = ps;
          is = refl;
          dearer = tt;
          none = (
            lt_self (cost p),
            all_map (λ r. lt (cost r) (cost q) ≡ false) (λ r. lt (cost r) (cost p) ≡ false) ps
                (λ r f. not_below (cost r) (cost q) (cost p) (no_nan_lt_l (cost q) greatest_finite v) f h) l.none,
          );
        },
        u,
        refl,
      )

  chosen : (p : Pair) (ps : List Pair) → Below (p ∷ ps) → Chosen (p ∷ ps) (best_in (p ∷ ps))
  unfolding best_in
  chosen p [] h = chosen_one p h.0
  chosen p (q ∷ ps) h = chosen_next p (q ∷ ps) (best_in (q ∷ ps)) h.0 (chosen q ps h.1)

  best_is : (ps : List Pair) → Below ps → best_pair cost ps ≡ best_in ps
  unfolding best_in least_pair keep
  best_is [] h = refl
  best_is (p ∷ ps) h = go (chosen p ps h)
    where
      go : Chosen (p ∷ ps) (best_in (p ∷ ps)) → best_pair cost (p ∷ ps) ≡ best_in (p ∷ ps)
      go (q, l, v, e) = ap (first_or cost) (least_is (p ∷ ps) q l) ∙ sym e

  -- ---- the theorems
  pub best_under : (ps : List Pair) → Below ps → Under (best_pair cost ps)
  best_under ps h = subst Under (sym (best_is ps h)) (best_in_under ps h)

  pub best_append : (xs ys : List Pair) → Below xs → Below ys → best_pair cost (xs ++ ys) ≡ cheaper (best_pair cost xs) (best_pair cost ys)
  best_append xs ys h k = best_is (xs ++ ys) (all_append (λ p. lt (cost p) greatest_finite ≡ true) xs ys h k) ∙ best_in_append xs ys h k ∙ sym
      (ap₂ cheaper (best_is xs h) (best_is ys k))

  pub best_one : (p : Pair) → lt (cost p) greatest_finite ≡ true → best_pair cost (p ∷ []) ≡ priced cost p
  unfolding best_in
  best_one p h = best_is (p ∷ []) (h, tt) ∙ cheaper_none (priced cost p) (inr h)

  -- the least pair of some, if there are any
  pub least_of : (ps : List Pair) → Below ps → (ps ≡ []) ⊎ ((p : Pair) × Least ps p)
  least_of [] h = inl refl
  least_of (p ∷ ps) h = let c = chosen p ps h in inr (c.0, c.1)

-- ---- costs that agree on the pairs
module _ (cost other : Pair → Float) where
  abbrev Same : List Pair → Type 0
  Same ps = All (λ p. cost p ≡ other p) ps

  pub least_same : (ps : List Pair) → Same ps → least_pair cost ps ≡ least_pair other ps
  unfolding least_pair
  least_same ps h =
      ap (take 1)
      (keep_same (λ p. not (some (λ q. lt (cost q) (cost p)) ps)) (λ p. not (some (λ q. lt (other q) (other p)) ps)) ps
      (all_map (λ p. cost p ≡ other p) (λ p. not (some (λ q. lt (cost q) (cost p)) ps) ≡ not (some (λ q. lt (other q) (other p)) ps)) ps each h))
    where
      each : (p : Pair) → cost p ≡ other p → not (some (λ q. lt (cost q) (cost p)) ps) ≡ not (some (λ q. lt (other q) (other p)) ps)
      each p e =
          ap not
          (some_same (λ q. lt (cost q) (cost p)) (λ q. lt (other q) (other p)) ps
          (all_map (λ q. cost q ≡ other q) (λ q. lt (cost q) (cost p) ≡ lt (other q) (other p)) ps (λ q d. ap₂ lt d e) h))

  least_all : (ps : List Pair) → Same ps → Same (least_pair cost ps)
  unfolding least_pair
  least_all ps h =
      let f : Pair → Bool = λ p. not (some (λ q. lt (cost q) (cost p)) ps) in
      all_take (λ p. cost p ≡ other p) (keep f ps) (all_kept (λ p. cost p ≡ other p) f ps h)

  pub best_same : (ps : List Pair) → Same ps → best_pair cost ps ≡ best_pair other ps
  best_same ps h = first (least_pair cost ps) (least_all ps h) ∙ ap (first_or other) (least_same ps h)
    where
      first : (l : List Pair) → Same l → first_or cost l ≡ first_or other l
      first [] g = refl
      first (p ∷ l) g = ap (λ (x : Float). record { cost = x; child = p.child; slot = p.slot }) g.0
