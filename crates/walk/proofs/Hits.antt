-- What closest and miss have noted after any positions, whatever their panes: what they had before, a pane's fault, or a hit at one of the positions,
-- at its pane's distance, which is nearer for the ray as it was at first.
use mathlib.Core.Bool.{Bool, true, false, cond}
use mathlib.Core.List.{List, [], ◌∷◌}
use mathlib.Core.Path.{◌≡◌, refl, ◌∙◌, sym}
use Prim.Native.Nat.{ℕ}
use Rattle.walk.specs.Tests.{Tests}
use Rattle.walk.specs.Listing.{In}
use Rattle.walk.specs.Queries.{Reaction, Pane, distance, faulty, Found, hit, fault, closest, miss, lower, lower_at, block_at}
use Rattle.walk.specs.Reports.{told_ray, Notes}
use Rattle.walk.proofs.Lists.{in_head, in_tail}

-- the notes of the positions after a reaction
abbrev pub After : {RayData Distance : Type 0} (m : ℕ) (T : Tests RayData Distance)
    → (ℕ → RayData → Found Distance → Reaction Distance (Found Distance))
    → RayData → List ℕ → Found Distance → Reaction Distance (Found Distance) → Type 0
After m T react r l y k = elim k.stop as (λ (b : Bool). Type 0) [
  | true ↦ (l ≡ []) × (y ≡ k.accumulator)
  | false ↦ Notes m T react (told_ray T k.tells r) k.accumulator l y
]

module _ {RayData Distance : Type 0} (pane : ℕ → RayData → Pane Distance) (nearer : Distance → RayData → Bool) where
  pub data Came (r : RayData) (x y : Found Distance) (l : List ℕ) : Type 0 where
    stayed : y ≡ x → Came r x y l
    hits : (p : ℕ) (t : Distance) → y ≡ hit p t → In p l → pane p r ≡ distance t → nearer t r ≡ true → Came r x y l
    faults : (k : ℕ) → y ≡ fault k → Came r x y l

  -- one position more in front
  behind : {r : RayData} {x y : Found Distance} {l : List ℕ} (p : ℕ) → Came r x y l → Came r x y (p ∷ l)
  behind p (stayed e) = stayed e
  behind {l = l} p (hits q t e i s h) = hits q t e (in_tail q p l i) s h
  behind p (faults k e) = faults k e

  module _ (m : ℕ) (T : Tests RayData Distance) (told_pane : (p : ℕ) (t : Distance) (r : RayData) → pane p (T.told t r) ≡ pane p r)
      (told_nearer : (t u : Distance) (r : RayData) → nearer t r ≡ true → nearer u (T.told t r) ≡ true → nearer u r ≡ true) where
    -- a hit at p, and what came of the others from then on
    from_hit : (p : ℕ) (t : Distance) (r : RayData) (x y : Found Distance) (l : List ℕ) → pane p r ≡ distance t → nearer t r ≡ true
        → Came (T.told t r) (hit p t) y l → Came r x y (p ∷ l)
    from_hit p t r x y l s h (stayed e) = hits p t e (in_head p l) s h
    from_hit p t r x y l s h (hits q u e i w k) = hits q u e (in_tail q p l i) (sym (told_pane q t r) ∙ w) (told_nearer t u r h k)
    from_hit p t r x y l s h (faults k e) = faults k e

    pub closest_came : (l : List ℕ) (r : RayData) (x y : Found Distance) → Notes m T (closest pane nearer) r x l y → Came r x y l
    closest_came [] r x y n = stayed n
    closest_came (p ∷ l) r x y n = go (pane p r) refl n (closest_came l)
      where
        Rest : Type 0
        Rest = (r : RayData) (x y : Found Distance) → Notes m T (closest pane nearer) r x l y → Came r x y l

        at : (t : Distance) → pane p r ≡ distance t → (c : Bool) → nearer t r ≡ c → After m T (closest pane nearer) r l y (lower pane nearer c p t x)
            → Rest → Came r x y (p ∷ l)
        at t s true h n f = from_hit p t r x y l s h (f (T.told t r) (hit p t) y n)
        at t s false h n f = behind p (f r x y n)

        go : (q : Pane Distance) → pane p r ≡ q → After m T (closest pane nearer) r l y (lower_at pane nearer q p r x) → Rest → Came r x y (p ∷ l)
        go (distance t) s n f = at t s (nearer t r) refl n f
        go (faulty k) s n f = faults k n.1

    pub miss_came : (l : List ℕ) (r : RayData) (x y : Found Distance) → Notes m T (miss pane nearer) r x l y → Came r x y l
    miss_came [] r x y n = stayed n
    miss_came (p ∷ l) r x y n = go (pane p r) refl n (miss_came l r x y)
      where
        at : (t : Distance) → pane p r ≡ distance t → (c : Bool) → nearer t r ≡ c
            → After m T (miss pane nearer) r l y (record { accumulator = cond c (hit p t) x; tells = []; stop = c })
            → (Notes m T (miss pane nearer) r x l y → Came r x y l) → Came r x y (p ∷ l)
        at t s true h n f = hits p t n.1 (in_head p l) s h
        at t s false h n f = behind p (f n)

        go : (q : Pane Distance) → pane p r ≡ q → After m T (miss pane nearer) r l y (block_at pane nearer q p r x)
            → (Notes m T (miss pane nearer) r x l y → Came r x y l) → Came r x y (p ∷ l)
        go (distance t) s n f = at t s (nearer t r) refl n f
        go (faulty k) s n f = faults k n.1
