-- What is left of the lists of a walk by a test of positions.
use mathlib.Core.Bool.{Bool, true, false, ◌&&◌, cond}
use mathlib.Core.List.{List, [], ◌∷◌, ◌++◌}
use mathlib.Core.Path.{◌≡◌, refl, sym, ap, ap₂, ◌∙◌}
use Prim.Native.Nat.{ℕ, zero, suc, ◌<◌}
use native.Mathlib.Omega.{arith}
use Rattle.std.specs.List.{filter}
use Rattle.std.proofs.lemmas.List.Elements.{filter-append}
use Rattle.walk.specs.Listing.{In, flat}
use Rattle.walk.specs.Slots.{falling}
use Rattle.walk.proofs.Lists.{in_head, in_tail}

module _ (own : ℕ → Bool) where
  -- nothing, where none passes
  pub filter_none : (l : List ℕ) → ((p : ℕ) → In p l → own p ≡ false) → filter own l ≡ []
  filter_none [] h = refl
  filter_none (x ∷ l) h = rw (h x (in_head x l)) (filter_none l (λ p i. h p (in_tail p x l i)))

  -- of a list that falls
  filter_head : (b : Bool) (x : ℕ) → cond (b && own x) (x ∷ []) [] ≡ filter own (cond b (x ∷ []) [])
  filter_head true x = refl
  filter_head false x = refl

  pub filter_falling : (f : ℕ → ℕ) (b c : ℕ → Bool) (w : ℕ) → ((i : ℕ) → i < w → b i ≡ (c i && own (f i)))
      → falling f b w ≡ filter own (falling f c w)
  filter_falling f b c zero h = refl
  filter_falling f b c (suc w) h =
      ap₂ ◌++◌ (ap (λ (d : Bool). cond d (f w ∷ []) []) (h w (omega arith)) ∙ filter_head (c w) (f w))
      (filter_falling f b c w (λ i l. h i (omega arith)))
      ∙ sym (filter-append own (cond (c w) (f w ∷ []) []) (falling f c w))

  -- of lists joined at the members of one that falls
  flat_head : (g : ℕ → List ℕ) (b : Bool) (x : ℕ) (l : List ℕ) → flat g (cond b (x ∷ []) [] ++ l) ≡ cond b (g x) [] ++ flat g l
  flat_head g true x l = refl
  flat_head g false x l = refl

  pub filter_flat : (f : ℕ → ℕ) (b c : ℕ → Bool) (g k : ℕ → List ℕ) (w : ℕ)
      → ((i : ℕ) → i < w → cond (b i) (g (f i)) [] ≡ filter own (cond (c i) (k (f i)) []))
      → flat g (falling f b w) ≡ filter own (flat k (falling f c w))
  filter_flat f b c g k zero h = refl
  filter_flat f b c g k (suc w) h =
      flat_head g (b w) (f w) (falling f b w)
      ∙ ap₂ ◌++◌ (h w (omega arith)) (filter_flat f b c g k w (λ i l. h i (omega arith)))
      ∙ sym (filter-append own (cond (c w) (k (f w)) []) (flat k (falling f c w)))
      ∙ ap (filter own) (sym (flat_head k (c w) (f w) (falling f c w)))
