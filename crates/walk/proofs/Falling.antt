-- Laws of `falling`: what such a list has, how often, and its first element.
use mathlib.Core.Bool.{Bool, true, false, ◌||◌, cond}
use mathlib.Core.List.{[], ◌∷◌, ◌++◌}
use mathlib.Core.Path.{◌≡◌, refl, sym, ap, ◌∙◌, subst}
use Prim.Native.Nat.{ℕ, zero, suc, ◌+◌, ◌≤◌, ◌<◌}
use native.Mathlib.Omega.{arith}
use lib.ListN.{length}
use Rattle.lists.specs.Counts.{same, count}
use Rattle.lists.proofs.Counts.{Same, equal, apart, same?, Some, none, some, some?}
use Rattle.lists.proofs.Tells.{Tells, passes, fails}
use Rattle.walk.specs.Listing.{In}
use Rattle.walk.specs.Slots.{falling, some_below}
use Rattle.walk.proofs.Lists.{in_head, in_none, in_right}

-- ---- members

pub falling-length : (f : ℕ → ℕ) (b : ℕ → Bool) (w : ℕ) → length (falling f b w) ≤ w
falling-length f b zero = omega arith
falling-length f b (suc w) = go (b w) (falling-length f b w)
  where
    go : (c : Bool) → length (falling f b w) ≤ w → length (cond c (f w ∷ []) [] ++ falling f b w) ≤ suc w
    go true h = omega arith
    go false h = omega arith

pub in_falling : (x : ℕ) (f : ℕ → ℕ) (b : ℕ → Bool) (w : ℕ) → In x (falling f b w) → (i : ℕ) × (i < w) × (b i ≡ true) × (x ≡ f i)
unfolding count
in_falling x f b zero m = in_none x m
in_falling x f b (suc w) m = go (b w) refl m (in_falling x f b w)
  where
    go : (c : Bool) → b w ≡ c → In x (cond c (f w ∷ []) [] ++ falling f b w)
        → (In x (falling f b w) → (i : ℕ) × (i < w) × (b i ≡ true) × (x ≡ f i)) → (i : ℕ) × (i < suc w) × (b i ≡ true) × (x ≡ f i)
    go true e k r = this (same? x (f w))
      where
        this : Same x (f w) → (i : ℕ) × (i < suc w) × (b i ≡ true) × (x ≡ f i)
        this (equal z n) = (w, omega arith, e, z)
        this (apart z n) = let q = r (omega arith) in (q.0, omega (arith, q.1), q.2, q.3)
    go false e k r = let q = r k in (q.0, omega (arith, q.1), q.2, q.3)

pub falling_in : (f : ℕ → ℕ) (b : ℕ → Bool) (w i : ℕ) → i < w → b i ≡ true → In (f i) (falling f b w)
falling_in f b zero i h e = absurd (omega arith)
falling_in f b (suc w) i h e = go (same? i w) (falling_in f b w i)
  where
    go : Same i w → (i < w → b i ≡ true → In (f i) (falling f b w)) → In (f i) (cond (b w) (f w ∷ []) [] ++ falling f b w)
    go (equal k n) r = let c : b w ≡ true = ap b (sym k) ∙ e in rw (c, k) (in_head (f w) (falling f b w))
    go (apart k n) r = in_right (f i) (cond (b w) (f w ∷ []) []) (falling f b w) (r (omega arith) e)

-- if no two numbers that pass give one, none is listed twice
pub falling_once : (x : ℕ) (f : ℕ → ℕ) (b : ℕ → Bool) (w : ℕ)
    → ((i j : ℕ) → i < w → j < w → b i ≡ true → b j ≡ true → f i ≡ f j → i ≡ j) → count x (falling f b w) ≤ 1
unfolding count
falling_once x f b zero h = omega arith
falling_once x f b (suc w) h = go (b w) refl (falling_once x f b w (λ i j k l. h i j (omega arith) (omega arith)))
  where
    go : (c : Bool) → b w ≡ c → count x (falling f b w) ≤ 1 → count x (cond c (f w ∷ []) [] ++ falling f b w) ≤ 1
    go false e r = r
    go true e r = this (same? x (f w)) (some? (count x (falling f b w)))
      where
        this : Same x (f w) → Some (count x (falling f b w)) → same x (f w) + count x (falling f b w) ≤ 1
        this (apart z n) c = omega arith
        this (equal z n) (none c) = omega arith
        this (equal z n) (some c) =
            let q = in_falling x f b w c in
            let y : w ≡ q.0 = h w q.0 (omega arith) (omega (arith, q.1)) e q.2 (sym z ∙ q.3) in
            absurd (omega (arith, q.1))

-- ---- one list and another

pub falling-same : (f g : ℕ → ℕ) (b c : ℕ → Bool) (w : ℕ) → ((i : ℕ) → i < w → b i ≡ c i) → ((i : ℕ) → i < w → b i ≡ true → f i ≡ g i)
    → falling f b w ≡ falling g c w
falling-same f g b c zero h k = refl
falling-same f g b c (suc w) h k = go (b w) refl (falling-same f g b c w (λ i l. h i (omega arith)) (λ i l. k i (omega arith)))
  where
    go : (x : Bool) → b w ≡ x → falling f b w ≡ falling g c w → falling f b (suc w) ≡ falling g c (suc w)
    go true e r = rw (← (h w (omega arith)), e, k w (omega arith) e, r)
    go false e r = rw (← (h w (omega arith)), e, r)

pub falling_none : (f : ℕ → ℕ) (b : ℕ → Bool) (w : ℕ) → ((i : ℕ) → i < w → b i ≡ false) → falling f b w ≡ []
falling_none f b zero h = refl
falling_none f b (suc w) h = rw (h w (omega arith)) (falling_none f b w (λ i k. h i (omega arith)))

-- with none from t on, those below t are all
pub falling_cut : (f : ℕ → ℕ) (b : ℕ → Bool) (t w : ℕ) → t ≤ w → ((i : ℕ) → t ≤ i → i < w → b i ≡ false) → falling f b w ≡ falling f b t
falling_cut f b t zero h n = let e : t ≡ 0 = omega arith in rw e
falling_cut f b t (suc w) h n = go (same? t (suc w)) (falling_cut f b t w)
  where
    go : Same t (suc w) → (t ≤ w → ((i : ℕ) → t ≤ i → i < w → b i ≡ false) → falling f b w ≡ falling f b t) → falling f b (suc w) ≡ falling f b t
    go (equal k m) r = rw k
    go (apart k m) r = rw (n w (omega arith) (omega arith)) (r (omega arith) (λ i x y. n i x (omega arith)))

-- the highest that passes comes first, then those below it
pub falling_top : (f : ℕ → ℕ) (b : ℕ → Bool) (w t : ℕ) → t < w → b t ≡ true → ((i : ℕ) → t < i → i < w → b i ≡ false) → falling f b w
    ≡ f t ∷ falling f b t
falling_top f b w t h e n = falling_cut f b (suc t) w h (λ i x y. n i x y) ∙ first
  where
    first : falling f b (suc t) ≡ f t ∷ falling f b t
    first = rw e

-- ---- some number below a bound

pub some_tells : (P : ℕ → Type 0) (b : ℕ → Bool) → ((i : ℕ) → Tells (P i) (b i)) → (w : ℕ) → Tells ((i : ℕ) × (i < w) × P i) (some_below b w)
some_tells P b t zero = fails (λ q. absurd (omega (arith, q.1)))
some_tells P b t (suc w) = go (b w) (some_below b w) (t w) (some_tells P b t w)
  where
    go : (x y : Bool) → Tells (P w) x → Tells ((i : ℕ) × (i < w) × P i) y → Tells ((i : ℕ) × (i < suc w) × P i) (x || y)
    go true y (passes p) q = passes (w, omega arith, p)
    go false true (fails p) (passes q) = passes (q.0, omega (arith, q.1), q.2)
    go false false (fails p) (fails q) = fails (λ z. none_of z (same? z.0 w))
      where
        none_of : (z : (i : ℕ) × (i < suc w) × P i) → Same z.0 w → ⊥
        none_of z (equal e n) = p (subst P e z.2)
        none_of z (apart e n) = q (z.0, omega (arith, z.1), z.2)
