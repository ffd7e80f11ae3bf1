-- Positions with distances in a strict order: there is one nearest of a list, and what it is when a position is put in front.
use mathlib.Core.Bool.{Bool, true, false, cond}
use mathlib.Core.List.{List, [], ◌∷◌, ◌++◌}
use mathlib.Core.Path.{◌≡◌, refl, sym, ap, subst, ◌∙◌}
use mathlib.Core.Logic.{◌⊎◌, inl, inr, ◌↔◌}
use Prim.Native.Nat.{ℕ}
use Rattle.lists.proofs.Tells.{clash}
use Rattle.walk.specs.Calls.{All}
use Rattle.walk.specs.Reports.{up_to, NoneBelow, Nearest, Blocks}

-- ---- lists

-- what holds of every member holds of one
all_at : {A : Type 0} (P : A → Type 0) (b : List A) (x : A) (a : List A) → All P (b ++ (x ∷ a)) → P x
all_at P [] x a h = h.0
all_at P (y ∷ b) x a h = all_at P b x a h.1

-- Two members of a list are one, or the second stands before the first, or the first before the second.
meet : {A : Type 0} (P Q : A → Type 0) (b c : List A) (p q : A) (a e : List A) → b ++ (p ∷ a) ≡ c ++ (q ∷ e) → All P b → All Q c
    → (p ≡ q) ⊎ (P q ⊎ Q p)
meet P Q [] [] p q a e h s t = inl (cc)
meet P Q [] (y ∷ c) p q a e h s t = inr (inr (subst Q (let z : y ≡ p = cc in z) t.0))
meet P Q (x ∷ b) [] p q a e h s t = inr (inl (subst P (let z : x ≡ q = cc in z) s.0))
meet P Q (x ∷ b) (y ∷ c) p q a e h s t = meet P Q b c p q a e (cc) s.1 t.1

-- two tests that agree on every member cut a list alike
pub up_to_same : (f g : ℕ → Bool) (l : List ℕ) → All (λ q. f q ≡ g q) l → up_to f l ≡ up_to g l
up_to_same f g [] h = refl
up_to_same f g (p ∷ l) h = rw (h.0, up_to_same f g l h.1)

-- a list has no member of a kind exactly if it has none up to the first
pub up_to_none : (f : ℕ → Bool) (l : List ℕ) → All (λ q. f q ≡ false) (up_to f l) ↔ All (λ q. f q ≡ false) l
up_to_none f l = (to l, from l)
  where
    to : (l : List ℕ) → All (λ q. f q ≡ false) (up_to f l) → All (λ q. f q ≡ false) l
    to [] h = tt
    to (p ∷ l) h = (h.0, to l (subst (λ (c : Bool). All (λ q. f q ≡ false) (cond c [] (up_to f l))) h.0 h.1))

    from : (l : List ℕ) → All (λ q. f q ≡ false) l → All (λ q. f q ≡ false) (up_to f l)
    from [] h = tt
    from (p ∷ l) h = (h.0, subst (λ (c : Bool). All (λ q. f q ≡ false) (cond c [] (up_to f l))) (sym h.0) (from l h.1))

-- ---- distances

-- a test does not both pass and fail
both : {A : Type 0} {b : Bool} → b ≡ true → b ≡ false → A
both e f = clash (sym f ∙ e)

-- A strict order of distances: between two of them every number lies above the lesser or below the greater.
pub record Order {Distance : Type 0} (less : Distance → Distance → Bool) (Number : Distance → Type 0) : Type 0 where
  pub through : (x y z : Distance) → less x y ≡ true → less y z ≡ true → less x z ≡ true
  pub self : (x : Distance) → less x x ≡ false
  pub between : (x y z : Distance) → Number z → less x y ≡ true → less x z ≡ false → less z y ≡ true

module _ {Distance : Type 0} (less : Distance → Distance → Bool) {Number : Distance → Type 0} (order : Order less Number) where
  -- where y is below z and x is not, x is not below y
  not_below : (x y z : Distance) → less y z ≡ true → less x z ≡ false → less x y ≡ false
  not_below x y z e f = go (less x y) refl
    where
      go : (c : Bool) → less x y ≡ c → less x y ≡ false
      go false h = h
      go true h = both (order.through x y z h e) f

  -- where x is below z and the number y is not, x is below y
  is_below : (x y z : Distance) → Number y → less x z ≡ true → less y z ≡ false → less x y ≡ true
  is_below x y z n e f = go (less x y) refl
    where
      go : (c : Bool) → less x y ≡ c → less x y ≡ true
      go true h = h
      go false h = both (order.between x z y n e h) f

module _ {Distance : Type 0} (less : Distance → Distance → Bool) (distance_of : ℕ → Distance) where
  module _ (reach : Distance) where
    -- a list with a position below the reach is not without one
    pub nearest_below : (l : List ℕ) (p : ℕ) → Nearest less distance_of reach l p → NoneBelow less distance_of reach l → ⊥
    nearest_below l p N h = both N.below (all_at _ N.before p N.after (subst (NoneBelow less distance_of reach) N.met h))

    pub blocks_below : (l : List ℕ) (p : ℕ) → Blocks less distance_of reach l p → NoneBelow less distance_of reach l → ⊥
    blocks_below l p B h = both B.below (all_at _ B.before p [] (subst (NoneBelow less distance_of reach) B.last h))

    -- there is one nearest position
    pub one_nearest : (l : List ℕ) (p q : ℕ) → Nearest less distance_of reach l p → Nearest less distance_of reach l q → p ≡ q
    one_nearest l p q P Q =
        pick (meet _ _ P.before Q.before p q P.after Q.after (sym P.met ∙ Q.met) P.farther Q.farther)
      where
        Least : ℕ → List ℕ → Type 0
        Least x k = All (λ y. less (distance_of y) (distance_of x) ≡ false) k

        pick : (p ≡ q) ⊎ ((less (distance_of p) (distance_of q) ≡ true) ⊎ (less (distance_of q) (distance_of p) ≡ true)) → p ≡ q
        pick (inl e) = e
        pick (inr (inl f)) = both f (all_at _ P.before p P.after (subst (Least q) P.met Q.none_nearer))
        pick (inr (inr f)) = both f (all_at _ Q.before q Q.after (subst (Least p) Q.met P.none_nearer))

  -- ---- a position in front of others

  module _ {Number : Distance → Type 0} (order : Order less Number) (p : ℕ) (l : List ℕ) (reach : Distance) where
    -- it is below the reach: it is the nearest, if none of the others is nearer,
    pub front_nearest : less (distance_of p) reach ≡ true → NoneBelow less distance_of (distance_of p) l → Nearest less distance_of reach (p ∷ l) p
    front_nearest e h = record { before = []; after = l; met = refl; below = e; none_nearer = (order.self (distance_of p), h); farther = tt }

    -- else the nearest of those nearer than it is
    pub nearer_later : less (distance_of p) reach ≡ true → (q : ℕ) → Nearest less distance_of (distance_of p) l q
        → Nearest less distance_of reach (p ∷ l) q
    nearer_later e q N = record {
      before = p ∷ N.before;
      after = N.after;
      met = ap (p ∷◌) N.met;
      below = order.through (distance_of q) (distance_of p) reach N.below e;
      none_nearer = (not_below less order (distance_of p) (distance_of q) (distance_of p) N.below (order.self (distance_of p)), N.none_nearer);
      farther = (N.below, N.farther);
    }

    -- it is not below the reach: the nearest of the others stays so
    pub nearest_stays : Number (distance_of p) → less (distance_of p) reach ≡ false → (q : ℕ) → Nearest less distance_of reach l q
        → Nearest less distance_of reach (p ∷ l) q
    nearest_stays n e q N = record {
      before = p ∷ N.before;
      after = N.after;
      met = ap (p ∷◌) N.met;
      below = N.below;
      none_nearer = (not_below less order (distance_of p) (distance_of q) reach N.below e, N.none_nearer);
      farther = (is_below less order (distance_of q) (distance_of p) reach n N.below e, N.farther);
    }

    -- and the first below the reach stays the first
    pub blocks_stays : less (distance_of p) reach ≡ false → (q : ℕ) → Blocks less distance_of reach l q → Blocks less distance_of reach (p ∷ l) q
    blocks_stays e q B = record { before = p ∷ B.before; last = ap (p ∷◌) B.last; below = B.below; first = (e, B.first) }
